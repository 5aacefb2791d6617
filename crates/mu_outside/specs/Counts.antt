-- Counts that stop at the last value that they can hold.
use Rattle.std.specs.Prelude.{ℕ, ◌+◌, ◌-◌, ◌^◌, min}

-- one more, but no more than the count can hold
abbrev pub counted : ℕ → ℕ
counted number = min (number + 1) (2 ^ 64 - 1)
