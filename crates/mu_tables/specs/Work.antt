-- The count of work.
use Rattle.std.specs.Prelude.{ℕ, ◌+◌, ◌-◌, ◌^◌, min}

-- n more, but no more than the count can hold
abbrev pub raised : ℕ → ℕ → ℕ
raised lines n = min (lines + n) (2 ^ 64 - 1)
