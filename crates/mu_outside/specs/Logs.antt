-- The calls of a desk so far, and what a call does to them.
use Rattle.std.specs.Prelude.{ℕ, List, [], ◌∷◌, ◌++◌}
use Rattle.mu_outside.specs.Counts.{counted}
use Rattle.mu_outside.specs.declared.calls.Call.{Call}

-- the first content of the disk, the calls that were noted, and how many calls there was no memory to note
pub record LogState : Type 0 where
  pub first : List ℕ
  pub calls : List Call
  pub starved : ℕ

-- the call is noted
abbrev pub with_call : Call → LogState → LogState
with_call call log = record log { calls = log.calls ++ call ∷ [] }

-- there was no memory to note a call
abbrev pub with_starved : LogState → LogState
with_starved log = record log { starved = counted log.starved }
