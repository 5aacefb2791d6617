use Rattle.std.proofs.Common.{◌≡◌, ◌++◌, drop}
use Rattle.mu_check.specs.Definitions.{parameters}
use Rattle.mu_check.proofs.definitions.parameters.Given as goal

abbrev pub invariant-loop-i : goal.invariant-loop-i
invariant-loop-i l = parameters l.names l.kinds ≡ l.scope ++ parameters (drop l.i l.names) (drop l.i l.kinds)
