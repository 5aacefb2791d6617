use Rattle.std.proofs.Common.{◌≡◌}
use Rattle.mu_defs.specs.Sight.{set_of}
use Rattle.mu_defs.proofs.sight.set_of.Given as goal

abbrev pub invariant-loop-name : goal.invariant-loop-name
invariant-loop-name l = l.set ≡ set_of l.yielded
