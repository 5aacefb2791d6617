use Rattle.std.proofs.Common.{take}
use Rattle.mu_check.specs.Instances.{AreSet}
use Rattle.mu_check.proofs.instances.distinct.Given as goal

abbrev pub invariant-loop-name : goal.invariant-loop-name
invariant-loop-name l = AreSet l.set (take l.name-index l.names)
