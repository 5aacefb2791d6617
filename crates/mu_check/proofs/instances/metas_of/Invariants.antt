use Rattle.std.proofs.Common.{◌≡◌, take}
use Rattle.mu_check.specs.Instances.{metas_of}
use Rattle.mu_check.proofs.instances.metas_of.Given as goal

abbrev pub invariant-loop-each : goal.invariant-loop-each
invariant-loop-each l = l.names ≡ metas_of (take l.each-index l.given)
