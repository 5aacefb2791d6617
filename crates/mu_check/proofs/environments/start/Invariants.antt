use Rattle.std.proofs.Common.{◌≡◌, take, map}
use Rattle.mu_check.specs.Facts.{hypothesis_fact}
use Rattle.mu_check.proofs.environments.start.Given as goal

abbrev pub invariant-loop-hypothesis : goal.invariant-loop-hypothesis
invariant-loop-hypothesis l = l.hyps ≡ map hypothesis_fact (take l.hypothesis-index l.hypothesis-items)
