use Rattle.std.proofs.Common.{◌≡◌, ◌++◌, map}
use Rattle.mu_graph.specs.declared.walks.Step.TheVariants.{Enter}
use Rattle.mu_graph.proofs.walks.enter_all.Given as goal

abbrev pub invariant-loop-key : goal.invariant-loop-key
invariant-loop-key g l = l.work.items ≡ l.initial.work.items ++ map Enter l.yielded
