use Rattle.std.proofs.Common.{◌≡◌, ◌++◌, take, map}
use Rattle.mu_check.specs.Hypotheses.{opened_fact}
use Rattle.mu_check.proofs.hypotheses.add_opened.Given as goal

abbrev pub invariant-loop-tree : goal.invariant-loop-tree
invariant-loop-tree l = l.facts ≡ l.initial.facts ++ map (opened_fact l.by) (take l.tree-index l.trees)
