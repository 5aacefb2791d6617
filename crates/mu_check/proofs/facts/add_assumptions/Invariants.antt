use Rattle.std.proofs.Common.{◌≡◌, ◌++◌, take, map}
use Rattle.mu_check.specs.Facts.{plain_fact}
use Rattle.mu_check.proofs.facts.add_assumptions.Given as goal

abbrev pub invariant-loop-tree : goal.invariant-loop-tree
invariant-loop-tree l = l.facts ≡ l.initial.facts ++ map (plain_fact l.scope) (take l.tree-index l.trees)
