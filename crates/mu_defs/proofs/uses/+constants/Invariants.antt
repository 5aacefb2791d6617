use Rattle.std.proofs.Common.{◌≡◌, ◌++◌, take, map}
use Rattle.mu_tree.specs.Trees.{joined}
use Rattle.mu_defs.specs.Uses.{constants_in}
use Rattle.mu_defs.proofs.uses.+constants.Given as goal

abbrev pub invariant-add_all-loop-tree : goal.invariant-add_all-loop-tree
invariant-add_all-loop-tree l = record {
  value : l.found.items ≡ l.initial.found.items ++ joined (map (constants_in (l.scope ++ l.initial.inner)) (take l.tree-index l.trees));
  kept : l.inner ≡ l.initial.inner;
}
