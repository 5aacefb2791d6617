use Rattle.std.proofs.Common.{◌≡◌, take, map}
use Rattle.std.specs.List.{fold}
use Rattle.mu_tree.specs.Trees.{add_name, occurrences, joined}
use Rattle.mu_tree.proofs.trees.Tree.+add_names.Given as goal

abbrev pub invariant-loop-tree : goal.invariant-loop-tree
invariant-loop-tree l = l.found ≡ fold add_name l.initial.found (joined (map occurrences (take l.tree-index l.tree-items)))

abbrev pub invariant-loop-tree-2 : goal.invariant-loop-tree-2
invariant-loop-tree-2 l = l.found ≡ fold add_name l.initial.found (joined (map occurrences (take l.tree-index l.tree-items)))
