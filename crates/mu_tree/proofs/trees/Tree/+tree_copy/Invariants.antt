use Rattle.std.proofs.Common.{◌≡◌, take}
use Rattle.mu_tree.proofs.trees.Tree.+tree_copy.Given as goal

abbrev pub invariant-copy_all-loop-tree : goal.invariant-copy_all-loop-tree
invariant-copy_all-loop-tree l = l.copies.items ≡ take l.tree-index l.trees
