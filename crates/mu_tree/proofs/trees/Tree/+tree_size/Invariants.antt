use Rattle.std.proofs.Common.{◌≡◌, ◌-◌, ◌^◌, take, map, min, sum}
use Rattle.mu_tree.specs.Trees.{size}
use Rattle.mu_tree.proofs.trees.Tree.+tree_size.Given as goal

abbrev pub invariant-size_all-loop-tree : goal.invariant-size_all-loop-tree
invariant-size_all-loop-tree l = l.size ≡ min (sum (map size (take l.tree-index l.trees))) (2 ^ 64 - 1)
