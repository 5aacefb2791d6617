use Rattle.std.proofs.Common.{◌≡◌, ◌-◌, ◌^◌, take, map, min}
use Rattle.mu_tree.specs.Trees.{depth, deepest}
use Rattle.mu_tree.proofs.trees.Tree.+tree_depth.Given as goal

abbrev pub invariant-depth_all-loop-tree : goal.invariant-depth_all-loop-tree
invariant-depth_all-loop-tree l = l.depth ≡ min (deepest (map depth (take l.tree-index l.trees))) (2 ^ 64 - 1)
