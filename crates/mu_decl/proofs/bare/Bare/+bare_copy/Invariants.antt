use Rattle.std.proofs.Common.{◌≡◌, take}
use Rattle.mu_decl.proofs.bare.Bare.+bare_copy.Given as goal

abbrev pub invariant-copy_all-loop-tree : goal.invariant-copy_all-loop-tree
invariant-copy_all-loop-tree l = l.copies ≡ take l.tree-index l.trees
