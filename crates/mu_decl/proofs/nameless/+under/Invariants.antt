use Rattle.std.proofs.Common.{◌≡◌, ◌++◌, take, map}
use Rattle.mu_decl.specs.Nameless.{nameless}
use Rattle.mu_decl.proofs.nameless.+under.Given as goal

abbrev pub invariant-under_all-loop-tree : goal.invariant-under_all-loop-tree
invariant-under_all-loop-tree l = record {
  value : l.all ≡ map (nameless l.scope (l.bound ++ l.initial.inner)) (take l.tree-index l.trees);
  kept : l.inner ≡ l.initial.inner;
}
