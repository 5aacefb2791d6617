use Rattle.std.proofs.Common.{◌≡◌, take, map}
use Rattle.mu_decl.specs.Nameless.{nameless}
use Rattle.mu_check.proofs.facts.enter_all.Given as goal

abbrev pub invariant-loop-tree : goal.invariant-loop-tree
invariant-loop-tree l = l.all ≡ map (nameless l.scope l.bound) (take l.tree-index l.trees)
