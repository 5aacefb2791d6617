use Rattle.std.proofs.Common.{◌≡◌, take, map}
use Rattle.mu_decl.specs.Translating.{translated}
use Rattle.mu_decl.proofs.translating.+translated.Given as goal

abbrev pub invariant-translated_all-loop-tree : goal.invariant-translated_all-loop-tree
invariant-translated_all-loop-tree l = l.all ≡ map (translated l.names) (take l.tree-index l.trees)
