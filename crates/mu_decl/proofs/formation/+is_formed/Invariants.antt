use Rattle.std.proofs.Common.{◌≡◌, true, take, drop}
use Rattle.std.specs.Cmp.Lexicographic.{pointwise}
use Rattle.std.specs.List.{list_all}
use Rattle.mu_tree.specs.declared.claim.Kind.TheVariants.{E}
use Rattle.mu_decl.specs.Formation.{is_formed}
use Rattle.mu_decl.specs.Scopes.{layered}
use Rattle.mu_decl.proofs.formation.+is_formed.Given as goal

abbrev pub invariant-are_formed-loop-i : goal.invariant-are_formed-loop-i
invariant-are_formed-loop-i g l = record {
  value : pointwise (is_formed (g.C.Context.world l.context) l.seen (layered l.around.scope.now l.around.own.now l.initial.inner)) l.kinds l.trees ≡ pointwise (is_formed (g.C.Context.world l.context) l.seen (layered l.around.scope.now l.around.own.now l.initial.inner)) (drop l.i l.kinds) (drop l.i l.trees);
  kept : l.inner ≡ l.initial.inner;
}

abbrev pub invariant-all_formed_within-loop-tree : goal.invariant-all_formed_within-loop-tree
invariant-all_formed_within-loop-tree g l = record {
  value : list_all (is_formed (g.C.Context.world l.context) l.seen (layered l.around.scope.now l.around.own.now l.initial.inner) E) (take l.tree-index l.trees) ≡ true;
  kept : l.inner ≡ l.initial.inner;
}
