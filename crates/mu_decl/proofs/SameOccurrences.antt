-- Kinds, and occurrences of metavariables, that the tests find the same are the same.
use Rattle.std.proofs.Common.{◌≡◌, refl, sym, true, nat_eq}
use Rattle.std.specs.Prelude.{◌&&◌}
use Rattle.std.specs.Cmp.Lexicographic.{pointwise, same_text, nat_list_eq_equiv}
use Rattle.std.proofs.lemmas.Bool.{and_parts, and_from, eqb-true, eq-eqb}
use Rattle.mu_tree.specs.declared.claim.Kind.{Kind}
use Rattle.mu_tree.specs.declared.claim.Kind.TheVariants.{E, T}
use Rattle.mu_decl.specs.declared.occurring.Occurrence.{Occurrence}
use Rattle.mu_decl.specs.Formation.{same_kind}
use Rattle.mu_decl.specs.Claims.{same_occurrence}

pub kind_is : (a b : Kind) → same_kind a b ≡ true → a ≡ b
kind_is E E e = refl
kind_is T T e = refl
kind_is E T e = cc
kind_is T E e = cc

pub kind_itself : (a : Kind) → same_kind a a ≡ true
kind_itself E = refl
kind_itself T = refl

pub occurrence_is : (o p : Occurrence) → same_occurrence o p ≡ true → o ≡ p
occurrence_is o p h =
    let kinds = and_parts (pointwise nat_eq p.meta o.meta && nat_eq p.count o.count) (same_kind p.kind o.kind) h in
    let counts = and_parts (pointwise nat_eq p.meta o.meta) (nat_eq p.count o.count) kinds.0 in
    let meta : o.meta ≡ p.meta = sym (same_text p.meta o.meta (sym counts.0)) in
    let count : o.count ≡ p.count = sym (eqb-true p.count o.count counts.1) in
    let kind : o.kind ≡ p.kind = sym (kind_is p.kind o.kind kinds.1) in
    λ i. record { meta = meta i; count = count i; kind = kind i }

pub occurrence_itself : (o : Occurrence) → same_occurrence o o ≡ true
occurrence_itself o = and_from _ _ (and_from _ _ (nat_list_eq_equiv.refl o.meta) (eq-eqb o.count o.count refl)) (kind_itself o.kind)
