-- Occurrences that have the arity of the first one of their metavariable agree with one another.
use Rattle.std.proofs.Common.{◌≡◌, inl, inr, refl, sym, ap, subst, ◌∙◌, ℕ, Bool, true, false, nat_eq, List, [], ◌∷◌, Some, None}
use Rattle.std.specs.Prelude.{Option, ◌&&◌}
use Rattle.std.specs.List.{list_all}
use Rattle.std.specs.Ordering.{nat_cmp}
use Rattle.std.specs.Cmp.Lexicographic.{pointwise, slice_cmp, same_text, nat_list_eq_equiv}
use Rattle.std.specs.FinMap as finite
use Rattle.std.proofs.lemmas.Bool.{both_ways, cases_Bool, and_parts, and_from, or_cases, or_left, or_right, not-true, not_from_false, eqb-true, eq-eqb}
use Rattle.mu_tree.specs.Maps.{MapOf}
use Rattle.mu_tree.proofs.MapLemmas.{same_name, get-insert_here, get-insert_other, inserted}
use Rattle.mu_decl.specs.declared.arities.Arity.{Arity}
use Rattle.mu_decl.specs.declared.occurring.Occurrence.{Occurrence}
use Rattle.mu_decl.specs.Formation.{same_kind}
use Rattle.mu_decl.specs.Claims.{agree, agrees}
use Rattle.mu_decl.specs.Arities.{arity_of, has_arity, with_arity_at, with_arity, agree_in_turn}
use Rattle.mu_decl.proofs.SameOccurrences.{kind_is, kind_itself}

arity_same : (a b : Arity) → a.count ≡ b.count → a.kind ≡ b.kind → a ≡ b
arity_same a b c k = λ i. record { count = c i; kind = k i }

arity_is : (a : Arity) (o : Occurrence) → has_arity (Some a) o ≡ true → a ≡ arity_of o
arity_is a o h =
    let parts = and_parts (nat_eq o.count a.count) (same_kind o.kind a.kind) h in
    arity_same a (arity_of o) (sym (eqb-true o.count a.count parts.0)) (sym (kind_is o.kind a.kind parts.1))

arity_has : (a : Arity) (o : Occurrence) → a ≡ arity_of o → has_arity (Some a) o ≡ true
arity_has a o e = and_from _ _ (eq-eqb o.count a.count (sym (ap (λ (b : Arity). b.count) e))) (subst (λ k. same_kind o.kind k ≡ true) (sym (ap (λ (b : Arity). b.kind) e)) (kind_itself o.kind))

-- occurrences of one metavariable that agree have one arity
one_arity : (o p : Occurrence) → agree o p ≡ true → p.meta ≡ o.meta → arity_of o ≡ arity_of p
one_arity o p h e = elim (or_cases _ _ h) [
  | inl n ↦ absurd (both_ways _ (not-true _ n) (subst (λ m. pointwise nat_eq p.meta m ≡ true) e (nat_list_eq_equiv.refl p.meta)))
  | inr s ↦
      let kinds = and_parts (pointwise nat_eq p.meta o.meta && nat_eq p.count o.count) (same_kind p.kind o.kind) s in
      let counts = and_parts (pointwise nat_eq p.meta o.meta) (nat_eq p.count o.count) kinds.0 in
      arity_is (arity_of o) p (and_from _ _ counts.1 kinds.1)
]

agree_by : (o p : Occurrence) → (p.meta ≡ o.meta → arity_of o ≡ arity_of p) → agree o p ≡ true
agree_by o p h = elim (cases_Bool (pointwise nat_eq p.meta o.meta)) [
  | inl t ↦
      let arities = and_parts (nat_eq p.count o.count) (same_kind p.kind o.kind) (arity_has (arity_of o) p (h (same_text p.meta o.meta (sym t)))) in
      or_right _ _ (and_from _ _ (and_from _ _ t arities.0) arities.1)
  | inr f ↦ or_left _ _ (not_from_false _ f)
]

agree_back : (o p : Occurrence) → agree o p ≡ true → agree p o ≡ true
agree_back o p h = agree_by p o (λ e. sym (one_arity o p h (sym e)))

-- an occurrence more to agree with
fewer : (o : Occurrence) (os ps : List Occurrence) → list_all (agrees (o ∷ os)) ps ≡ true → list_all (agrees os) ps ≡ true
fewer o os [] h = refl
fewer o os (p ∷ ps) h =
    let parts = and_parts (agrees (o ∷ os) p) (list_all (agrees (o ∷ os)) ps) h in
    and_from _ _ (and_parts (agree p o) (agrees os p) parts.0).1 (fewer o os ps parts.1)

more : (o : Occurrence) (os ps : List Occurrence) → agrees ps o ≡ true → list_all (agrees os) ps ≡ true → list_all (agrees (o ∷ os)) ps ≡ true
more o os [] g h = refl
more o os (p ∷ ps) g h =
    let new = and_parts (agree o p) (agrees ps o) g in
    let old = and_parts (agrees os p) (list_all (agrees os) ps) h in
    and_from _ _ (and_from _ _ (agree_back o p new.0) old.0) (more o os ps new.1 old.1)

abbrev occurrence : List ℕ → Arity → Occurrence
occurrence m a = record { meta = m; count = a.count; kind = a.kind }

-- all that is known agrees with some occurrences
abbrev AllAgree : MapOf Arity → List Occurrence → Type 0
AllAgree known os = (m : List ℕ) (a : Arity) → finite.get known m ≡ Some a → agrees os (occurrence m a) ≡ true

module _ (known : MapOf Arity) (o : Occurrence) where
  noted_here : (found : Option Arity) → finite.get known o.meta ≡ found → has_arity found o ≡ true → finite.get (with_arity_at known o found) o.meta ≡ Some (arity_of o)
  noted_here None is h = get-insert_here known o.meta (arity_of o)
  noted_here (Some a) is h = is ∙ ap Some (arity_is a o h)

  noted_still : (found : Option Arity) → finite.get known o.meta ≡ found → (m : List ℕ) (a : Arity) → finite.get known m ≡ Some a → finite.get (with_arity_at known o found) m ≡ Some a
  noted_still None none m a is = elim (same_name o.meta m) [
    | inl e ↦ (let no : None ≡ Some a = sym none ∙ ap (finite.get known) e ∙ is in cc)
    | inr n ↦ get-insert_other known o.meta (arity_of o) m n ∙ is
  ]
  noted_still (Some b) some m a is = is

  noted_agree : (found : Option Arity) (os : List Occurrence) → agrees os o ≡ true → AllAgree known os → AllAgree (with_arity_at known o found) os
  noted_agree None os here there = inserted known o.meta (arity_of o) (λ m a. agrees os (occurrence m a) ≡ true) here there
  noted_agree (Some b) os here there = there

  -- what is known of the metavariable agrees with its occurrence
  known_has : (found : Option Arity) → finite.get known o.meta ≡ found → ((m : List ℕ) (a : Arity) → finite.get known m ≡ Some a → agree (occurrence m a) o ≡ true) → has_arity found o ≡ true
  known_has None is h = refl
  known_has (Some a) is h = arity_has a o (one_arity (occurrence o.meta a) o (h o.meta a is) refl)

  has_known : (found : Option Arity) → finite.get known o.meta ≡ found → has_arity found o ≡ true → (m : List ℕ) (a : Arity) → finite.get known m ≡ Some a → agree (occurrence m a) o ≡ true
  has_known found is h m a at = agree_by (occurrence m a) o (λ e. some_same (sym (noted_still found is m a at) ∙ ap (finite.get (with_arity_at known o found)) (sym e) ∙ noted_here found is h))
    where
      some_same : {A : Type 0} {x y : A} → Some x ≡ Some y → x ≡ y
      some_same e = cc

all_agree : (known : MapOf Arity) (os : List Occurrence) → agree_in_turn known os ≡ true → (list_all (agrees os) os ≡ true) × AllAgree known os
all_agree known [] h = (refl, λ m a is. refl)
all_agree known (o ∷ rest) h =
    let parts = and_parts (has_arity (finite.get known o.meta) o) (agree_in_turn (with_arity known o) rest) h in
    let later = all_agree (with_arity known o) rest parts.1 in
    let here = noted_here known o (finite.get known o.meta) refl parts.0 in
    let first = later.1 o.meta (arity_of o) here in
    let itself = agree_by o o (λ e. refl) in (
      and_from _ _ (and_from _ _ itself first) (more o rest rest first later.0),
      λ m a is. and_from _ _ (has_known known o (finite.get known o.meta) refl parts.0 m a is) (later.1 m a (noted_still known o (finite.get known o.meta) refl m a is)),
    )

in_turn : (known : MapOf Arity) (os : List Occurrence) → list_all (agrees os) os ≡ true → AllAgree known os → agree_in_turn known os ≡ true
in_turn known [] all there = refl
in_turn known (o ∷ rest) all there =
    let parts = and_parts (agrees (o ∷ rest) o) (list_all (agrees (o ∷ rest)) rest) all in
    let first = and_parts (agree o o) (agrees rest o) parts.0 in
    let known_agree = λ (m : List ℕ) (a : Arity) (is : finite.get known m ≡ Some a). and_parts (agree (occurrence m a) o) (agrees rest (occurrence m a)) (there m a is) in
    and_from _ _
    (known_has known o (finite.get known o.meta) refl (λ m a is. (known_agree m a is).0))
    (in_turn (with_arity known o) rest (fewer o rest rest parts.1)
    (noted_agree known o (finite.get known o.meta) rest first.1 (λ m a is. (known_agree m a is).1)))

one_truth : (a b : Bool) → (a ≡ true → b ≡ true) → (b ≡ true → a ≡ true) → a ≡ b
one_truth true b f g = sym (f refl)
one_truth false true f g = g refl
one_truth false false f g = refl

-- each is of the arity that is known before it exactly where all agree with all
pub agreement_in_turn : (all : List Occurrence) → agree_in_turn finite.empty all ≡ list_all (agrees all) all
agreement_in_turn all =
    let blank : AllAgree finite.empty all = λ m a is. (let no : None ≡ Some a = sym (finite.get-empty (slice_cmp nat_cmp) m) ∙ is in cc) in
    one_truth _ _ (λ h. (all_agree finite.empty all h).0) (λ h. in_turn finite.empty all h blank)
