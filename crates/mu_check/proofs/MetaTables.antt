-- A table has what is asked of the occurrences that were put into it.
use Rattle.std.proofs.Common.{◌≡◌, inl, inr, refl, sym, ap, subst, ◌∙◌, ℕ, Bool, true, false, nat_eq, cond, List, [], ◌∷◌, ◌++◌, Some, None}
use Rattle.std.specs.Prelude.{Option, ◌||◌, slice_get}
use Rattle.std.specs.Option.{unwrap_or, option_or}
use Rattle.std.specs.List.{list_any}
use Rattle.std.specs.Ordering.{nat_cmp}
use Rattle.std.specs.Cmp.Lexicographic.{pointwise, slice_cmp, same_text, nat_list_eq_equiv}
use Rattle.std.specs.FinMap as finite
use Rattle.std.proofs.lemmas.Bool.{and_left, cases_Bool, false_from_ne_true}
use Rattle.std.proofs.lemmas.List.Folds.{list_any-append}
use Rattle.mu_tree.specs.Maps.{MapOf}
use Rattle.mu_tree.proofs.MapLemmas.{same_name, get-insert_here, get-insert_other, insert_twice}
use Rattle.mu_decl.specs.declared.occurring.Occurrence.{Occurrence}
use Rattle.mu_decl.specs.Claims.{same_occurrence}
use Rattle.mu_decl.proofs.SameOccurrences.{occurrence_is}
use Rattle.mu_check.specs.Metas.{is_known, first_of, occurrences_at, is_tabled, noted, Tells}

names_differ : (a b : List ℕ) → (a ≡ b → ⊥) → pointwise nat_eq a b ≡ false
names_differ a b n = false_from_ne_true (pointwise nat_eq a b) (λ t. n (same_text a b (sym t)))

name_itself : (a b : List ℕ) → a ≡ b → pointwise nat_eq a b ≡ true
name_itself a b e = subst (λ c. pointwise nat_eq a c ≡ true) e (nat_list_eq_equiv.refl a)

apart : (q o : Occurrence) → (o.meta ≡ q.meta → ⊥) → same_occurrence q o ≡ false
apart q o n = and_left _ _ (and_left _ _ (names_differ o.meta q.meta n))

or_false : (a : Bool) → (a || false) ≡ a
or_false true = refl
or_false false = refl

or_true : (a b : Bool) → (b ≡ true → a ≡ true) → a ≡ (a || b)
or_true true b h = refl
or_true false false h = refl
or_true false true h = h refl

known_more : (all : List Occurrence) (o q : Occurrence) → is_known (all ++ o ∷ []) q ≡ (is_known all q || same_occurrence q o)
known_more all o q = list_any-append (same_occurrence q) all (o ∷ []) ∙ ap (λ b. list_any (same_occurrence q) all || b) (or_false (same_occurrence q o))

first_more : (all : List Occurrence) (o : Occurrence) (m : List ℕ) → first_of (all ++ o ∷ []) m ≡ option_or (first_of all m) (cond (pointwise nat_eq o.meta m) (Some o) None)
first_more [] o m = refl
first_more (p ∷ all) o m = elim (cases_Bool (pointwise nat_eq p.meta m)) [
  | inl t ↦ cc t
  | inr f ↦ (let r = first_more all o m in cc (f, r))
]

head_more : (xs : List Occurrence) (o : Occurrence) → slice_get (xs ++ o ∷ []) 0 ≡ option_or (slice_get xs 0) (Some o)
head_more [] o = refl
head_more (x ∷ xs) o = refl

or_none : (x : Option Occurrence) → option_or x None ≡ x
or_none None = refl
or_none (Some x) = refl

known_head : (xs : List Occurrence) (q : Occurrence) (y : Option Occurrence) → is_known xs q ≡ true → option_or (slice_get xs 0) y ≡ slice_get xs 0
known_head [] q y h = cc
known_head (x ∷ xs) q y h = refl

module _ (table : MapOf (List Occurrence)) (all : List Occurrence) (o : Occurrence) (tells : Tells table all) where
  -- it occurs in this way already
  kept : is_tabled table o ≡ true → Tells table (all ++ o ∷ [])
  kept is = record {
    known = λ q. tells.known q ∙ or_true (is_known all q) (same_occurrence q o) (λ s. subst (λ p. is_known all p ≡ true) (sym (occurrence_is q o s)) (sym (tells.known o) ∙ is)) ∙ sym (known_more all o q);
    first = λ m. kept_first m;
  }
    where
      kept_first : (m : List ℕ) → slice_get (occurrences_at table m) 0 ≡ first_of (all ++ o ∷ []) m
      kept_first m = elim (same_name o.meta m) [
        | inl e ↦
            (let here = known_head (occurrences_at table o.meta) o (Some o) is in
            let was = tells.first m in
            let more = first_more all o m in
            let yes = name_itself o.meta m e in
            cc)
        | inr n ↦ tells.first m ∙ sym (or_none (first_of all m)) ∙ ap (λ b. option_or (first_of all m) (cond b (Some o) None)) (sym (names_differ o.meta m n)) ∙ sym (first_more all o m)
      ]

  abbrev put : MapOf (List Occurrence)
  put = finite.insert table o.meta (occurrences_at table o.meta ++ o ∷ [])

  put_here : (m : List ℕ) → o.meta ≡ m → occurrences_at put m ≡ occurrences_at table m ++ o ∷ []
  put_here m e =
      let here = get-insert_here table o.meta (occurrences_at table o.meta ++ o ∷ []) in
      cc

  put_there : (m : List ℕ) → (o.meta ≡ m → ⊥) → occurrences_at put m ≡ occurrences_at table m
  put_there m n = ap (λ found. unwrap_or found []) (get-insert_other table o.meta (occurrences_at table o.meta ++ o ∷ []) m n)

  added : Tells put (all ++ o ∷ [])
  added = record {
    known = λ q. elim (same_name o.meta q.meta) [
      | inl e ↦ ap (λ xs. is_known xs q) (put_here q.meta e) ∙ known_more (occurrences_at table q.meta) o q ∙ ap (λ b. b || same_occurrence q o) (tells.known q) ∙ sym (known_more all o q)
      | inr n ↦ ap (λ xs. is_known xs q) (put_there q.meta n) ∙ tells.known q ∙ sym (or_false (is_known all q)) ∙ ap (λ b. is_known all q || b) (sym (apart q o n)) ∙ sym (known_more all o q)
    ];
    first = λ m. elim (same_name o.meta m) [
      | inl e ↦ ap (λ xs. slice_get xs 0) (put_here m e) ∙ head_more (occurrences_at table m) o ∙ ap (λ x. option_or x (Some o)) (tells.first m) ∙ ap (λ b. option_or (first_of all m) (cond b (Some o) None)) (sym (name_itself o.meta m e)) ∙ sym (first_more all o m)
      | inr n ↦ ap (λ xs. slice_get xs 0) (put_there m n) ∙ tells.first m ∙ sym (or_none (first_of all m)) ∙ ap (λ b. option_or (first_of all m) (cond b (Some o) None)) (sym (names_differ o.meta m n)) ∙ sym (first_more all o m)
    ];
  }

  -- with one occurrence more
  pub noted_tells : Tells (noted table o) (all ++ o ∷ [])
  noted_tells = elim (cases_Bool (is_tabled table o)) [
    | inl t ↦ subst (λ b. Tells (cond b table put) (all ++ o ∷ [])) (sym t) (kept t)
    | inr f ↦ subst (λ b. Tells (cond b table put) (all ++ o ∷ [])) (sym f) added
  ]

-- nothing is asked of no occurrences
pub empty_tells : Tells finite.empty []
empty_tells = record {
  known = λ o. ap (λ found. is_known (unwrap_or found []) o) (finite.get-empty (slice_cmp nat_cmp) o.meta);
  first = λ m. ap (λ found. slice_get (unwrap_or found []) 0) (finite.get-empty (slice_cmp nat_cmp) m);
}

-- what was taken out of a table goes back with an occurrence more
pub put_back : (before taken after : MapOf (List Occurrence)) (m : List ℕ) (o : Occurrence) (b : Bool) (same : List Occurrence) → (b ≡ true → taken ≡ finite.insert before m []) → (b ≡ false → taken ≡ before) → same ≡ occurrences_at before m → after ≡ finite.insert taken m (same ++ o ∷ []) → after ≡ finite.insert before m (occurrences_at before m ++ o ∷ [])
put_back before taken after m o true same h n s p = p ∙ ap (λ t. finite.insert t m (same ++ o ∷ [])) (h refl) ∙ insert_twice before m [] (same ++ o ∷ []) ∙ ap (λ xs. finite.insert before m (xs ++ o ∷ [])) s
put_back before taken after m o false same h n s p = p ∙ ap (λ t. finite.insert t m (same ++ o ∷ [])) (n refl) ∙ ap (λ xs. finite.insert before m (xs ++ o ∷ [])) s
