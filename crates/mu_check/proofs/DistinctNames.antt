-- Names that differ, and their set.
use Rattle.std.proofs.Common.{◌≡◌, inl, inr, refl, sym, ap, subst, ◌∙◌, ℕ, Bool, true, false, nat_eq, List, [], ◌∷◌, ◌++◌}
use Rattle.std.specs.Prelude.{◌&&◌, ◌||◌, not, is_some}
use Rattle.std.specs.List.{list_any, list_all}
use Rattle.std.specs.Ordering.{nat_cmp}
use Rattle.std.specs.Cmp.Lexicographic.{pointwise, slice_cmp, same_text, nat_list_eq_equiv}
use Rattle.std.specs.FinMap as finite
use Rattle.std.proofs.lemmas.Bool.{and_parts, and_from, false_from_ne_true}
use Rattle.std.proofs.lemmas.List.Folds.{list_any-append}
use Rattle.mu_tree.specs.Maps.{NamesOf}
use Rattle.mu_tree.specs.Names.{is_among}
use Rattle.mu_tree.proofs.MapLemmas.{same_name, get-insert_here, get-insert_other}
use Rattle.mu_decl.specs.declared.occurring.Occurrence.{Occurrence}
use Rattle.mu_check.specs.Instances.{are_distinct, AreSet, has_meta}

sort : (a e d m : Bool) → (not (a || (e || false)) && (d && not m)) ≡ ((not a && d) && not (e || m))
sort true e d m = refl
sort false true true m = refl
sort false true false m = refl
sort false false true m = refl
sort false false false m = refl

same_back : (a b : List ℕ) → pointwise nat_eq a b ≡ pointwise nat_eq b a
same_back a b = nat_list_eq_equiv.symm a b

distinct_more : (xs : List (List ℕ)) (n : List ℕ) → are_distinct (xs ++ n ∷ []) ≡ (are_distinct xs && not (is_among xs n))
distinct_more [] n = refl
distinct_more (x ∷ xs) n =
    ap (λ b. not b && are_distinct (xs ++ n ∷ [])) (list_any-append (λ other. pointwise nat_eq other x) xs (n ∷ []))
    ∙ ap (λ d. not (is_among xs x || (pointwise nat_eq n x || false)) && d) (distinct_more xs n)
    ∙ ap (λ e. not (is_among xs x || (e || false)) && (are_distinct xs && not (is_among xs n))) (same_back n x)
    ∙ sort (is_among xs x) (pointwise nat_eq x n) (are_distinct xs) (is_among xs n)

distinct_part : (xs ys : List (List ℕ)) → are_distinct (xs ++ ys) ≡ true → are_distinct xs ≡ true
distinct_part [] ys e = refl
distinct_part (x ∷ xs) ys e =
    let parts = and_parts (not (is_among (xs ++ ys) x)) (are_distinct (xs ++ ys)) e in
    and_from _ _ (not_in (is_among xs x) (is_among ys x) (ap not (sym (list_any-append (λ other. pointwise nat_eq other x) xs ys)) ∙ parts.0)) (distinct_part xs ys parts.1)
  where
    not_in : (a b : Bool) → not (a || b) ≡ true → not a ≡ true
    not_in true b h = h
    not_in false b h = refl

-- a name that stands before makes the names no distinct ones
pub stands_twice : (xs ys : List (List ℕ)) (n : List ℕ) → is_among xs n ≡ true → are_distinct ((xs ++ n ∷ []) ++ ys) ≡ false
stands_twice xs ys n is = false_from_ne_true _ (λ t.
    let both = and_parts (are_distinct xs) (not (is_among xs n)) (sym (distinct_more xs n) ∙ distinct_part (xs ++ n ∷ []) ys t) in
    let z : ⊥ = cc (both.1, is) in z)

pub no_names : AreSet finite.empty []
no_names = record {
  distinct = refl;
  among = λ n. ap is_some (finite.get-empty (slice_cmp nat_cmp) n);
}

-- a name more
pub name_more : (set : NamesOf) (xs : List (List ℕ)) (n : List ℕ) → AreSet set xs → finite.contains_key set n ≡ false → AreSet (finite.insert set n tt) (xs ++ n ∷ [])
name_more set xs n are other = record {
  distinct = distinct_more xs n ∙ (let not_among : is_among xs n ≡ false = sym (are.among n) ∙ other in let d = are.distinct in cc);
  among = λ q. elim (same_name n q) [
    | inl e ↦
        (let here = get-insert_here set n tt in
        let app = list_any-append (λ other. pointwise nat_eq other q) xs (n ∷ []) in
        let yes : pointwise nat_eq n q ≡ true = subst (λ m. pointwise nat_eq n m ≡ true) e (nat_list_eq_equiv.refl n) in
        ap is_some (ap (finite.get (finite.insert set n tt)) (sym e) ∙ here) ∙ sym (app ∙ ap (λ b. list_any (λ other. pointwise nat_eq other q) xs || (b || false)) yes ∙ or_true (is_among xs q)))
    | inr d ↦
        (let there = get-insert_other set n tt q d in
        let app = list_any-append (λ other. pointwise nat_eq other q) xs (n ∷ []) in
        let other : pointwise nat_eq n q ≡ false = false_from_ne_true (pointwise nat_eq n q) (λ t. d (same_text n q (sym t))) in
        ap is_some there ∙ are.among q ∙ sym (app ∙ ap (λ b. list_any (λ other. pointwise nat_eq other q) xs || (b || false)) other ∙ or_false (is_among xs q)))
  ];
}
  where
    or_true : (a : Bool) → (a || true) ≡ true
    or_true true = refl
    or_true false = refl

    or_false : (a : Bool) → (a || false) ≡ a
    or_false true = refl
    or_false false = refl

-- metavariables by the set and by the list
pub metas_by_set : (set : NamesOf) (names : List (List ℕ)) → AreSet set names → (all : List Occurrence) → list_all (λ o. finite.contains_key set o.meta) all ≡ list_all (has_meta names) all
metas_by_set set names are [] = refl
metas_by_set set names are (o ∷ all) =
    let here = are.among o.meta in
    let rest = metas_by_set set names are all in
    cc
