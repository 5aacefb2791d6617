-- The innermost binder of a name is found by its place.
use Rattle.std.proofs.Common.{◌≡◌, inl, inr, refl, sym, ap, subst, ◌∙◌, ℕ, ◌+◌, ◌-◌, ◌<◌, Bool, true, false, cond, List, [], ◌∷◌, ◌++◌, length, reverse, Some, None, arith}
use Rattle.std.specs.Prelude.{Option, nat_eq}
use Rattle.std.specs.Ordering.{nat_cmp}
use Rattle.std.specs.Cmp.Lexicographic.{pointwise, slice_cmp, same_text, nat_list_eq_equiv}
use Rattle.std.specs.FinMap as finite
use Rattle.std.proofs.lemmas.Bool.{false_from_ne_true}
use Rattle.std.proofs.lemmas.List.{length-append, length-reverse}
use Rattle.std.proofs.lemmas.Option.{slice_get_within}
use Rattle.mu_tree.specs.Maps.{MapOf}
use Rattle.mu_tree.proofs.MapLemmas.{same_name, get-insert_here, get-insert_other}
use Rattle.mu_decl.specs.Nameless.{place}
use Rattle.mu_decl.specs.Binders.{from_end, last_place, HasPlaces}
use Rattle.mu_decl.proofs.Places.{onto, place-is, place-append, place_get}

-- the name that was added last is innermost
last_step : (bound : List (List ℕ)) (x : List ℕ) (b : Bool) (o : Option ℕ) → from_end (bound ++ x ∷ []) (onto 1 (cond b (Some 0) None) o) ≡ cond b (Some (length bound)) (from_end bound o)
last_step bound x true o = let e : length (bound ++ x ∷ []) - 1 - 0 ≡ length bound = omega (arith, length-append bound (x ∷ [])) in ap Some e
last_step bound x false None = refl
last_step bound x false (Some j) = let e : length (bound ++ x ∷ []) - 1 - (1 + j) ≡ length bound - 1 - j = omega (arith, length-append bound (x ∷ [])) in ap Some e

last_place-push : (bound : List (List ℕ)) (x n : List ℕ) → last_place (bound ++ x ∷ []) n ≡ cond (pointwise nat_eq x n) (Some (length bound)) (last_place bound n)
last_place-push bound x n =
    ap (from_end (bound ++ x ∷ [])) (place-append bound (x ∷ []) n ∙ ap (λ o. onto 1 o (place bound n)) (place-is (x ∷ []) n))
    ∙ last_step bound x (pointwise nat_eq x n) (place bound n)

-- no names have no places
pub no_places : HasPlaces finite.empty []
no_places = record { last = λ n. finite.get-empty (slice_cmp nat_cmp) n ∙ sym (ap (from_end []) (place-is [] n)) }

module _ (places : MapOf ℕ) (bound : List (List ℕ)) (has : HasPlaces places bound) where
  -- with the place of one name more
  pub places_more : (x : List ℕ) → HasPlaces (finite.insert places x (length bound)) (bound ++ x ∷ [])
  places_more x = record {
    last = λ n. elim (same_name x n) [
      | inl e ↦
          (let yes : pointwise nat_eq x n ≡ true = subst (λ m. pointwise nat_eq x m ≡ true) e (nat_list_eq_equiv.refl x) in
          ap (finite.get (finite.insert places x (length bound))) (sym e) ∙ get-insert_here places x (length bound) ∙ sym (last_place-push bound x n ∙ ap (λ b. cond b (Some (length bound)) (last_place bound n)) yes))
      | inr other ↦
          (let no : pointwise nat_eq x n ≡ false = false_from_ne_true (pointwise nat_eq x n) (λ t. other (same_text x n (sym t))) in
          get-insert_other places x (length bound) n other ∙ has.last n ∙ sym (last_place-push bound x n ∙ ap (λ b. cond b (Some (length bound)) (last_place bound n)) no))
    ];
  }

  back : (o : Option ℕ) → ((i : ℕ) → o ≡ Some i → i < length bound) → from_end bound (from_end bound o) ≡ o
  back None within = refl
  back (Some i) within = let h = within i refl in let e : length bound - 1 - (length bound - 1 - i) ≡ i = omega arith in ap Some e

  -- the place in the table, counted from the end
  pub from_end_of : (n : List ℕ) → from_end bound (finite.get places n) ≡ place bound n
  from_end_of n = ap (from_end bound) (has.last n) ∙ back (place bound n) (λ i e. omega (arith, slice_get_within (reverse bound) i n (place_get bound n i e), length-reverse bound))
