-- The entries of a finite map by name as members of a list.
use Rattle.std.proofs.Common.{refl, sym, ap, subst, ◌∙◌, ◌≡◌, ℕ, Bool, true, false, List, [], ◌∷◌, map, Some, inl, inr}
use Rattle.std.specs.Prelude.{◌&&◌, T}
use Rattle.std.specs.List.Sorted.{IsStrictlySortedBy}
use Rattle.std.specs.Ordering.{nat_cmp, eq_by_cmp, is_eq, is_lt, is_gt, ordering_reverse}
use Rattle.std.specs.declared.cmp.Ordering.{Ordering}
use Rattle.std.specs.declared.cmp.Ordering.TheVariants.{Less, Equal, Greater}
use Rattle.std.specs.Cmp.{tied_itself}
use Rattle.std.specs.Cmp.Lexicographic.{slice_cmp, nat_list_cmp_total}
use Rattle.std.specs.FinMap as finite
use Rattle.std.specs.FinMap.Entries.{find, is_sorted, below_all}
use Rattle.std.proofs.lemmas.Bool.{false≢true, cases_Bool, cond-true, cond-false}
use Rattle.std.proofs.lemmas.Map.Lookups.{exact_bytes}
use Rattle.std.proofs.lemmas.Map.Views.{tells_apart}
use Rattle.mu_tree.specs.Maps.{MapOf}
use Rattle.mu_graph.specs.Circles.{IsFirstOf}
use Rattle.mu_graph.specs.Derivations.{Stands}
use Rattle.mu_graph.specs.Walks.{AreDistinct}
use Rattle.mu_graph.proofs.DerivationLemmas.{all_from, stands_map}

and_left : (a b : Bool) → T (a && b) → T a
and_left true b h = tt
and_left false b h = h

and_right : (a b : Bool) → T (a && b) → T b
and_right true b h = h
and_right false b h = absurd h

not_below_itself : (name : List ℕ) → T (is_lt (slice_cmp nat_cmp name name)) → ⊥
not_below_itself name h = subst (λ order. T (is_lt order)) (tied_itself nat_list_cmp_total name) h

less : (o : Ordering) → T (is_lt o) → o ≡ Less
less Less below = refl
less Equal below = absurd below
less Greater below = absurd below

turned : (o : Ordering) → T (is_lt o) → is_gt (ordering_reverse o) ≡ false → ⊥
turned Less below fits = false≢true (sym fits)
turned Equal below fits = below
turned Greater below fits = below

module _ {V : Type 0} where
  -- the keys after a key that is below them all are greater
  all_below : (name : List ℕ) (entries : List (List ℕ × V)) → T (below_all (slice_cmp nat_cmp) name entries) → (other : List ℕ) → Stands other (map (λ entry. entry.0) entries) → T (is_lt (slice_cmp nat_cmp name other))
  all_below name [] h other s = absurd s
  all_below name (entry ∷ entries) h other (inl e) = subst (λ key. T (is_lt (slice_cmp nat_cmp name key))) e (and_left _ _ h)
  all_below name (entry ∷ entries) h other (inr s) = all_below name entries (and_right _ _ h) other s

  distinct_sorted : (entries : List (List ℕ × V)) → T (is_sorted (slice_cmp nat_cmp) entries) → AreDistinct (map (λ entry. entry.0) entries)
  distinct_sorted [] h = tt
  distinct_sorted (entry ∷ entries) h = (λ s. not_below_itself entry.0 (all_below entry.0 entries (and_left _ _ h) entry.0 s), distinct_sorted entries (and_right _ _ h))

  -- no name has two entries
  pub distinct_keys : (m : MapOf V) → AreDistinct (finite.keys m)
  distinct_keys m = distinct_sorted (finite.entries m) (finite.entries_sorted m)

  keys_sorted : (entries : List (List ℕ × V)) → T (is_sorted (slice_cmp nat_cmp) entries) → IsStrictlySortedBy (slice_cmp nat_cmp) (map (λ entry. entry.0) entries)
  unfolding IsStrictlySortedBy
  keys_sorted [] h = tt
  keys_sorted (entry ∷ entries) h =
      (all_from (λ other. slice_cmp nat_cmp entry.0 other ≡ Less) (map (λ each. each.0) entries) (λ other s. less _ (all_below entry.0 entries (and_left _ _ h) other s)), keys_sorted entries (and_right _ _ h))

  -- the keys of a map stand in byte order
  pub sorted_keys : (m : MapOf V) → IsStrictlySortedBy (slice_cmp nat_cmp) (finite.keys m)
  sorted_keys m = keys_sorted (finite.entries m) (finite.entries_sorted m)

  least_first : (P : List ℕ → Type 0) (name : List ℕ) → P name → ((other : List ℕ) → P other → is_gt (slice_cmp nat_cmp name other) ≡ false)
      → (entries : List (List ℕ × V)) → T (is_sorted (slice_cmp nat_cmp) entries) → Stands name (map (λ entry. entry.0) entries) → IsFirstOf P (map (λ entry. entry.0) entries) name
  least_first P name p least [] h s = s
  least_first P name p least (entry ∷ entries) h (inl e) = inl (e, subst P (sym e) p)
  least_first P name p least (entry ∷ entries) h (inr s) =
      inr (λ q. not_less (all_below entry.0 entries (and_left _ _ h) name s) (least entry.0 q), least_first P name p least entries (and_right _ _ h) s)
    where
      not_less : T (is_lt (slice_cmp nat_cmp entry.0 name)) → is_gt (slice_cmp nat_cmp name entry.0) ≡ false → ⊥
      not_less below fits = turned (slice_cmp nat_cmp entry.0 name) below (sym (ap is_gt (nat_list_cmp_total.antisymm name entry.0)) ∙ fits)

  -- the least of the keys of which P holds is the first of them
  pub least_is_first : (m : MapOf V) (P : List ℕ → Type 0) (name : List ℕ) → Stands name (finite.keys m) → P name → ((other : List ℕ) → P other → is_gt (slice_cmp nat_cmp name other) ≡ false) → IsFirstOf P (finite.keys m) name
  least_is_first m P name s p least = least_first P name p least (finite.entries m) (finite.entries_sorted m) s

  found_first : (entries : List (List ℕ × V)) → AreDistinct (map (λ entry. entry.0) entries) → (name : List ℕ) (value : V) → Stands (name, value) entries → find (slice_cmp nat_cmp) name entries ≡ Some value
  found_first [] distinct name value s = absurd s
  found_first (entry ∷ entries) distinct name value s =
      elim (cases_Bool (eq_by_cmp (slice_cmp nat_cmp) name entry.0)) [
        | inl same ↦ cond-true (eq_by_cmp (slice_cmp nat_cmp) name entry.0) (Some entry.1) (find (slice_cmp nat_cmp) name entries) same ∙ ap Some (elim s [
          | inl e ↦ ap (λ each. each.1) e
          | inr later ↦ absurd (distinct.0 (subst (λ key. Stands key (map (λ each. each.0) entries)) (tells_apart exact_bytes name entry.0 same) (stands_map (λ each. each.0) (name, value) entries later)))
        ])
        | inr other ↦ cond-false (eq_by_cmp (slice_cmp nat_cmp) name entry.0) (Some entry.1) (find (slice_cmp nat_cmp) name entries) other ∙ elim s [
          | inl e ↦ absurd (false≢true (sym other ∙ subst (λ key. eq_by_cmp (slice_cmp nat_cmp) name key ≡ true) (sym (ap (λ each. each.0) e)) (ap is_eq (tied_itself nat_list_cmp_total name))))
          | inr later ↦ found_first entries distinct.1 name value later
        ]
      ]

  found_among : (entries : List (List ℕ × V)) (name : List ℕ) (value : V) → find (slice_cmp nat_cmp) name entries ≡ Some value → Stands (name, value) entries
  found_among [] name value is = absurd (cc is)
  found_among (entry ∷ entries) name value is =
      elim (cases_Bool (eq_by_cmp (slice_cmp nat_cmp) name entry.0)) [
        | inl same ↦
            let here : entry.1 ≡ value = some_same (sym (cond-true (eq_by_cmp (slice_cmp nat_cmp) name entry.0) (Some entry.1) (find (slice_cmp nat_cmp) name entries) same) ∙ is) in
            inl (ap (λ key. (key, entry.1)) (sym (tells_apart exact_bytes name entry.0 same)) ∙ ap (λ each. (name, each)) here)
        | inr other ↦ inr (found_among entries name value (sym (cond-false (eq_by_cmp (slice_cmp nat_cmp) name entry.0) (Some entry.1) (find (slice_cmp nat_cmp) name entries) other) ∙ is))
      ]
    where
      some_same : {x y : V} → Some x ≡ Some y → x ≡ y
      some_same e = cc

  -- an entry is what the map has at its name, and the other way round
  pub entry_found : (m : MapOf V) (name : List ℕ) (value : V) → Stands (name, value) (finite.entries m) → finite.get m name ≡ Some value
  entry_found m name value s = finite.get-entries m name ∙ found_first (finite.entries m) (distinct_keys m) name value s

  pub found_entry : (m : MapOf V) (name : List ℕ) (value : V) → finite.get m name ≡ Some value → Stands (name, value) (finite.entries m)
  found_entry m name value is = found_among (finite.entries m) name value (sym (finite.get-entries m name) ∙ is)

  -- a name at which the map has a value is one of its keys
  pub kept_stands : (m : MapOf V) (name : List ℕ) (value : V) → finite.get m name ≡ Some value → Stands name (finite.keys m)
  kept_stands m name value is = stands_map (λ entry. entry.0) (name, value) (finite.entries m) (found_entry m name value is)
