-- What is seen from a unit is what it leads to by parents.
use Rattle.std.proofs.Common.{◌≡◌, inl, inr, refl, sym, ap, subst, ◌∙◌, ℕ, zero, suc, true, false, cond, List, [], ◌∷◌, ◌++◌, map, Option, Some, None, IsTrue, ◌↔◌}
use Rattle.std.specs.Prelude.{is_some}
use Rattle.std.specs.Bool.{nat_eq}
use Rattle.std.specs.List.{list_any}
use Rattle.std.specs.List.Sorted.{IsStrictlySortedBy}
use Rattle.std.specs.Option.{option_map, option_map_or}
use Rattle.std.specs.Ordering.{nat_cmp, eq_by_cmp, is_eq}
use Rattle.std.specs.Cmp.{tied_itself}
use Rattle.std.specs.Cmp.Lexicographic.{pointwise, slice_cmp, bytes_decides, nat_list_cmp_total}
use Rattle.std.specs.FinMap as finite
use Rattle.std.specs.FinMap.Entries.{find, is_some-find}
use Rattle.std.proofs.lemmas.Bool.{false≢true}
use Rattle.std.proofs.lemmas.Map.Lookups.{exact_bytes}
use Rattle.std.proofs.lemmas.Map.Views.{tells_apart}
use Rattle.mu_tree.specs.Maps.{MapOf, NamesOf}
use Rattle.mu_tree.specs.Names.{is_among}
use Rattle.mu_graph.specs.Derivations.{Stands}
use Rattle.mu_graph.specs.Names.{members, linked, leads_linked}
use Rattle.mu_graph.specs.Walks.{IsLedTo, LeadsTo, Steps}
use Rattle.mu_graph.proofs.Decided.{last_edge, leads_to_decides}
use Rattle.mu_graph.proofs.DerivationLemmas.{any_some, some_any, stands_back, stands_either, stands_front, stands_last, stands_one, stands_filter, filter_stands}
use Rattle.mu_graph.proofs.EntryLemmas.{sorted_keys}
use Rattle.mu_graph.proofs.NameLemmas.{insert_adds, key_stands, linking_stands}
use Rattle.mu_decl.specs.Contexts.{World, HasOrderedParents, Sees, Climbs, parents_of, base}
use Rattle.mu_defs.specs.Sight.{SightIsLawful, set_of, parent_lists, parents_listed_in, is_above, names_above, seen_from}

-- ---- names in lists and in sets
among_stands : (names : List (List ℕ)) (n : List ℕ) → is_among names n ≡ true → Stands n names
among_stands names n among = let m = any_some (λ other. pointwise nat_eq other n) names among in subst (λ k. Stands k names) ((bytes_decides m.0 n).0 m.2) m.1

stands_among : (names : List (List ℕ)) (n : List ℕ) → Stands n names → is_among names n ≡ true
stands_among names n s = some_any (λ other. pointwise nat_eq other n) names n s ((bytes_decides n n).1 refl)

tied_stands : (names : List (List ℕ)) (n : List ℕ) → list_any (eq_by_cmp (slice_cmp nat_cmp) n) names ≡ true → Stands n names
tied_stands names n tied = let m = any_some (eq_by_cmp (slice_cmp nat_cmp) n) names tied in subst (λ k. Stands k names) (sym (tells_apart exact_bytes n m.0 m.2)) m.1

stands_tied : (names : List (List ℕ)) (n : List ℕ) → Stands n names → list_any (eq_by_cmp (slice_cmp nat_cmp) n) names ≡ true
stands_tied names n s = some_any (eq_by_cmp (slice_cmp nat_cmp) n) names n s (ap is_eq (tied_itself nat_list_cmp_total n))

-- one of the keys of a map is a name that the map has
pub stands_key : {V : Type 0} (table : MapOf V) (n : List ℕ) → Stands n (finite.keys table) → finite.contains_key table n ≡ true
stands_key table n s = finite.contains_key-keys table n ∙ stands_tied (finite.keys table) n s

names_alone : (names : List (List ℕ)) → map (λ (entry : List ℕ × Unit {0}). entry.0) (map (λ name. (name, tt)) names) ≡ names
names_alone [] = refl
names_alone (name ∷ names) = ap (λ rest. name ∷ rest) (names_alone names)

has_tied : (names : List (List ℕ)) (n : List ℕ) → finite.contains_key (set_of names) n ≡ list_any (eq_by_cmp (slice_cmp nat_cmp) n) names
has_tied names n =
    ap is_some (finite.get-from_entries nat_list_cmp_total (map (λ name. (name, tt)) names) n)
    ∙ is_some-find (slice_cmp nat_cmp) n (map (λ name. (name, tt)) names)
    ∙ ap (list_any (eq_by_cmp (slice_cmp nat_cmp) n)) (names_alone names)

-- the set of some names has these names
pub set_has : (names : List (List ℕ)) (n : List ℕ) → IsTrue (finite.contains_key (set_of names) n) ↔ Stands n names
set_has names n = (λ has. tied_stands names n (sym (has_tied names n) ∙ has), λ s. has_tied names n ∙ stands_tied names n s)

same_unit : (x y : Option (Unit {0})) → (is_some x ≡ true → is_some y ≡ true) → (is_some y ≡ true → is_some x ≡ true) → x ≡ y
same_unit None None to from = refl
same_unit None (Some v) to from = absurd (false≢true (from refl))
same_unit (Some v) None to from = absurd (false≢true (to refl))
same_unit (Some v) (Some w) to from = refl

-- two sets with the same names are one
pub same_names : (a b : NamesOf) → ((n : List ℕ) → IsTrue (finite.contains_key a n) ↔ IsTrue (finite.contains_key b n)) → a ≡ b
same_names a b same = finite.same_map nat_list_cmp_total exact_bytes a b (λ n. same_unit (finite.get a n) (finite.get b n) (same n).0 (same n).1)

-- so the sets of two lists with the same members are one
pub same_set : (names others : List (List ℕ)) → ((n : List ℕ) → Stands n names ↔ Stands n others) → set_of names ≡ set_of others
same_set names others same = same_names (set_of names) (set_of others) (λ n. (
  λ has. (set_has others n).1 ((same n).0 ((set_has names n).0 has)),
  λ has. (set_has names n).1 ((same n).1 ((set_has others n).0 has)),
))

-- the set of some names with one more
pub set_of_more : (names : List (List ℕ)) (name : List ℕ) → set_of (names ++ name ∷ []) ≡ finite.insert (set_of names) name tt
set_of_more names name = same_names (set_of (names ++ name ∷ [])) (finite.insert (set_of names) name tt) (λ n. (
  λ has. (insert_adds (set_of names) name).1 n (elim (stands_either n names (name ∷ []) ((set_has (names ++ name ∷ []) n).0 has)) [
    | inl s ↦ inr ((set_has names n).1 s)
    | inr s ↦ inl (stands_one n name s)
  ]),
  λ has. (set_has (names ++ name ∷ []) n).1 (elim ((insert_adds (set_of names) name).0 n has) [
    | inl e ↦ subst (λ k. Stands k (names ++ name ∷ [])) e (stands_last name names)
    | inr is ↦ stands_front n names (name ∷ []) ((set_has names n).0 is)
  ]),
))

-- ---- parents
find_mapped : {V W : Type 0} (f : V → W) (u : List ℕ) (entries : List (List ℕ × V)) → find (slice_cmp nat_cmp) u (map (λ entry. (entry.0, f entry.1)) entries) ≡ option_map f (find (slice_cmp nat_cmp) u entries)
find_mapped f u [] = refl
find_mapped f u (entry ∷ entries) =
    elim (eq_by_cmp (slice_cmp nat_cmp) u entry.0) as (λ b. cond b (Some (f entry.1)) (find (slice_cmp nat_cmp) u (map (λ each. (each.0, f each.1)) entries)) ≡ option_map f (cond b (Some entry.1) (find (slice_cmp nat_cmp) u entries))) [
      | true ↦ refl
      | false ↦ find_mapped f u entries
    ]

-- at each name are the parents of the unit of this name
pub get-parent_lists : (units : MapOf NamesOf) (u : List ℕ) → finite.get (parent_lists units) u ≡ option_map members (finite.get units u)
get-parent_lists units u =
    finite.get-from_entries nat_list_cmp_total (map (λ entry. (entry.0, members entry.1)) (finite.entries units)) u
    ∙ find_mapped members u (finite.entries units)
    ∙ ap (option_map members) (sym (finite.get-entries units u))

-- the units are the same names
pub same_units : (units : MapOf NamesOf) (u : List ℕ) → finite.contains_key units u ≡ finite.contains_key (parent_lists units) u
same_units units u = kept (finite.get units u) ∙ ap is_some (sym (get-parent_lists units u))
  where
    kept : (found : Option NamesOf) → is_some found ≡ is_some (option_map members found)
    kept None = refl
    kept (Some names) = refl

none_sorted : IsStrictlySortedBy (slice_cmp nat_cmp) []
unfolding IsStrictlySortedBy
none_sorted = tt

module _ (w : World) (units : MapOf NamesOf) (listed : w.parents ≡ parent_lists units) where
  -- what a world with these parents has as the parents of a unit
  pub parents_listed : (u : List ℕ) → parents_listed_in units u ≡ parents_of w u
  parents_listed u = kept (finite.get units u) ∙ ap (λ found. option_map_or (λ names. names) found []) (sym (ap (λ parents. finite.get parents u) listed ∙ get-parent_lists units u))
    where
      kept : (found : Option NamesOf) → option_map_or members found [] ≡ option_map_or (λ names. names) (option_map members found) []
      kept None = refl
      kept (Some names) = refl

  pub parents_ordered : (u : List ℕ) → HasOrderedParents w u
  parents_ordered u = subst (IsStrictlySortedBy (slice_cmp nat_cmp)) (parents_listed u) (sorted (finite.get units u))
    where
      sorted : (found : Option NamesOf) → IsStrictlySortedBy (slice_cmp nat_cmp) (option_map_or members found [])
      sorted None = none_sorted
      sorted (Some names) = sorted_keys names

  parent : (u p : List ℕ) → is_among (parents_of w u) p ≡ true → Stands p (parents_listed_in units u)
  parent u p among = among_stands (parents_listed_in units u) p (subst (λ names. is_among names p ≡ true) (sym (parents_listed u)) among)

  is_parent : (u p : List ℕ) → Stands p (parents_listed_in units u) → is_among (parents_of w u) p ≡ true
  is_parent u p s = subst (λ names. is_among names p ≡ true) (parents_listed u) (stands_among (parents_listed_in units u) p s)

  climbed : (k : ℕ) (u n : List ℕ) → Climbs w (suc k) u n → Steps (parents_listed_in units) k u n
  climbed zero u n (p, among, e) = subst (λ m. Stands m (parents_listed_in units u)) e (parent u p among)
  climbed (suc k) u n (p, among, up) = (p, parent u p among, climbed k p n up)

  climbs : (k : ℕ) (u n : List ℕ) → Steps (parents_listed_in units) k u n → Climbs w (suc k) u n
  climbs zero u n s = (n, is_parent u n s, refl)
  climbs (suc k) u n (p, s, up) = (p, is_parent u p s, climbs k p n up)

-- ---- what is seen
module _ (units : MapOf NamesOf) (u n : List ℕ) where
  above_leads : Stands n (names_above units u) → LeadsTo (parents_listed_in units) u n
  above_leads s = (leads_to_decides (parents_listed_in units) (pointwise nat_eq) bytes_decides (finite.keys units) (linking_stands members units) u n).0
      (filter_stands (is_above units u) n (linked members units) s).1

  leads_above : LeadsTo (parents_listed_in units) u n → Stands n (names_above units u)
  leads_above path =
      let edge = last_edge (parents_listed_in units) path.0 u n path.1 in
      stands_filter (is_above units u) n (linked members units) (leads_linked members units edge.0 n edge.1)
      ((leads_to_decides (parents_listed_in units) (pointwise nat_eq) bytes_decides (finite.keys units) (linking_stands members units) u n).1 path)

  -- what is seen is `base`, the unit and what it leads to
  seen_stands : IsTrue (is_among (seen_from units u) n) ↔ Stands n (base ∷ u ∷ names_above units u)
  unfolding seen_from
  seen_stands =
      let names = base ∷ u ∷ names_above units u in (
        λ among. (set_has names n).0 (stands_key (set_of names) n (among_stands (finite.keys (set_of names)) n among)),
        λ s. stands_among (finite.keys (set_of names)) n (key_stands (set_of names) n ((set_has names n).1 s)),
      )

  module _ (w : World) (listed : w.parents ≡ parent_lists units) where
    stands_sees : Stands n (base ∷ u ∷ names_above units u) → Sees w u n
    stands_sees (inl e) = inl (sym e)
    stands_sees (inr (inl e)) = inr (0, e)
    stands_sees (inr (inr s)) = let path = above_leads s in inr (suc path.0, climbs w units listed path.0 u n path.1)

    sees_stands : Sees w u n → Stands n (base ∷ u ∷ names_above units u)
    sees_stands (inl e) = inl (sym e)
    sees_stands (inr (zero, e)) = inr (inl e)
    sees_stands (inr (suc k, up)) = inr (inr (leads_above (k, climbed w units listed k u n up)))

seen_sorted : (units : MapOf NamesOf) (u : List ℕ) → IsStrictlySortedBy (slice_cmp nat_cmp) (seen_from units u)
unfolding seen_from
seen_sorted units u = sorted_keys (set_of (base ∷ u ∷ names_above units u))

-- the law of a context, of what is seen
pub sight_is_lawful : SightIsLawful
unfolding SightIsLawful
sight_is_lawful w units listed seen u = record {
  parents = parents_ordered w units listed u;
  seen = subst (λ sight. ((n : List ℕ) → IsTrue (is_among (sight u) n) ↔ Sees w u n) × IsStrictlySortedBy (slice_cmp nat_cmp) (sight u)) (sym seen) (
    λ n. (λ among. stands_sees units u n w listed ((seen_stands units u n).0 among), λ sees. (seen_stands units u n).1 (sees_stands units u n w listed sees)),
    seen_sorted units u,
  );
}

-- the keys of all that is reached from a unit, and of `base`, are what is seen from the unit
pub reached_seen : (units : MapOf NamesOf) (u : List ℕ) (found : List (List ℕ)) → ((n : List ℕ) → Stands n found ↔ IsLedTo (parents_listed_in units) (u ∷ []) n) → finite.keys (set_of (found ++ base ∷ [])) ≡ seen_from units u
unfolding seen_from
reached_seen units u found all = ap finite.keys (same_set (found ++ base ∷ []) (base ∷ u ∷ names_above units u) (λ n. (seen n, found_or_base n)))
  where
    reached : (n : List ℕ) → IsLedTo (parents_listed_in units) (u ∷ []) n → Stands n (base ∷ u ∷ names_above units u)
    reached n (inl first) = inr (inl (stands_one n u first))
    reached n (inr (a, first, path)) = inr (inr (leads_above units u n (subst (λ m. LeadsTo (parents_listed_in units) m n) (sym (stands_one a u first)) path)))

    seen : (n : List ℕ) → Stands n (found ++ base ∷ []) → Stands n (base ∷ u ∷ names_above units u)
    seen n s = elim (stands_either n found (base ∷ []) s) [ inl t ↦ reached n ((all n).0 t) | inr t ↦ inl (stands_one n base t) ]

    found_or_base : (n : List ℕ) → Stands n (base ∷ u ∷ names_above units u) → Stands n (found ++ base ∷ [])
    found_or_base n (inl e) = stands_back n found (base ∷ []) (inl e)
    found_or_base n (inr (inl e)) = stands_front n found (base ∷ []) ((all n).1 (inl (inl e)))
    found_or_base n (inr (inr s)) = stands_front n found (base ∷ []) ((all n).1 (inr (u, inl refl, above_leads units u n s)))
