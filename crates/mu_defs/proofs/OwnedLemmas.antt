-- The names of the values that pass, found by what is kept.
use Rattle.std.proofs.Common.{◌≡◌, inl, inr, refl, sym, ap, subst, ◌∙◌, ℕ, Bool, true, false, cond, List, [], ◌∷◌, map, Option, Some, None}
use Rattle.std.specs.Prelude.{◌&&◌, T, IsTrue, is_some, not}
use Rattle.std.specs.List.{filter, list_any}
use Rattle.std.specs.Option.{option_map_or}
use Rattle.std.specs.Ordering.{nat_cmp, eq_by_cmp, is_lt}
use Rattle.std.specs.Bool.{nat_eq}
use Rattle.std.specs.Cmp.Lexicographic.{slice_cmp, nat_list_cmp_total, pointwise, bytes_decides}
use Rattle.std.specs.FinMap as finite
use Rattle.std.specs.FinMap.Entries.{find, is_sorted, below_all, where_key, find-where_key, is_some-find, is_sorted-where_key, same_entries}
use Rattle.std.proofs.lemmas.Bool.{false≢true, cases_Bool}
use Rattle.std.proofs.lemmas.Map.Lookups.{exact_bytes}
use Rattle.std.proofs.lemmas.Bool.Decides.{same_from_decides}
use Rattle.mu_tree.specs.Maps.{MapOf, NamesOf}
use Rattle.mu_graph.specs.Derivations.{Stands}
use Rattle.mu_graph.specs.Names.{members, led_by}
use Rattle.mu_graph.proofs.DerivationLemmas.{any_some, some_any}
use Rattle.mu_graph.proofs.EntryLemmas.{entry_found, found_entry}
use Rattle.mu_defs.specs.Indexes.{members_of, HasAll}
use Rattle.mu_defs.specs.Owned.{names_in, passes_at, is_used, IsUnused}
use Rattle.mu_defs.proofs.IndexLemmas.{member_stands, led-members}

-- ---- names as entries that have no value
module _ {V : Type 0} where
  abbrev marks : List (List ℕ × V) → List (List ℕ × Unit {0})
  marks entries = map (λ entry. (entry.0, tt)) entries

  below_marks : (name : List ℕ) (entries : List (List ℕ × V)) → below_all (slice_cmp nat_cmp) name (marks entries) ≡ below_all (slice_cmp nat_cmp) name entries
  below_marks name [] = refl
  below_marks name (entry ∷ entries) = ap (λ rest. is_lt (slice_cmp nat_cmp name entry.0) && rest) (below_marks name entries)

  sorted_marks : (entries : List (List ℕ × V)) → is_sorted (slice_cmp nat_cmp) (marks entries) ≡ is_sorted (slice_cmp nat_cmp) entries
  sorted_marks [] = refl
  sorted_marks (entry ∷ entries) = λ i. below_marks entry.0 entries i && sorted_marks entries i

  keys_marks : (entries : List (List ℕ × V)) → map (λ (entry : List ℕ × Unit {0}). entry.0) (marks entries) ≡ map (λ entry. entry.0) entries
  keys_marks [] = refl
  keys_marks (entry ∷ entries) = ap (λ rest. entry.0 ∷ rest) (keys_marks entries)

  -- the marks whose names pass are the names that pass
  keys_where : (passes : List ℕ → Bool) (entries : List (List ℕ × V)) → map (λ (entry : List ℕ × Unit {0}). entry.0) (where_key (slice_cmp nat_cmp) passes (marks entries)) ≡ filter passes (map (λ entry. entry.0) entries)
  keys_where passes [] = refl
  keys_where passes (entry ∷ entries) =
      elim (passes entry.0) as (λ b. map (λ (each : List ℕ × Unit {0}). each.0) (cond b ((entry.0, tt) ∷ where_key (slice_cmp nat_cmp) passes (marks entries)) (where_key (slice_cmp nat_cmp) passes (marks entries))) ≡ cond b (entry.0 ∷ filter passes (map (λ each. each.0) entries)) (filter passes (map (λ each. each.0) entries))) [
        | true ↦ ap (λ rest. entry.0 ∷ rest) (keys_where passes entries)
        | false ↦ keys_where passes entries
      ]

  -- what is marked in a map is what it has
  found_marks : (values : MapOf V) (name : List ℕ) → is_some (find (slice_cmp nat_cmp) name (marks (finite.entries values))) ≡ finite.contains_key values name
  found_marks values name =
      is_some-find (slice_cmp nat_cmp) name (marks (finite.entries values))
      ∙ ap (list_any (eq_by_cmp (slice_cmp nat_cmp) name)) (keys_marks (finite.entries values))
      ∙ sym (finite.contains_key-keys values name)

  -- the names whose values pass, where the names tell
  names_in-filter : (passes : V → Bool) (tells : List ℕ → Bool) (entries : List (List ℕ × V)) → ((entry : List ℕ × V) → Stands entry entries → passes entry.1 ≡ tells entry.0) → names_in passes entries ≡ filter tells (map (λ entry. entry.0) entries)
  names_in-filter passes tells [] same = refl
  names_in-filter passes tells (entry ∷ entries) same =
      let rest : names_in passes entries ≡ filter tells (map (λ each. each.0) entries) = names_in-filter passes tells entries (λ other s. same other (inr s)) in
      ap (λ b. map (λ (each : List ℕ × V). each.0) (cond b (entry ∷ filter (λ each. passes each.1) entries) (filter (λ each. passes each.1) entries))) (same entry (inl refl))
      ∙ elim (tells entry.0) as (λ b. map (λ (each : List ℕ × V). each.0) (cond b (entry ∷ filter (λ each. passes each.1) entries) (filter (λ each. passes each.1) entries)) ≡ cond b (entry.0 ∷ filter tells (map (λ each. each.0) entries)) (filter tells (map (λ each. each.0) entries))) [
        | true ↦ ap (λ names. entry.0 ∷ names) rest
        | false ↦ rest
      ]

  -- the names whose values pass are the names at which the map has one that does
  names_in-keys : (passes : V → Bool) (values : MapOf V) → names_in passes (finite.entries values) ≡ filter (passes_at passes values) (finite.keys values)
  names_in-keys passes values = names_in-filter passes (passes_at passes values) (finite.entries values) (λ entry s. ap (λ found. option_map_or passes found false) (sym (entry_found values entry.0 entry.1 s)))

module _ {V : Type 0} (passes : V → Bool) (values : MapOf V) where
  -- where a name passes, its value does
  value_passes : (name : List ℕ) → passes_at passes values name ≡ true → (value : V) × (finite.get values name ≡ Some value) × (passes value ≡ true)
  value_passes name is = some (finite.get values name) refl is
    where
      some : (found : Option V) → finite.get values name ≡ found → option_map_or passes found false ≡ true → (value : V) × (finite.get values name ≡ Some value) × (passes value ≡ true)
      some None at is = absurd (false≢true is)
      some (Some value) at is = (value, at, is)

  -- and where its value does, a name does
  name_passes : (name : List ℕ) (value : V) → finite.get values name ≡ Some value → passes value ≡ true → passes_at passes values name ≡ true
  name_passes name value at is = ap (λ found. option_map_or passes found false) at ∙ is

  -- where no value there passes, no name does
  pub none_passes : (name : List ℕ) → ((value : V) → finite.get values name ≡ Some value → passes value ≡ false) → passes_at passes values name ≡ false
  none_passes name none = some (finite.get values name) refl
    where
      some : (found : Option V) → finite.get values name ≡ found → option_map_or passes found false ≡ false
      some None at = refl
      some (Some value) at = none value at

  -- where all values pass, these are the names of all
  pub names_in_all : ((name : List ℕ) (value : V) → finite.get values name ≡ Some value → passes value ≡ true) → names_in passes (finite.entries values) ≡ finite.keys values
  names_in_all all = of (finite.entries values) (λ entry s. all entry.0 entry.1 (entry_found values entry.0 entry.1 s))
    where
      of : (entries : List (List ℕ × V)) → ((entry : List ℕ × V) → Stands entry entries → passes entry.1 ≡ true) → names_in passes entries ≡ map (λ entry. entry.0) entries
      of [] all = refl
      of (entry ∷ entries) all =
          ap (λ b. map (λ (each : List ℕ × V). each.0) (cond b (entry ∷ filter (λ each. passes each.1) entries) (filter (λ each. passes each.1) entries))) (all entry (inl refl))
          ∙ ap (λ names. entry.0 ∷ names) (of entries (λ other s. all other (inr s)))

-- ---- names that pass in two maps
-- two marks are one
one_mark : (a b : Option (Unit {0})) → is_some a ≡ is_some b → a ≡ b
one_mark None None e = refl
one_mark None (Some b) e = absurd (cc)
one_mark (Some a) None e = absurd (cc)
one_mark (Some a) (Some b) e = refl

-- two things that are asked for in one case are the same where they are in that case
where_so : {A : Type 0} (so : Bool) (a b : Option A) → (so ≡ true → a ≡ b) → cond so a None ≡ cond so b None
where_so true a b same = same refl
where_so false a b same = refl

module _ (passes : List ℕ → Bool) where
  in_order : {V : Type 0} (values : MapOf V) → T (is_sorted (slice_cmp nat_cmp) (where_key (slice_cmp nat_cmp) passes (marks (finite.entries values))))
  in_order values = is_sorted-where_key (slice_cmp nat_cmp) passes (marks (finite.entries values)) (subst T (sym (sorted_marks (finite.entries values))) (finite.entries_sorted values))

  found_where : {V : Type 0} (values : MapOf V) (name : List ℕ) → find (slice_cmp nat_cmp) name (where_key (slice_cmp nat_cmp) passes (marks (finite.entries values))) ≡ cond (passes name) (find (slice_cmp nat_cmp) name (marks (finite.entries values))) None
  found_where values name = find-where_key (slice_cmp nat_cmp) passes name (λ other e. ap passes (sym (exact_bytes name other e))) (marks (finite.entries values))

  -- the names of two maps that pass are the same where those that pass are in both or in none
  pub filter_keys : {V W : Type 0} (values : MapOf V) (kept : MapOf W) → ((name : List ℕ) → passes name ≡ true → finite.contains_key values name ≡ finite.contains_key kept name) → filter passes (finite.keys values) ≡ filter passes (finite.keys kept)
  filter_keys values kept same =
      sym (keys_where passes (finite.entries values))
      ∙ ap (map (λ (entry : List ℕ × Unit {0}). entry.0)) (same_entries (slice_cmp nat_cmp) nat_list_cmp_total exact_bytes (where_key (slice_cmp nat_cmp) passes (marks (finite.entries values))) (where_key (slice_cmp nat_cmp) passes (marks (finite.entries kept))) (in_order values) (in_order kept) found)
      ∙ keys_where passes (finite.entries kept)
    where
      found : (name : List ℕ) → find (slice_cmp nat_cmp) name (where_key (slice_cmp nat_cmp) passes (marks (finite.entries values))) ≡ find (slice_cmp nat_cmp) name (where_key (slice_cmp nat_cmp) passes (marks (finite.entries kept)))
      found name =
          found_where values name
          ∙ where_so (passes name) (find (slice_cmp nat_cmp) name (marks (finite.entries values))) (find (slice_cmp nat_cmp) name (marks (finite.entries kept)))
          (λ is. one_mark (find (slice_cmp nat_cmp) name (marks (finite.entries values))) (find (slice_cmp nat_cmp) name (marks (finite.entries kept))) (found_marks values name ∙ same name is ∙ sym (found_marks kept name)))
          ∙ sym (found_where kept name)

-- the names whose values pass are the same where the same names have one
pub names_in_same : {V : Type 0} (passes : V → Bool) (values others : MapOf V) → ((name : List ℕ) → passes_at passes values name ≡ passes_at passes others name) → names_in passes (finite.entries values) ≡ names_in passes (finite.entries others)
names_in_same {V} passes values others same =
    names_in-keys passes values
    ∙ filter_keys (passes_at passes values) values others (λ name is. has values name is ∙ sym (has others name (sym (same name) ∙ is)))
    ∙ ap (λ tells. filter tells (finite.keys others)) (λ i name. same name i)
    ∙ sym (names_in-keys passes others)
  where
    has : (all : MapOf V) (name : List ℕ) → passes_at passes all name ≡ true → finite.contains_key all name ≡ true
    has all name is = let value = value_passes passes all name is in ap is_some value.1

-- ---- what is found by what is kept
module _ {V : Type 0} (passes : V → Bool) (values : MapOf V) where
  -- the names whose values pass are those that are kept and pass, where all that pass are kept
  names_in-kept : {W : Type 0} (kept : MapOf W) → ((name : List ℕ) → passes_at passes values name ≡ true → finite.contains_key kept name ≡ true) → names_in passes (finite.entries values) ≡ filter (passes_at passes values) (finite.keys kept)
  names_in-kept kept all = names_in-keys passes values ∙ filter_keys (passes_at passes values) values kept (λ name is. let value = value_passes passes values name is in ap is_some value.1 ∙ sym (all name is))

module _ {V : Type 0} (owner : V → List ℕ) (values : MapOf V) (index : MapOf NamesOf) (unit : List ℕ) (all : HasAll owner values index) where
  -- a name whose value stands in the unit is kept under it
  kept_at : (name : List ℕ) (value : V) → finite.get values name ≡ Some value → owner value ≡ unit → finite.contains_key (members_of index unit) name ≡ true
  kept_at name value at is = subst (λ (under : List ℕ). finite.contains_key (members_of index under) name ≡ true) is (all name value at)

  -- where only values pass that stand in the unit, the names whose values pass are those that are kept under it and pass
  pub names_in-within : (passes : V → Bool) → ((value : V) → passes value ≡ true → owner value ≡ unit) → names_in passes (finite.entries values) ≡ filter (passes_at passes values) (led_by members index unit)
  names_in-within passes stands =
      names_in-kept passes values (members_of index unit) (λ name is. let value = value_passes passes values name is in kept_at name value.0 value.1 (stands value.0 value.2))
      ∙ ap (filter (passes_at passes values)) (sym (led-members index unit))

  -- some value stands in the unit where the name of one is kept under it, and only there
  pub used_within : list_any (passes_at (λ value. pointwise nat_eq (owner value) unit) values) (led_by members index unit) ≡ is_used owner values unit
  used_within =
      let stands : V → Bool = λ value. pointwise nat_eq (owner value) unit in
      same_from_decides (list_any (passes_at stands values) (led_by members index unit)) (is_used owner values unit) (
        λ kept.
            let name = any_some (passes_at stands values) (led_by members index unit) kept in
            let value = value_passes stands values name.0 name.2 in
            some_any (λ (entry : List ℕ × V). stands entry.1) (finite.entries values) (name.0, value.0) (found_entry values name.0 value.0 value.1) value.2,
        λ used.
            let entry = any_some (λ (entry : List ℕ × V). stands entry.1) (finite.entries values) used in
            let at : finite.get values entry.0.0 ≡ Some entry.0.1 = entry_found values entry.0.0 entry.0.1 entry.1 in
            some_any (passes_at stands values) (led_by members index unit) entry.0.0
            (member_stands index unit entry.0.0 (kept_at entry.0.0 entry.0.1 at ((bytes_decides (owner entry.0.1) unit).0 entry.2))) (name_passes stands values entry.0.0 entry.0.1 at entry.2),
      ) (λ e. e, λ e. e)

untrue : (b : Bool) → IsTrue (not b) → b ≡ false
untrue true h = sym h
untrue false h = refl

-- the unit is not used exactly where no value stands in it
module _ {V : Type 0} (owner : V → List ℕ) (values : MapOf V) (unit : List ℕ) where
  unused_none : is_used owner values unit ≡ false → IsUnused owner values unit
  unused_none unused name value at is =
      false≢true (sym unused ∙ some_any (λ (entry : List ℕ × V). pointwise nat_eq (owner entry.1) unit) (finite.entries values) (name, value) (found_entry values name value at) ((bytes_decides (owner value) unit).1 is))

  none_unused : IsUnused owner values unit → is_used owner values unit ≡ false
  none_unused none = elim (cases_Bool (is_used owner values unit)) [
    | inl used ↦
        let entry = any_some (λ (entry : List ℕ × V). pointwise nat_eq (owner entry.1) unit) (finite.entries values) used in
        absurd (none entry.0.0 entry.0.1 (entry_found values entry.0.0 entry.0.1 entry.1) ((bytes_decides (owner entry.0.1) unit).0 entry.2))
    | inr unused ↦ unused
  ]

  pub unused_exact : (used : Bool) → used ≡ is_used owner values unit → (IsTrue (not used) → IsUnused owner values unit) × (IsUnused owner values unit → IsTrue (not used))
  unused_exact used is = (
    λ unused. unused_none (sym is ∙ untrue used unused),
    λ none. ap not (is ∙ none_unused none),
  )
