-- Graphs given by a finite map from names to values, each of which leads to some keys.
use Rattle.std.specs.Prelude.{ℕ, true, false, List, [], ◌∷◌, ◌++◌, cond, Some}
use Rattle.std.proofs.Common.{subst}
use Rattle.std.specs.Ordering.{nat_cmp, eq_by_cmp}
use Rattle.std.specs.Cmp.Lexicographic.{slice_cmp}
use Rattle.std.specs.Option.{option_map_or}
use Rattle.std.specs.FinMap as map
use Rattle.std.specs.FinMap.Entries.{find}
use Rattle.mu_tree.specs.Maps.{MapOf, NamesOf}
use Rattle.mu_graph.specs.Derivations.{Stands}
use Rattle.mu_graph.specs.Members.{stands_front, stands_back}

-- the names of a set, in byte order
abbrev pub members : NamesOf → List (List ℕ)
members names = map.keys names

-- the keys that a name leads to: by `links` those of its value, and none where the map has no such name
abbrev pub led_by : {V K : Type 0} → (V → List K) → MapOf V → List ℕ → List K
led_by links table name = option_map_or links (map.get table name) []

-- the keys that the values of some entries lead to
abbrev pub all_links : {V K : Type 0} → (V → List K) → List (List ℕ × V) → List K
all_links links [] = []
all_links links (entry ∷ entries) = links entry.1 ++ all_links links entries

-- all keys that any name leads to
abbrev pub linked : {V K : Type 0} → (V → List K) → MapOf V → List K
linked links table = all_links links (map.entries table)

-- what is found at a name leads only to keys that some entry leads to
found_linked : {V K : Type 0} (links : V → List K) (entries : List (List ℕ × V)) (from : List ℕ) (to : K)
    → Stands to (option_map_or links (find (slice_cmp nat_cmp) from entries) []) → Stands to (all_links links entries)
found_linked links [] from to h = h
found_linked links (entry ∷ entries) from to h =
    elim (eq_by_cmp (slice_cmp nat_cmp) from entry.0) as (λ b. Stands to (option_map_or links (cond b (Some entry.1) (find (slice_cmp nat_cmp) from entries)) []) → Stands to (links entry.1 ++ all_links links entries)) [
      | true ↦ λ s. stands_front to (links entry.1) (all_links links entries) s
      | false ↦ λ s. stands_back to (links entry.1) (all_links links entries) (found_linked links entries from to s)
    ] h

-- the law: what a name leads to is among all that any name leads to
pub leads_linked : {V K : Type 0} (links : V → List K) (table : MapOf V) (from : List ℕ) (to : K) → Stands to (led_by links table from) → Stands to (linked links table)
leads_linked links table from to s = found_linked links (map.entries table) from to (subst (λ found. Stands to (option_map_or links found [])) (map.get-entries table from) s)
