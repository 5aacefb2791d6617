-- Names that are kept under names, and when all that matter are kept.
use Rattle.std.specs.Prelude.{◌≡◌, ℕ, true, List, Some, cond, nat_eq}
use Rattle.std.specs.List.{fold}
use Rattle.std.specs.Option.{option_map_or}
use Rattle.std.specs.FinMap as finite
use Rattle.mu_tree.specs.Maps.{MapOf, NamesOf}
use Rattle.mu_graph.specs.Derivations.{Stands}
use Rattle.mu_graph.specs.Names.{led_by}

-- the names that are kept under a name
abbrev pub members_of : MapOf NamesOf → List ℕ → NamesOf
members_of index name = option_map_or (λ names. names) (finite.get index name) finite.empty

-- the index with one more name under a name
abbrev pub with_member : MapOf NamesOf → List ℕ → List ℕ → MapOf NamesOf
with_member index name member = finite.insert index name (finite.insert (members_of index name) member tt)

-- the index with a name under each of some names
abbrev pub with_all : MapOf NamesOf → List (List ℕ) → List ℕ → MapOf NamesOf
with_all index names member = fold (λ so_far name. with_member so_far name member) index names

-- the index with these names under a name; a name without members is not in it
abbrev pub with_members : MapOf NamesOf → List ℕ → NamesOf → MapOf NamesOf
with_members index name members = cond (nat_eq (finite.len members) 0) (finite.remove index name) (finite.insert index name members)

-- the index without one of the names under a name
abbrev pub without_member : MapOf NamesOf → List ℕ → List ℕ → MapOf NamesOf
without_member index name member = with_members index name (finite.remove (members_of index name) member)

-- what the one index keeps, the other one keeps
abbrev pub Keeps : MapOf NamesOf → MapOf NamesOf → Type 0
Keeps old new = (name member : List ℕ) → finite.contains_key (members_of old name) member ≡ true → finite.contains_key (members_of new name) member ≡ true

-- each name of the map is kept under the owner of its value
abbrev pub HasAll : {V : Type 0} → (V → List ℕ) → MapOf V → MapOf NamesOf → Type 0
HasAll {V} owner values index = (name : List ℕ) (value : V) → finite.get values name ≡ Some value → finite.contains_key (members_of index (owner value)) name ≡ true

-- each edge turned round is in the index: a name that links to another is kept under it
abbrev pub TurnsAll : {V : Type 0} → (V → List (List ℕ)) → MapOf V → MapOf NamesOf → Type 0
TurnsAll links values index = (from to : List ℕ) → Stands to (led_by links values from) → finite.contains_key (members_of index to) from ≡ true
