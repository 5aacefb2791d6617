-- What stands in a unit.
use Rattle.std.specs.Prelude.{◌≡◌, ℕ, Bool, false, List, map, Some, nat_eq}
use Rattle.std.specs.Cmp.Lexicographic.{pointwise}
use Rattle.std.specs.FinMap as finite
use Rattle.std.specs.List.{filter, list_any}
use Rattle.std.specs.Option.{option_map_or}
use Rattle.mu_tree.specs.Maps.{MapOf}

-- the names in some entries whose values pass
abbrev pub names_in : {V : Type 0} → (V → Bool) → List (List ℕ × V) → List (List ℕ)
names_in passes entries = map (λ entry. entry.0) (filter (λ entry. passes entry.1) entries)

-- whether a map has a value at a name, which passes
abbrev pub passes_at : {V : Type 0} → (V → Bool) → MapOf V → List ℕ → Bool
passes_at passes values name = option_map_or passes (finite.get values name) false

-- whether the owner of some value is the unit
abbrev pub is_used : {V : Type 0} → (V → List ℕ) → MapOf V → List ℕ → Bool
is_used owner values unit = list_any (λ entry. pointwise nat_eq (owner entry.1) unit) (finite.entries values)

-- the owner of no value is the unit
abbrev pub IsUnused : {V : Type 0} → (V → List ℕ) → MapOf V → List ℕ → Type 0
IsUnused {V} owner values unit = (name : List ℕ) (value : V) → finite.get values name ≡ Some value → owner value ≡ unit → ⊥
