-- What is seen from a unit, where each unit has a set of parents, some of which may be no units.
use Rattle.std.specs.Prelude.{◌≡◌, ℕ, Bool, List, ◌∷◌, map}
use Rattle.std.specs.Bool.{nat_eq}
use Rattle.std.specs.List.{filter}
use Rattle.std.specs.Cmp.Lexicographic.{pointwise}
use Rattle.std.specs.FinMap as finite
use Rattle.mu_tree.specs.Maps.{MapOf, NamesOf}
use Rattle.mu_graph.specs.Decisions.{leads_to}
use Rattle.mu_graph.specs.Names.{members, led_by, linked}
use Rattle.mu_decl.specs.Contexts.{World, IsLawful, base}

-- the set of some names
abbrev pub set_of : List (List ℕ) → NamesOf
set_of names = finite.from_entries (map (λ name. (name, tt)) names)

-- each unit with its parents, in byte order
abbrev pub parent_lists : MapOf NamesOf → MapOf (List (List ℕ))
parent_lists units = finite.from_entries (map (λ entry. (entry.0, members entry.1)) (finite.entries units))

-- the parents of a unit in byte order, none of a name that is no unit
abbrev pub parents_listed_in : MapOf NamesOf → List ℕ → List (List ℕ)
parents_listed_in = led_by members

-- whether n is above u: u leads to it, by one step to a parent or more
abbrev pub is_above : MapOf NamesOf → List ℕ → List ℕ → Bool
is_above units u n = leads_to (pointwise nat_eq) (parents_listed_in units) (finite.keys units) u n

-- the names that u leads to, in some order
abbrev pub names_above : MapOf NamesOf → List ℕ → List (List ℕ)
names_above units u = filter (is_above units u) (linked members units)

-- the names that are seen from u, in byte order: `base`, u, and all that u leads to
unfoldable pub seen_from : MapOf NamesOf → List ℕ → List (List ℕ)
seen_from units u = finite.keys (set_of (base ∷ u ∷ names_above units u))

-- a world with the parents of some units, and with what is seen from each name by them, is lawful at every name
unfoldable pub SightIsLawful : Type 0
SightIsLawful = (w : World) (units : MapOf NamesOf) → w.parents ≡ parent_lists units → w.seen ≡ seen_from units → (u : List ℕ) → IsLawful w u
