-- A store as a context: finite maps from names to what is declared.
use Rattle.std.specs.Prelude.{◌≡◌, ◌⊎◌, true, ℕ, ◌&&◌, IsTrue, ◌↔◌, List, [], ◌∷◌, map, suc, zero, nat_eq}
use Rattle.std.specs.Option.{option_map_or}
use Rattle.std.specs.Cmp.Lexicographic.{slice_cmp, pointwise}
use Rattle.std.specs.Ordering.{nat_cmp}
use Rattle.std.specs.List.{filter}
use Rattle.std.specs.List.Sorted.{IsStrictlySortedBy}
use Rattle.std.specs.FinMap as finite
use Rattle.mu_tree.specs.Maps.{MapOf}
use Rattle.mu_tree.specs.Names.{is_among}
use Rattle.mu_tree.specs.declared.claim.Definition.{Definition}
use Rattle.mu_decl.specs.declared.declaration.ConstDecl.{ConstDecl}
use Rattle.mu_decl.specs.declared.declaration.Statement.{Statement}
use Rattle.mu_decl.specs.declared.declaration.MorphMap.{MorphMap}

-- all that a check may look up
pub record World : Type 0 where
  -- the parents of each theory
  pub parents : MapOf (List (List ℕ))
  pub constants : MapOf ConstDecl
  pub definitions : MapOf Definition
  pub rules : MapOf Statement
  pub morphisms : MapOf MorphMap
  -- the names that are seen from a unit
  pub seen : List ℕ → List (List ℕ)

-- the parents of a theory, none of a name that is no theory
abbrev pub parents_of : World → List ℕ → List (List ℕ)
parents_of w u = option_map_or (λ names. names) (finite.get w.parents u) []

-- from u to n by k steps to a parent
abbrev pub Climbs : World → ℕ → List ℕ → List ℕ → Type 0
Climbs w zero u n = u ≡ n
Climbs w (suc k) u n = (p : List ℕ) × (is_among (parents_of w u) p ≡ true) × Climbs w k p n

-- the name of the theory that every unit sees: `base`
abbrev pub base : List ℕ
base = 98 ∷ 97 ∷ 115 ∷ 101 ∷ []

-- n is `base`, or u itself or reached from u by parents
abbrev pub Sees : World → List ℕ → List ℕ → Type 0
Sees w u n = (n ≡ base) ⊎ ((k : ℕ) × Climbs w k u n)

-- the names that are seen from u are listed, once each, in byte order
abbrev pub IsSeen : World → List ℕ → Type 0
IsSeen w u = ((n : List ℕ) → IsTrue (is_among (w.seen u) n) ↔ Sees w u n) × IsStrictlySortedBy (slice_cmp nat_cmp) (w.seen u)

-- the parents of u are listed once each, in byte order
abbrev pub HasOrderedParents : World → List ℕ → Type 0
HasOrderedParents w u = IsStrictlySortedBy (slice_cmp nat_cmp) (parents_of w u)

-- the law of a context: what holds of its world at each unit
pub record IsLawful (w : World) (u : List ℕ) : Type 0 where
  pub parents : HasOrderedParents w u
  pub seen : IsSeen w u

-- the constants whose declaration stands in u, in byte order
abbrev pub own_constants : World → List ℕ → List (List ℕ)
own_constants w u = map (λ entry. entry.0) (filter (λ entry. pointwise nat_eq entry.1.theory u) (finite.entries w.constants))

-- the axioms that are stated in u, in byte order
abbrev pub own_axioms : World → List ℕ → List (List ℕ)
own_axioms w u = map (λ entry. entry.0) (filter (λ entry. pointwise nat_eq entry.1.theory u && entry.1.is_axiom) (finite.entries w.rules))
