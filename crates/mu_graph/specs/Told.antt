-- Keys that tell names, and the first name on a circle.
use Rattle.std.specs.Prelude.{◌≡◌, ◌↔◌, ℕ, Bool, false, List, map, Option, Some, None, MatchOption, unwrap_or}
use Rattle.std.proofs.Common.{sym, ap}
use Rattle.std.specs.List.{find}
use Rattle.std.specs.Ordering.{nat_cmp, is_gt}
use Rattle.std.specs.Cmp.Lexicographic.{slice_cmp}
use Rattle.mu_graph.specs.Circles.{IsAcyclic, IsBetween, IsFirstOf, OnCircle}
use Rattle.mu_graph.specs.Decisions.{on_circle}
use Rattle.mu_graph.specs.Derivations.{Stands}

-- a key tells a name exactly where it is the key of that name
abbrev pub Tells : {N : Type 0} → (N → Option (List ℕ)) → (List ℕ → N) → Type 0
Tells {N} told named = (key : N) (name : List ℕ) → (told key ≡ Some name) ↔ (named name ≡ key)

-- each key that leads to some key has one of the names
abbrev pub AllNamed : {N : Type 0} → (N → List N) → (List ℕ → N) → List (List ℕ) → Type 0
AllNamed {N} leads named names = (n m : N) → Stands m (leads n) → Stands n (map named names)

-- whether the key of a name leads back to itself, where `same` tells equal keys and the keys of the names are all that lead to some key
abbrev pub is_on_circle : {N : Type 0} → (N → N → Bool) → (N → List N) → (List ℕ → N) → List (List ℕ) → List ℕ → Bool
is_on_circle same leads named names name = on_circle same leads (map named names) (named name)

-- the first of the names whose key leads back to itself
abbrev pub first_circle : {N : Type 0} → (N → N → Bool) → (N → List N) → (List ℕ → N) → List (List ℕ) → Option (List ℕ)
first_circle same leads named names = find (is_on_circle same leads named names) names

-- where no name is told, no key leads back to itself; and the one that is told is the first whose key does
unfoldable pub CirclesAreTold : {N : Type 0} → (N → N → Bool) → (N → List N) → (List ℕ → N) → List (List ℕ) → Type 0
CirclesAreTold same leads named names = MatchOption (first_circle same leads named names) (IsAcyclic leads) (λ name. IsFirstOf (λ other. OnCircle leads (named other)) names name)

-- the least name of which P holds, in byte order; none where it holds of no name
abbrev pub IsLeastName : (List ℕ → Type 0) → Option (List ℕ) → Type 0
IsLeastName P None = (name : List ℕ) → P name → ⊥
IsLeastName P (Some name) = P name × ((other : List ℕ) → P other → is_gt (slice_cmp nat_cmp name other) ≡ false)

-- the least name whose key is a member of the list
abbrev pub IsLeastTold : {N : Type 0} → (List ℕ → N) → List N → Option (List ℕ) → Type 0
IsLeastTold named keys least = IsLeastName (λ name. Stands (named name) keys) least

-- the least name whose key stands on a path from one of the starts to the key `to`: the first on a circle where `to` were to lead to the starts
abbrev pub IsFirstClosed : {N : Type 0} → (List ℕ → N) → (N → List N) → List N → N → Option (List ℕ) → Type 0
IsFirstClosed named leads starts to first = IsLeastName (λ name. IsBetween leads starts to (named name)) first

-- the law of names as keys: each tells itself
pub names_tell : Tells Some (λ name. name)
names_tell key name = (λ e. sym (ap (λ told. unwrap_or told key) e), λ e. ap Some (sym e))
