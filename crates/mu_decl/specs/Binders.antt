-- Bound variables by their names.
use Rattle.std.specs.Prelude.{◌≡◌, ℕ, ◌-◌, List, length, Option, Some, None}
use Rattle.std.specs.FinMap as finite
use Rattle.mu_tree.specs.Maps.{MapOf}
use Rattle.mu_decl.specs.Nameless.{place}

-- a place that may be known, counted from the other end
abbrev pub from_end : List (List ℕ) → Option ℕ → Option ℕ
from_end bound None = None
from_end bound (Some k) = Some (length bound - 1 - k)

-- where the innermost binder of a name stands, counted from the outermost one of all
abbrev pub last_place : List (List ℕ) → List ℕ → Option ℕ
last_place bound n = from_end bound (place bound n)

-- a table has for each name where its innermost binder stands
pub record HasPlaces (places : MapOf ℕ) (bound : List (List ℕ)) : Type 0 where
  pub last : (n : List ℕ) → finite.get places n ≡ last_place bound n
