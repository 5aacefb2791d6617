-- Units with their parents, some of which may be no units, and the first unit that leads back to itself.
use Rattle.std.specs.Prelude.{ℕ, Bool, List, Option}
use Rattle.std.specs.Bool.{nat_eq}
use Rattle.std.specs.Cmp.Lexicographic.{pointwise}
use Rattle.std.specs.FinMap as finite
use Rattle.mu_tree.specs.Maps.{MapOf, NamesOf}
use Rattle.mu_graph.specs.Circles.{IsAcyclic}
use Rattle.mu_graph.specs.Names.{members, led_by}
use Rattle.mu_graph.specs.Told.{first_circle, CirclesAreTold}
use Rattle.mu_defs.specs.Indexes.{members_of, TurnsAll}
use Rattle.mu_defs.specs.declared.units.UnitTable.TheInside.{Inside}

-- the parents of a unit, none of a name that is no unit
abbrev pub parents_in : MapOf NamesOf → List ℕ → NamesOf
parents_in units unit = members_of units unit

-- whether a unit has this parent
abbrev pub is_parent : MapOf NamesOf → List ℕ → List ℕ → Bool
is_parent units unit parent = finite.contains_key (parents_in units unit) parent

-- the units with one more parent of a unit
abbrev pub with_parent : MapOf NamesOf → List ℕ → List ℕ → MapOf NamesOf
with_parent units unit parent = finite.insert units unit (finite.insert (parents_in units unit) parent tt)

-- the units without one of the parents of a unit, which stays a unit where it has none
abbrev pub without_parent : MapOf NamesOf → List ℕ → List ℕ → MapOf NamesOf
without_parent units unit parent = finite.insert units unit (finite.remove (parents_in units unit) parent)

-- the first unit in byte order that leads back to itself by parents
abbrev pub first_unit : MapOf NamesOf → Option (List ℕ)
first_unit units = first_circle (pointwise nat_eq) (led_by members units) (λ name. name) (finite.keys units)

-- where no unit is told, none leads back to itself; and the one that is told is the first in byte order that does
unfoldable pub UnitCirclesAreExact : Type 0
UnitCirclesAreExact = (units : MapOf NamesOf) → CirclesAreTold (pointwise nat_eq) (led_by members units) (λ name. name) (finite.keys units)

-- at every moment no unit leads back to itself, and each unit is kept under each of its parents
pub record IsKept (inside : Inside) : Type 0 where
  pub acyclic : IsAcyclic (led_by members inside.parents)
  pub children : TurnsAll members inside.parents inside.children
