-- Definitions by the name of their constant, and the first constant that leads back to itself by them.
use Rattle.std.specs.Prelude.{ℕ, List, Option}
use Rattle.std.specs.Bool.{nat_eq}
use Rattle.std.specs.Cmp.Lexicographic.{pointwise}
use Rattle.std.specs.FinMap as finite
use Rattle.mu_tree.specs.Maps.{MapOf}
use Rattle.mu_tree.specs.declared.claim.Definition.{Definition}
use Rattle.mu_graph.specs.Circles.{IsAcyclic}
use Rattle.mu_graph.specs.Names.{led_by}
use Rattle.mu_graph.specs.Told.{first_circle, CirclesAreTold}
use Rattle.mu_defs.specs.Indexes.{TurnsAll}
use Rattle.mu_defs.specs.Uses.{used_by}
use Rattle.mu_defs.specs.declared.definition_table.DefinitionTable.TheInside.{Inside}

-- the first constant in byte order that leads back to itself by definitions
abbrev pub first_constant : MapOf Definition → Option (List ℕ)
first_constant definitions = first_circle (pointwise nat_eq) (led_by used_by definitions) (λ name. name) (finite.keys definitions)

-- where no constant is told, none leads back to itself; and the one that is told is the first in byte order that does
unfoldable pub DefinitionCirclesAreExact : Type 0
DefinitionCirclesAreExact = (definitions : MapOf Definition) → CirclesAreTold (pointwise nat_eq) (led_by used_by definitions) (λ name. name) (finite.keys definitions)

-- at every moment no constant leads back to itself, and each one is kept under each constant that its definition uses
pub record IsKept (inside : Inside) : Type 0 where
  pub acyclic : IsAcyclic (led_by used_by inside.by_name)
  pub users : TurnsAll used_by inside.by_name inside.users
