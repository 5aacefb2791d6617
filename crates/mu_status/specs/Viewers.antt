-- A store that keeps what was seen last, as a context.
use Rattle.std.specs.Prelude.{ℕ, List}
use Rattle.mu_decl.specs.Contexts.{World, IsLawful}
use Rattle.mu_flat.specs.Contexts.{lawful_so}
use Rattle.mu_flat.specs.Entries.{world_of}
use Rattle.mu_status.specs.declared.sights.Viewer.{Viewer}

-- it answers as the store does
abbrev pub world_seen : Viewer → World
world_seen viewer = world_of viewer.store.now

-- so the law of a context holds of it
pub seen_lawfully : (viewer : Viewer) (unit : List ℕ) → IsLawful (world_seen viewer) unit
seen_lawfully viewer unit = lawful_so viewer.store.now unit
