-- What is seen from a unit, kept for the rules of it.
use Rattle.std.specs.Prelude.{◌≡◌}
use Rattle.mu_flat.specs.Entries.{Entries, world_of}
use Rattle.mu_status.specs.declared.sights.Sight.{Sight}

-- what is kept is what is seen from that unit in a store
abbrev pub IsSightOf : Entries → Sight → Type 0
IsSightOf e sight = sight.seen ≡ (world_of e).seen sight.unit
