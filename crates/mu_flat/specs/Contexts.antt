-- A store as a context.
use Rattle.std.specs.Prelude.{ℕ, List, refl}
use Rattle.mu_decl.specs.Contexts.{IsLawful}
use Rattle.mu_defs.specs.Sight.{SightIsLawful}
use Rattle.mu_defs.proofs.SightLemmas.{sight_is_lawful}
use Rattle.mu_flat.specs.Entries.{Entries, world_of}

-- the law of a context holds of a store
pub lawful_so : (e : Entries) (unit : List ℕ) → IsLawful (world_of e) unit
unfolding SightIsLawful
lawful_so e unit = sight_is_lawful (world_of e) e.units refl refl unit
