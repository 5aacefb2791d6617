use Rattle.std.proofs.Common.{◌∙◌, ap}
use Rattle.std.specs.FinMap as finite
use Rattle.mu_defs.proofs.SightLemmas.{same_units}
use Rattle.mu_flat.specs.Entries.{Entries}
use Rattle.mu_flat.proofs.stores.StoreContext.has_theory.Goals as goal

pub returns : goal.returns
returns c = c.has.ensures.value ∙ ap (λ (e : Entries). finite.contains_key e.units c.args.unit.now) c.self.view_is ∙ same_units c.args.self.now.units c.args.unit.now
