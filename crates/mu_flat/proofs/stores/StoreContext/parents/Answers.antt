use Rattle.std.proofs.Common.{◌≡◌, ◌∙◌, refl, ap, subst, ℕ, List}
use Rattle.std.specs.Prelude.{IfOk}
use Rattle.mu_graph.specs.Names.{led_by, members}
use Rattle.mu_defs.proofs.SightLemmas.{parents_listed}
use Rattle.mu_flat.specs.Entries.{Entries, world_of}
use Rattle.mu_flat.proofs.stores.StoreContext.parents.Goals as goal

pub returns : goal.returns
returns c = subst (λ (parents : List (List ℕ)). IfOk c.parents.result (λ names. names ≡ parents))
    (ap (λ (e : Entries). led_by members e.units c.args.unit.now) c.self.view_is ∙ parents_listed (world_of c.args.self.now) c.args.self.now.units refl c.args.unit.now) c.parents.ensures
