use Rattle.std.proofs.Common.{subst}
use Rattle.std.specs.Prelude.{◌↔◌, IsTrue, IfOk}
use Rattle.mu_tree.specs.Maps.{MapOf}
use Rattle.mu_defs.specs.Owned.{IsUnused}
use Rattle.mu_defs.proofs.owned_table.OwnedTable.is_unused.Goals as goal

pub returns-clause-exact : goal.returns-clause-exact
returns-clause-exact g c = subst (λ (values : MapOf g.row.V.Denot). IfOk c.is_unused.result (λ unused. IsTrue unused ↔ IsUnused g.V.Owned.owner values c.args.unit.now)) c.self.view_is c.is_unused.ensures.exact
