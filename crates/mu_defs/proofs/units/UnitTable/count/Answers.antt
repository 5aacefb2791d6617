use Rattle.std.proofs.Common.{subst}
use Rattle.mu_tree.specs.Maps.{MapOf, NamesOf}
use Rattle.mu_graph.specs.Circles.{IsAcyclic}
use Rattle.mu_graph.specs.Names.{members, led_by}
use Rattle.mu_defs.proofs.units.UnitTable.count.Goals as goal

pub returns-clause-acyclic : goal.returns-clause-acyclic
returns-clause-acyclic c = subst (λ (units : MapOf NamesOf). IsAcyclic (led_by members units)) c.self.view_is c.self.invariant.acyclic
