use Rattle.std.proofs.Common.{ℕ, List, subst}
use Rattle.mu_graph.specs.Names.{led_by}
use Rattle.mu_graph.specs.Told.{IsFirstClosed}
use Rattle.mu_defs.specs.Uses.{used_by}
use Rattle.mu_defs.proofs.DefinitionLemmas.{kept_seen, closed_first}
use Rattle.mu_defs.proofs.IndexLemmas.{turned}
use Rattle.mu_defs.proofs.definition_table.DefinitionTable.first_with.Goals as goal

pub first_closed-requires-clause-acyclic : goal.first_closed-requires-clause-acyclic
first_closed-requires-clause-acyclic c = (kept_seen c.self.inside c.self.invariant c.args.self.now c.self.view_is).acyclic

pub first_closed-requires-clause-turned : goal.first_closed-requires-clause-turned
first_closed-requires-clause-turned c =
    turned used_by c.args.self.now c.self.inside.users (kept_seen c.self.inside c.self.invariant c.args.self.now c.self.view_is).users c.args.name.now

pub returns : goal.returns
returns c =
    closed_first c.args.self.now c.args.name.now c.args.definition.now (kept_seen c.self.inside c.self.invariant c.args.self.now c.self.view_is).acyclic c.in_ok-first.first
    (subst (λ (names : List (List ℕ)). IsFirstClosed (λ name. name) (led_by used_by c.args.self.now) names c.args.name.now c.in_ok-first.first) c.in_ok-starts.ensures.value c.in_ok-first.ensures)
