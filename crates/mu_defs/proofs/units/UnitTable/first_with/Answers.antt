use Rattle.std.proofs.Common.{◌≡◌, ◌∙◌, ◌++◌, ◌∷◌, [], ℕ, List, ap, subst}
use Rattle.mu_tree.specs.Maps.{MapOf, NamesOf}
use Rattle.mu_graph.specs.Names.{members, led_by}
use Rattle.mu_graph.specs.Told.{IsFirstClosed}
use Rattle.mu_defs.specs.Units.{with_parent, first_unit}
use Rattle.mu_defs.proofs.IndexLemmas.{turned}
use Rattle.mu_defs.proofs.UnitLemmas.{closed_first}
use Rattle.mu_defs.proofs.units.UnitTable.first_with.Goals as goal

pub first_closed-requires-clause-turned : goal.first_closed-requires-clause-turned
first_closed-requires-clause-turned c = turned members c.self.inside.parents c.self.inside.children c.self.invariant.children c.args.unit.now

pub returns : goal.returns
returns c =
    let starts : c.push.new.self.items ≡ c.args.parent.now ∷ [] =
    c.in_ok-push.ensures.items ∙ ap (λ (front : List (List ℕ)). front ++ c.in_ok-copy.field-0 ∷ []) c.new-starts.ensures.items ∙ ap (λ (name : List ℕ). name ∷ []) c.in_ok-copy.ensures in
    closed_first c.self.inside.parents c.args.unit.now c.args.parent.now c.self.invariant.acyclic c.in_ok-first.first
    (subst (λ (names : List (List ℕ)). IsFirstClosed (λ name. name) (led_by members c.self.inside.parents) names c.args.unit.now c.in_ok-first.first) starts c.in_ok-first.ensures)
    ∙ ap (λ (units : MapOf NamesOf). first_unit (with_parent units c.args.unit.now c.args.parent.now)) c.self.view_is
