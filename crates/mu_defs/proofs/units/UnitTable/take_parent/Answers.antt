use Rattle.std.proofs.Common.{◌≡◌, ◌∙◌, ap}
use Rattle.std.specs.Prelude.{Option}
use Rattle.std.specs.Option.{option_map_or}
use Rattle.std.specs.FinMap as finite
use Rattle.mu_tree.specs.Maps.{MapOf, NamesOf}
use Rattle.mu_defs.specs.Units.{without_parent}
use Rattle.mu_defs.proofs.LentValues.{where_lent}
use Rattle.mu_defs.proofs.UnitLemmas.{kept_without}
use Rattle.mu_defs.proofs.units.UnitTable.take_parent.Goals as goal

-- the unit has its other parents afterwards
parent_gone : (c : goal.After-take-2) → c.get_mut.follows.lender c.take.new.self ≡ without_parent c.self.inside.parents c.args.unit.now c.args.parent.now
parent_gone c =
    where_lent c.get_mut.result c.in-Some.parents c.in-Some.is (c.get_mut.follows.holds c.take.new.self)
    ∙ ap (finite.insert c.self.inside.parents c.args.unit.now) c.take.ensures.taken
    ∙ ap (λ (found : Option NamesOf). finite.insert c.self.inside.parents c.args.unit.now (finite.remove (option_map_or (λ (names : NamesOf). names) found finite.empty) c.args.parent.now)) c.in-Some.ensures.value

pub invariant_of-self : goal.invariant_of-self
invariant_of-self c = rw (parent_gone c, c.take-2.ensures) (kept_without c.self.inside c.self.invariant c.args.unit.now c.args.parent.now)

pub returns : goal.returns
returns c = parent_gone c ∙ ap (λ (units : MapOf NamesOf). without_parent units c.args.unit.now c.args.parent.now) c.self.view_is
