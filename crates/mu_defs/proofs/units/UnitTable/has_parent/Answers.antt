use Rattle.std.proofs.Common.{◌∙◌, sym, ap}
use Rattle.std.specs.Prelude.{Option}
use Rattle.std.specs.Option.{option_map_or}
use Rattle.std.specs.FinMap as finite
use Rattle.mu_tree.specs.Maps.{MapOf, NamesOf}
use Rattle.mu_graph.proofs.NameLemmas.{empty_is_blank}
use Rattle.mu_defs.specs.Units.{is_parent}
use Rattle.mu_defs.proofs.units.UnitTable.has_parent.Goals as goal

pub returns-in-None : goal.returns-in-None
returns-in-None c =
    sym (empty_is_blank c.args.parent.now)
    ∙ ap (λ (found : Option NamesOf). finite.contains_key (option_map_or (λ (names : NamesOf). names) found finite.empty) c.args.parent.now) c.in-None.ensures
    ∙ ap (λ (units : MapOf NamesOf). is_parent units c.args.unit.now c.args.parent.now) c.self.view_is
