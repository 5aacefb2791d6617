use Rattle.std.proofs.Common.{sym, subst}
use Rattle.std.specs.FinMap as map
use Rattle.mu_tree.specs.Maps.{NamesOf}
use Rattle.mu_graph.specs.KeySets.{IsBlank}
use Rattle.mu_graph.proofs.NameLemmas.{empty_is_blank}
use Rattle.mu_graph.proofs.names.NameSetKeySet.none.Goals as goal

pub returns : goal.returns
returns c = subst (λ (set : NamesOf). IsBlank (map.contains_key set)) (sym c.new.ensures) empty_is_blank
