use Rattle.std.proofs.Common.{◌∙◌, ap}
use Rattle.std.specs.FinMap as finite
use Rattle.mu_tree.proofs.TableLemmas.{len_in_order}
use Rattle.mu_tree.proofs.table.Table.len.Goals as goal

pub returns : goal.returns
returns g c = c.len.ensures.len ∙ len_in_order c.self.inside.entries.entries c.len.ensures.ordered ∙ ap finite.len c.self.view_is
