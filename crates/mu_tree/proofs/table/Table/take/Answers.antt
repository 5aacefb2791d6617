use Rattle.std.proofs.Common.{◌∙◌, sym, ap}
use Rattle.std.specs.FinMap as map
use Rattle.mu_tree.proofs.TableLemmas.{get_name, one_taken}
use Rattle.mu_tree.proofs.table.Table.take.Goals as goal

pub returns-clause-value : goal.returns-clause-value
returns-clause-value g c =
    c.remove.ensures.value ∙ sym (get_name c.self.inside.entries.entries c.args.name.now) ∙ ap (λ m. map.get m c.args.name.now) c.self.view_is

pub returns-clause-taken : goal.returns-clause-taken
returns-clause-taken g c =
    one_taken c.self.inside.entries c.remove.new.self c.args.name.now c.remove.ensures.updates ∙ ap (λ m. map.remove m c.args.name.now) c.self.view_is
