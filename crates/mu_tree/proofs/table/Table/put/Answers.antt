use Rattle.std.proofs.Common.{◌∙◌, ap}
use Rattle.std.specs.FinMap as map
use Rattle.mu_tree.proofs.TableLemmas.{one_put}
use Rattle.mu_tree.proofs.table.Table.put.Goals as goal

pub returns-in-Ok-clause-ok : goal.returns-in-Ok-clause-ok
returns-in-Ok-clause-ok g c = one_put c.self.inside.entries c.insert.new.self c.args.name c.args.value c.in-Ok.ensures.updates ∙ ap (λ m. map.insert m c.args.name c.args.value) c.self.view_is
