use Rattle.std.proofs.Common.{arith, ◌≡◌, [], ap, sym, ◌∙◌}
use Rattle.std.specs.FinMap as map
use Rattle.std.specs.Map.Iter.{deref}
use Rattle.std.specs.BTreeMap.{keys}
use Rattle.std.proofs.lemmas.Map.Iter.{rest_all}
use Rattle.std.proofs.lemmas.Grind.{common_steps}
use Rattle.mu_tree.proofs.TableLemmas.{names_in_order}
use Rattle.mu_tree.proofs.table.Table.names.Goals as goal

pub returns : goal.returns
returns g c =
    let done : c.loop-name.name-iterator ≡ [] = rest_all deref _ _ _ c.in-None.is c.next.ensures.steps in
    let all : c.loop-name.names ≡ keys c.self.inside.entries = grind (arith, common_steps) in
    all ∙ sym (names_in_order c.self.inside.entries c.keys-name-items.ensures.ordered) ∙ ap (λ m. map.keys m) c.self.view_is
