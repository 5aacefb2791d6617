use Rattle.std.proofs.Common.{arith, ◌≡◌, [], ap, sym, ◌∙◌, map}
use Rattle.std.specs.FinMap as finite
use Rattle.std.specs.Map.Iter.{deref_pair}
use Rattle.std.proofs.lemmas.Map.Iter.{rest_all}
use Rattle.std.proofs.lemmas.Grind.{common_steps}
use Rattle.mu_tree.proofs.TableLemmas.{entries_in_order}
use Rattle.mu_tree.proofs.table.Table.entries.Goals as goal

pub returns : goal.returns
returns g c =
    let done : c.loop-entry.entry-iterator ≡ [] = rest_all deref_pair _ _ _ c.in-None.is c.next.ensures.steps in
    let all : map deref_pair c.loop-entry.entries.items ≡ c.self.inside.entries.entries = grind (arith, common_steps) in
    all ∙ sym (entries_in_order c.self.inside.entries.entries c.iter-entry-items.ensures.ordered) ∙ ap (λ m. finite.entries m) c.self.view_is
