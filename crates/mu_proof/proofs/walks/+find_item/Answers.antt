use Rattle.std.proofs.Common.{arith, sym, ap, ◌∙◌}
use Rattle.std.specs.Prelude.{is_some}
use Rattle.std.specs.List.{find}
use Rattle.mu_proof.specs.Items.{has_label, all_in}
use Rattle.mu_proof.proofs.WalkLemmas.{not_some, copied_some, found_here, none_here, found_first}
use Rattle.mu_proof.proofs.walks.+find_item.Goals as goal

pub find_in-returns-then-is_some : goal.find_in-returns-then-is_some
find_in-returns-then-is_some t c =
    c.find_item-found.ensures
    ∙ found_here all_in (has_label c.args.label.now) c.args.items.now c.loop-item.item-index c.item-item.result (omega arith) c.item-item.is c.loop-item.invariant
    (ap is_some (sym c.find_item-found.ensures) ∙ copied_some c.find_item-found.result ∙ sym c.is_some.ensures ∙ c.if-is_some.true)

pub find_in-loop-item-preserved : goal.find_in-loop-item-preserved
find_in-loop-item-preserved t c =
    none_here all_in (has_label c.args.label.now) c.args.items.now c.loop-item.item-index c.item-item.result (omega arith) c.item-item.is c.loop-item.invariant
    (not_some (find (has_label c.args.label.now) (all_in c.item-item.result)) (ap is_some (sym c.find_item-found.ensures) ∙ copied_some c.find_item-found.result ∙ sym c.is_some.ensures ∙ c.if-is_some.false))

pub find_item-returns-then-eq : goal.find_item-returns-then-eq
find_item-returns-then-eq t c = found_first c.args.label.now c.args.item.now (rw (← c.label.ensures) (sym c.eq.ensures ∙ c.if-eq.true))
