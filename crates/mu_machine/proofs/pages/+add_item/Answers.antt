use Rattle.std.proofs.Common.{◌∙◌}
use Rattle.mu_machine.proofs.PageLemmas.{box_behind}
use Rattle.mu_machine.proofs.pages.+add_item.Goals as goal

pub add_item-returns-in_ok-add_items-in-Block : goal.add_item-returns-in_ok-add_items-in-Block
add_item-returns-in_ok-add_items-in-Block t c =
    let box = c.in-Block in
    rw box.is (box_behind _ _ _ box.label box.vars box.assumptions box.items _ _ _ c.in_ok-add_head-in-Block.ensures (c.deref.ensures.value ∙ c.in_ok-deeper-in-Block.ensures) c.items.ensures c.in_ok-add_items-in-Block.ensures)
