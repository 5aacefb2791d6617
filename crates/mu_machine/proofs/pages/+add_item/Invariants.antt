use Rattle.std.proofs.Common.{◌≡◌, ◌++◌, take}
use Rattle.std.specs.List.{flat_map}
use Rattle.mu_machine.specs.Pages.{item_text}
use Rattle.mu_machine.proofs.pages.+add_item.Given as goal

abbrev pub invariant-add_items-loop-item : goal.invariant-add_items-loop-item
invariant-add_items-loop-item l = l.page.items ≡ l.initial.page.items ++ flat_map (λ each. item_text each l.blanks) (take l.item-index l.items)
