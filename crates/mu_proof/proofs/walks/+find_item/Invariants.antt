use Rattle.std.proofs.Common.{◌≡◌, take, None}
use Rattle.std.specs.List.{find}
use Rattle.mu_proof.specs.Items.{has_label, all_items}
use Rattle.mu_proof.proofs.walks.+find_item.Given as goal

abbrev pub invariant-find_in-loop-item : goal.invariant-find_in-loop-item
invariant-find_in-loop-item l = find (has_label l.label) (all_items (take l.item-index l.items)) ≡ None
