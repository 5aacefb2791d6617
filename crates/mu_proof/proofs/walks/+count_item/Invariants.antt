use Rattle.std.proofs.Common.{◌≡◌, ◌-◌, ◌^◌, length, take, min}
use Rattle.mu_proof.specs.Items.{all_items}
use Rattle.mu_proof.proofs.walks.+count_item.Given as goal

abbrev pub invariant-count_in-loop-item : goal.invariant-count_in-loop-item
invariant-count_in-loop-item l = l.count ≡ min (length (all_items (take l.item-index l.items))) (2 ^ 64 - 1)
