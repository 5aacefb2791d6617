use Rattle.std.proofs.Common.{◌≡◌, ◌-◌, ◌^◌, take, min, count_by}
use Rattle.mu_proof.specs.Items.{has_label, all_items}
use Rattle.mu_proof.proofs.walks.+count_label.Given as goal

abbrev pub invariant-count_label_in-loop-item : goal.invariant-count_label_in-loop-item
invariant-count_label_in-loop-item l = l.count ≡ min (count_by (has_label l.label) (all_items (take l.item-index l.items))) (2 ^ 64 - 1)
