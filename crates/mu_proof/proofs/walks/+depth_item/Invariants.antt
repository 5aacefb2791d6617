use Rattle.std.proofs.Common.{◌≡◌, ◌-◌, ◌^◌, take, min}
use Rattle.mu_proof.specs.Items.{boxes_deep}
use Rattle.mu_proof.proofs.walks.+depth_item.Given as goal

abbrev pub invariant-depth_in-loop-item : goal.invariant-depth_in-loop-item
invariant-depth_in-loop-item l = l.depth ≡ min (boxes_deep (take l.item-index l.items)) (2 ^ 64 - 1)
