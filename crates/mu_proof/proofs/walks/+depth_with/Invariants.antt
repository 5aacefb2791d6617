use Rattle.std.proofs.Common.{◌≡◌, ◌-◌, ◌^◌, ℕ, List, take, min, map}
use Rattle.std.specs.Prelude.{Option}
use Rattle.mu_proof.specs.declared.items.Item.{Item}
use Rattle.mu_proof.specs.Items.{boxes_in, boxes_deep}
use Rattle.mu_proof.specs.Edits.{edited_item, putting}
use Rattle.mu_proof.proofs.walks.+depth_with.Given as goal

abbrev pub invariant-depth_with_in-loop-item : goal.invariant-depth_with_in-loop-item
invariant-depth_with_in-loop-item l =
    (before : Option (List ℕ)) (other : Item) → l.new ≡ min (boxes_in other) (2 ^ 64 - 1) → l.depth ≡ min (boxes_deep (map (edited_item (putting l.block before other)) (take l.item-index l.items))) (2 ^ 64 - 1)
