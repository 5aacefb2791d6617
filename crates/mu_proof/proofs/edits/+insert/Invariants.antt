use Rattle.std.proofs.Common.{◌+◌, ◌*◌, length}
use Rattle.mu_proof.specs.Items.{all_in, all_items}
use Rattle.mu_proof.proofs.edits.+insert.Given as goal

abbrev pub decreases-insert_in : goal.decreases-insert_in
decreases-insert_in l = 2 * length (all_items l.items.now) + 1

abbrev pub decreases-insert_item : goal.decreases-insert_item
decreases-insert_item l = 2 * length (all_in l.item.now)
