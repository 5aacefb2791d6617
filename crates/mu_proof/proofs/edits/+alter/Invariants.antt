use Rattle.std.proofs.Common.{◌+◌, ◌*◌, length}
use Rattle.mu_proof.specs.Items.{all_in, all_items}
use Rattle.mu_proof.proofs.edits.+alter.Given as goal

abbrev pub decreases-alter_in : goal.decreases-alter_in
decreases-alter_in l = 2 * length (all_items l.items.now) + 1

abbrev pub decreases-alter_item : goal.decreases-alter_item
decreases-alter_item l = 2 * length (all_in l.item.now)
