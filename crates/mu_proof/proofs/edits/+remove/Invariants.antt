use Rattle.std.proofs.Common.{◌+◌, ◌*◌, length}
use Rattle.mu_proof.specs.Items.{all_in, all_items}
use Rattle.mu_proof.proofs.edits.+remove.Given as goal

abbrev pub decreases-remove_from : goal.decreases-remove_from
decreases-remove_from l = 3 * length (all_items l.items.now) + 2

abbrev pub decreases-remove_below : goal.decreases-remove_below
decreases-remove_below l = 3 * length (all_items l.items.now) + 1

abbrev pub decreases-remove_in : goal.decreases-remove_in
decreases-remove_in l = 3 * length (all_in l.item.now)
