use Rattle.std.proofs.Common.{◌≡◌, take}
use Rattle.mu_tree.proofs.duplicate.SequenceDuplicate.duplicate.Given as goal

abbrev pub invariant-loop-item : goal.invariant-loop-item
invariant-loop-item g l = l.twins ≡ take l.item-index l.item-items
