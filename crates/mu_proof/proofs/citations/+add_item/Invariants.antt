use Rattle.std.proofs.Common.{◌≡◌, ◌++◌, take}
use Rattle.mu_proof.specs.Citations.{cites}
use Rattle.mu_proof.proofs.citations.+add_item.Given as goal

abbrev pub invariant-add_items-loop-item : goal.invariant-add_items-loop-item
invariant-add_items-loop-item l = l.found ≡ l.initial.found ++ cites (take l.item-index l.items)
