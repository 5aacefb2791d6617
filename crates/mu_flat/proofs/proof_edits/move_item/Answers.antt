use Rattle.std.proofs.Common.{◌≡◌, subst, List, Some}
use Rattle.std.specs.Option.{option_copied}
use Rattle.mu_proof.specs.Proofs.{remove_fault}
use Rattle.mu_proof.specs.declared.items.Item.{Item}
use Rattle.mu_flat.proofs.FoundItems.{absent_moves}
use Rattle.mu_flat.proofs.proof_edits.move_item.Goals as goal

pub returns-in-Err-clause-fault : goal.returns-in-Err-clause-fault
returns-in-Err-clause-fault c other =
    absent_moves c.args.proof.now c.args.label.now c.args.block.now (option_copied c.args.before) c.in-Err.fault
    (subst (λ (items : List Item). remove_fault items c.args.label.now ≡ Some c.in-Err.fault) c.in_ok-changed.ensures (c.in-Err.ensures.fault other))
