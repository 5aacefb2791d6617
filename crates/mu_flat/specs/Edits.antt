-- When an edit of a stored proof is refused.
use Rattle.std.specs.Prelude.{ℕ, List, Option, Some, None, option_and_then}
use Rattle.std.specs.Option.{option_map, option_or}
use Rattle.mu_tree.specs.declared.refusal.Refusal.{Refusal}
use Rattle.mu_tree.specs.declared.refusal.Refusal.TheVariants.{Unknown, Taken, Circle, TooMany}
use Rattle.mu_tree.specs.declared.refusal.CountWord.TheVariants as count
use Rattle.mu_tree.specs.declared.why.Why.{Why}
use Rattle.mu_proof.specs.declared.items.Item.{Item}
use Rattle.mu_proof.specs.declared.fault.ProofFault.{ProofFault}
use Rattle.mu_proof.specs.declared.fault.ProofFault.TheVariants as fault
use Rattle.mu_proof.specs.Proofs.{line_fault, box_fault, place_fault}
use Rattle.mu_flat.specs.declared.edits.EditFault.{EditFault}
use Rattle.mu_flat.specs.declared.edits.EditFault.TheVariants as edit
use Rattle.mu_flat.specs.declared.proof_edits.ProofEdit.{ProofEdit}
use Rattle.mu_flat.specs.ProofEdits.{fault_of}
use Rattle.mu_flat.specs.Circles.{first_circle}
use Rattle.mu_flat.specs.ProofTables.{ProofsOf, proof_at, with_reason_at}

-- the refusal that a fault of a proof's edit is; want of memory is none
abbrev pub refused_by : ProofFault → Option Refusal
refused_by (fault.Unknown name) = Some (Unknown name)
refused_by (fault.Taken name) = Some (Taken name)
refused_by fault.Boxes = Some (TooMany count.Boxes)
refused_by fault.Items = Some (TooMany count.Items)
refused_by fault.NoMemory = None

-- why an edit of the proof that was found is refused: a proof of this name must be there, and then the edit must have no fault in it
abbrev pub refusal_in : List ℕ → (List Item → Option ProofFault) → Option (List Item) → Option Refusal
refusal_in proof fault_in None = Some (Unknown proof)
refusal_in proof fault_in (Some items) = option_and_then refused_by (fault_in items)

-- why something is refused of the proof of a rule, by its fault in the items of the proof
abbrev pub refusal_at : ProofsOf → List ℕ → List ℕ → (List Item → Option ProofFault) → Option Refusal
refusal_at proofs rule proof fault_in = refusal_in proof fault_in (proof_at proofs rule proof)

-- why an edit of the proof of a rule is refused
abbrev pub edit_refusal : ProofsOf → List ℕ → List ℕ → ProofEdit → Option Refusal
edit_refusal proofs rule proof change = refusal_at proofs rule proof (fault_of change)

-- why there is no place for an item in a block of the proof of a rule, or it brings a label that it may not have
abbrev pub place_refusal : ProofsOf → List ℕ → List ℕ → List ℕ → Option (List ℕ) → Item → Option Refusal
place_refusal proofs rule proof block before item = refusal_at proofs rule proof (λ items. place_fault items block before item)

-- that the proof of a rule, or a line of a label in it, isn't there
abbrev pub line_refusal : ProofsOf → List ℕ → List ℕ → List ℕ → Option Refusal
line_refusal proofs rule proof label = refusal_at proofs rule proof (λ items. line_fault items label)

-- that the proof of a rule, or a box of a label in it, isn't there
abbrev pub box_refusal : ProofsOf → List ℕ → List ℕ → List ℕ → Option Refusal
box_refusal proofs rule proof label = refusal_at proofs rule proof (λ items. box_fault items label)

-- that with another reason of a line, some rule would lead back to itself: the first in byte order
abbrev pub circle_refusal : ProofsOf → List ℕ → List ℕ → List ℕ → Why → Option Refusal
circle_refusal proofs rule proof label why = option_map Circle (first_circle (with_reason_at proofs rule proof label (Some why)))

-- why a line of the proof of a rule can't be cited to a reason: the line must be there, and afterwards no rule may lead back to itself
abbrev pub cite_refusal : ProofsOf → List ℕ → List ℕ → List ℕ → Why → Option Refusal
cite_refusal proofs rule proof label why = option_or (line_refusal proofs rule proof label) (circle_refusal proofs rule proof label why)

-- a fault of a proof's edit as one of the store
abbrev pub edit_fault : ProofFault → EditFault
edit_fault (fault.Unknown name) = edit.Refused (Unknown name)
edit_fault (fault.Taken name) = edit.Refused (Taken name)
edit_fault fault.Boxes = edit.Refused (TooMany count.Boxes)
edit_fault fault.Items = edit.Refused (TooMany count.Items)
edit_fault fault.NoMemory = edit.NoMemory
