-- Edits of a proof that bring no citation into it.
use Rattle.std.specs.Prelude.{◌≡◌, ◌⊎◌, ℕ, Bool, false, List, [], Option, Some, None, is_some}
use Rattle.std.specs.Option.{option_map_or}
use Rattle.std.specs.List.{find}
use Rattle.mu_tree.specs.declared.claim.TypedVar.{TypedVar}
use Rattle.mu_tree.specs.declared.trees.Tree.{Tree}
use Rattle.mu_proof.specs.declared.alteration.Alteration.TheVariants as alteration
use Rattle.mu_proof.specs.declared.fault.ProofFault.{ProofFault}
use Rattle.mu_proof.specs.declared.fault.ProofFault.TheVariants as fault
use Rattle.mu_proof.specs.declared.items.Item.{Item}
use Rattle.mu_proof.specs.declared.items.Item.TheOpen.{Item-F, Line, Block}
use Rattle.mu_proof.specs.declared.items.Item.TheVariants as item
use Rattle.mu_proof.specs.declared.items.Item.TheViews.{out-Item}
use Rattle.mu_proof.specs.Edits.{inserted, removed, altered}
use Rattle.mu_proof.specs.Items.{has_label, all_items}
use Rattle.mu_proof.specs.Proofs.{unless, insert_fault, line_fault, box_fault, remove_fault}
use Rattle.mu_flat.specs.declared.proof_edits.ProofEdit.{ProofEdit}
use Rattle.mu_flat.specs.declared.proof_edits.ProofEdit.TheVariants.{Insert, SetTree, SetHead, Move, ClearReason, Remove}

-- whether the top of an item is a line with a reason
abbrev pub has_reason_step : Item-F Item → Bool
has_reason_step (Line label tree why) = is_some why
has_reason_step (Block label vars assumptions inner) = false

-- whether an item is a line with a reason
abbrev pub has_reason : Item → Bool
has_reason each = has_reason_step (out-Item each)

-- the item of a label, in whatever box
abbrev pub item_at : List Item → List ℕ → Option Item
item_at items label = find (has_label label) (all_items items)

-- a reason is taken from a line that has one
abbrev pub reason_fault : List Item → List ℕ → Option ProofFault
reason_fault items label = unless (option_map_or has_reason (item_at items label) false) (fault.Unknown label)

-- the fault of a move of the item that was found: in the proof without it there must be a place for it
abbrev pub moving_fault : List Item → List ℕ → List ℕ → Option (List ℕ) → Option Item → Option ProofFault
moving_fault items label block before None = Some (fault.Unknown label)
moving_fault items label block before (Some found) = insert_fault (removed items label) block before found

-- the items with the one that was found in another place
abbrev pub moving : List Item → List ℕ → List ℕ → Option (List ℕ) → Option Item → List Item
moving items label block before None = items
moving items label block before (Some found) = inserted (removed items label) block before found

-- the first fault of an edit of some items
abbrev pub fault_of : ProofEdit → List Item → Option ProofFault
fault_of (Insert block before new) items = insert_fault items block before new
fault_of (SetTree label tree) items = line_fault items label
fault_of (SetHead label vars assumptions) items = box_fault items label
fault_of (Move label block before) items = moving_fault items label block before (item_at items label)
fault_of (ClearReason label) items = reason_fault items label
fault_of (Remove label) items = remove_fault items label

-- some items after an edit without a fault
abbrev pub made : ProofEdit → List Item → List Item
made (Insert block before new) items = inserted items block before new
made (SetTree label tree) items = altered items label (alteration.Tree tree)
made (SetHead label vars assumptions) items = altered items label (alteration.Head vars assumptions)
made (Move label block before) items = moving items label block before (item_at items label)
made (ClearReason label) items = altered items label (alteration.Why None)
made (Remove label) items = removed items label

-- an item that is still open: a line without a reason, or a box without items
abbrev pub IsOpen : Item → Type 0
IsOpen each = ((label : List ℕ) × (tree : Tree) × (each ≡ item.Line label tree None)) ⊎ ((label : List ℕ) × (vars : List TypedVar) × (assumptions : List Tree) × (each ≡ item.Block label vars assumptions []))

-- an edit puts in only an item that is still open
abbrev pub PutsOpen : ProofEdit → Type 0
PutsOpen (Insert block before new) = IsOpen new
PutsOpen _ = Unit {0}
