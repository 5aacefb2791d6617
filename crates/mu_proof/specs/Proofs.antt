-- A proof as the list of its items, and when an edit of it is refused.
use Rattle.std.specs.Prelude.{◌≡◌, ℕ, ◌≤◌, nat_le, nat_lt, Bool, false, ◌&&◌, ◌||◌, cond, List, [], length, map, count_by, Option, Some, None, is_some}
use Rattle.std.specs.Prelude.{option_and_then}
use Rattle.std.specs.Bool.{nat_eq}
use Rattle.std.specs.Option.{unwrap_or, option_or, option_map}
use Rattle.std.specs.List.{list_any, find, IsDistinct}
use Rattle.std.specs.Cmp.Lexicographic.{pointwise}
use Rattle.mu_proof.specs.declared.alteration.Alteration.{Alteration}
use Rattle.mu_proof.specs.declared.items.Item.{Item}
use Rattle.mu_proof.specs.declared.fault.ProofFault.{ProofFault}
use Rattle.mu_proof.specs.declared.fault.ProofFault.TheVariants as fault
use Rattle.mu_proof.specs.Edits.{inserted, fits}
use Rattle.mu_proof.specs.Items.{label_of, has_label, is_line_at, is_box_at, inner_of, all_in, all_items, labels_in, boxes_deep}
pub use Rattle.mu_proof.specs.Names.{root, is_root}

-- whether an item, in whatever box, has the label
abbrev pub is_label : List Item → List ℕ → Bool
is_label items label = list_any (has_label label) (all_items items)

-- whether a line has the label
abbrev pub is_line_label : List Item → List ℕ → Bool
is_line_label items label = list_any (is_line_at label) (all_items items)

-- whether a box has the label
abbrev pub is_box_label : List Item → List ℕ → Bool
is_box_label items label = list_any (is_box_at label) (all_items items)

-- what the items of a proof keep: each has a label of its own, none of them `root`, boxes are at most 32 deep, and there are at most 4,096 items
pub record IsProof (items : List Item) : Type 0 where
  pub distinct : IsDistinct (pointwise nat_eq) (map label_of (all_items items))
  pub unrooted : is_label items root ≡ false
  pub shallow : boxes_deep items ≤ 32
  pub few : length (all_items items) ≤ 4096

-- the items directly in a block: the whole proof or the box of a label; none where there is no such block
abbrev pub block_items : List Item → List ℕ → Option (List Item)
block_items items block = cond (is_root block) (Some items) (option_and_then inner_of (find (has_label block) (all_items items)))

-- the fault where a test fails
abbrev pub unless : Bool → ProofFault → Option ProofFault
unless passes blame = cond passes None (Some blame)

-- a new item goes into a block that is there
abbrev pub block_fault : List Item → List ℕ → Option ProofFault
block_fault items block = unless (is_some (block_items items block)) (fault.Unknown block)

-- a new item goes before an item of the block, or to its end
abbrev pub before_fault : List Item → List ℕ → Option (List ℕ) → Option ProofFault
before_fault items block None = None
before_fault items block (Some before) = unless (list_any (has_label before) (unwrap_or (block_items items block) [])) (fault.Unknown before)

-- whether a label of a new item is in use, is `root` or stands twice in the new item
abbrev pub is_taken : List Item → Item → List ℕ → Bool
is_taken items new label = is_label items label || is_root label || nat_lt 1 (count_by (has_label label) (all_in new))

-- a new item brings labels of its own; the first that it may not have is told
abbrev pub taken_fault : List Item → Item → Option ProofFault
taken_fault items new = option_map fault.Taken (find (is_taken items new) (labels_in new))

-- boxes are at most 32 deep afterwards
abbrev pub boxes_fault : List Item → Option ProofFault
boxes_fault after = unless (nat_le (boxes_deep after) 32) fault.Boxes

-- there are at most 4,096 items afterwards
abbrev pub items_fault : List Item → Option ProofFault
items_fault after = unless (nat_le (length (all_items after)) 4096) fault.Items

-- there is room for what an edit leaves
abbrev pub room_fault : List Item → Option ProofFault
room_fault after = option_or (boxes_fault after) (items_fault after)

-- the first fault of the place and the labels of an item that is to go into a block, before the item of another label or to the end
abbrev pub place_fault : List Item → List ℕ → Option (List ℕ) → Item → Option ProofFault
place_fault items block before new = option_or (block_fault items block) (option_or (before_fault items block before) (taken_fault items new))

-- the first fault of an item that is to go into a block
abbrev pub insert_fault : List Item → List ℕ → Option (List ℕ) → Item → Option ProofFault
insert_fault items block before new = option_or (place_fault items block before new) (room_fault (inserted items block before new))

-- what is dropped is there
abbrev pub remove_fault : List Item → List ℕ → Option ProofFault
remove_fault items label = unless (is_label items label) (fault.Unknown label)

-- a tree or a justification belongs to a line that is there
abbrev pub line_fault : List Item → List ℕ → Option ProofFault
line_fault items label = unless (is_line_label items label) (fault.Unknown label)

-- variables and assumptions belong to a box that is there
abbrev pub box_fault : List Item → List ℕ → Option ProofFault
box_fault items label = unless (is_box_label items label) (fault.Unknown label)

-- what is altered is there and of the kind of the alteration
abbrev pub alter_fault : List Item → List ℕ → Alteration → Option ProofFault
alter_fault items label alteration = unless (list_any (λ each. has_label label each && fits alteration each) (all_items items)) (fault.Unknown label)
