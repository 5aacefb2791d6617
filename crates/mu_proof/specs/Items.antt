-- What is read off the items of a proof.
use Rattle.std.specs.Prelude.{ℕ, ◌+◌, Bool, true, false, not, ◌&&◌, List, [], ◌∷◌, map, Option, Some, None}
use Rattle.std.specs.Bool.{nat_eq}
use Rattle.std.specs.List.{flat_map}
use Rattle.std.specs.Cmp.Lexicographic.{pointwise}
use Rattle.mu_tree.specs.Trees.{deepest}
use Rattle.mu_proof.specs.declared.items.Item.{Item}
use Rattle.mu_proof.specs.declared.items.Item.TheOpen.{Item-F, Line, Block}
use Rattle.mu_proof.specs.declared.items.Item.TheFolds.{fold-Item, para-Item}
use Rattle.mu_proof.specs.declared.items.Item.TheViews.{out-Item}
use Rattle.mu_proof.specs.declared.items.Item.TheVariants as item

-- the label at the top of an item
abbrev pub label_step : Item-F (List ℕ) → List ℕ
label_step (Line label tree why) = label
label_step (Block label vars assumptions labels) = label

-- an item's label
abbrev pub label_of : Item → List ℕ
label_of = fold-Item (List ℕ) label_step

-- whether the top of an item is a line
abbrev pub line_step : Item-F Bool → Bool
line_step (Line label tree why) = true
line_step (Block label vars assumptions lines) = false

-- whether an item is a line; else it is a box
abbrev pub is_line : Item → Bool
is_line = fold-Item Bool line_step

-- whether an item has a label
abbrev pub has_label : List ℕ → Item → Bool
has_label label item = pointwise nat_eq (label_of item) label

-- whether an item is the line of a label
abbrev pub is_line_at : List ℕ → Item → Bool
is_line_at label item = has_label label item && is_line item

-- whether an item is the box of a label
abbrev pub is_box_at : List ℕ → Item → Bool
is_box_at label item = has_label label item && not (is_line item)

-- the items at the top of a box, none of a line
abbrev pub inner_step : Item-F Item → Option (List Item)
inner_step (Line label tree why) = None
inner_step (Block label vars assumptions inner) = Some inner

-- the items directly in a box; a line has none
abbrev pub inner_of : Item → Option (List Item)
inner_of item = inner_step (out-Item item)

-- an item before all items in it, of which each comes with those in it
abbrev pub all_step : Item-F (Item × List Item) → List Item
all_step (Line label tree why) = item.Line label tree why ∷ []
all_step (Block label vars assumptions inner) = item.Block label vars assumptions (map (λ each. each.0) inner) ∷ flat_map (λ each. each.1) inner

-- an item and all items in it, each before those in it
unfoldable pub all_in : Item → List Item
all_in = para-Item (List Item) all_step

-- some items and all items in them, in whatever box, each before those in it
abbrev pub all_items : List Item → List Item
all_items items = flat_map all_in items

-- the labels of an item and of all items in it, from left to right
abbrev pub labels_in : Item → List (List ℕ)
labels_in item = map label_of (all_in item)

-- one box more than the deepest of its items
abbrev pub boxes_step : Item-F ℕ → ℕ
boxes_step (Line label tree why) = 0
boxes_step (Block label vars assumptions depths) = deepest depths + 1

-- how deep an item is in boxes: a line 0, and a box 1 where it has no box in it
unfoldable pub boxes_in : Item → ℕ
boxes_in = fold-Item ℕ boxes_step

-- how deep boxes are in boxes among some items
abbrev pub boxes_deep : List Item → ℕ
boxes_deep items = deepest (map boxes_in items)
