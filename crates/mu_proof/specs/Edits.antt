-- Edits of a proof: each changes the items of the blocks, the whole proof among them.
use Rattle.std.specs.Prelude.{ℕ, Bool, not, cond, List, length, map, Option, Some, None}
use Rattle.std.specs.Bool.{nat_eq}
use Rattle.std.specs.Option.{unwrap_or}
use Rattle.std.specs.List.{position, filter, insert}
use Rattle.std.specs.Cmp.Lexicographic.{pointwise}
use Rattle.mu_proof.specs.declared.alteration.Alteration.{Alteration}
use Rattle.mu_proof.specs.declared.alteration.Alteration.TheVariants.{Why, Tree, Head}
use Rattle.mu_proof.specs.declared.items.Item.{Item}
use Rattle.mu_proof.specs.declared.items.Item.TheOpen.{Item-F, Line, Block}
use Rattle.mu_proof.specs.declared.items.Item.TheFolds.{fold-Item}
use Rattle.mu_proof.specs.declared.items.Item.TheViews.{out-Item, roll-Item}
use Rattle.mu_proof.specs.declared.items.Item.TheVariants as item
use Rattle.mu_proof.specs.Items.{has_label, is_line}
use Rattle.mu_proof.specs.Names.{root}

-- the top of an item, a box with its items changed
abbrev pub edited_step : (List ℕ → List Item → List Item) → Item-F Item → Item
edited_step change (Line label tree why) = item.Line label tree why
edited_step change (Block label vars assumptions inner) = item.Block label vars assumptions (change label inner)

-- an item with `change name inner` in place of the items of each box in it, and of itself, where it is one
unfoldable pub edited_item : (List ℕ → List Item → List Item) → Item → Item
edited_item change = fold-Item Item (edited_step change)

-- the items of a proof with `change name inner` in place of the items `inner` of each block: a box goes by its label, the whole proof by `root`
abbrev pub edited : (List ℕ → List Item → List Item) → List Item → List Item
edited change items = change root (map (edited_item change) items)

-- where the item of a label stands; without a label the end
abbrev pub place_of : List Item → Option (List ℕ) → ℕ
place_of items None = length items
place_of items (Some before) = unwrap_or (position (has_label before) items) (length items)

-- the items of a block with one more: right before the item of a label, or at the end
abbrev pub with_item : List Item → Option (List ℕ) → Item → List Item
with_item items before new = insert items (place_of items before) new

-- puts an item into a block
abbrev pub putting : List ℕ → Option (List ℕ) → Item → List ℕ → List Item → List Item
putting block before new name inner = cond (pointwise nat_eq name block) (with_item inner before new) inner

-- a proof with one more item
abbrev pub inserted : List Item → List ℕ → Option (List ℕ) → Item → List Item
inserted items block before new = edited (putting block before new) items

-- leaves the item of a label out
abbrev pub dropping : List ℕ → List ℕ → List Item → List Item
dropping label name inner = filter (λ each. not (has_label label each)) inner

-- a proof without the item of a label, and without what is in it
abbrev pub removed : List Item → List ℕ → List Item
removed items label = edited (dropping label) items

-- whether an alteration is one of an item's kind: of a line or of a box
abbrev pub fits : Alteration → Item → Bool
fits (Why why) each = is_line each
fits (Tree tree) each = is_line each
fits (Head vars assumptions) each = not (is_line each)

-- the top of an item, altered where the alteration is one of its kind
abbrev pub altered_step : Alteration → Item-F Item → Item
altered_step (Why why) (Line label tree before) = item.Line label tree why
altered_step (Tree tree) (Line label before why) = item.Line label tree why
altered_step (Head vars assumptions) (Block label before were inner) = item.Block label vars assumptions inner
altered_step alteration top = roll-Item top

-- an item altered, where it has the label
abbrev pub altered_item : List ℕ → Alteration → Item → Item
altered_item label alteration each = cond (has_label label each) (altered_step alteration (out-Item each)) each

-- alters the item of a label
abbrev pub altering : List ℕ → Alteration → List ℕ → List Item → List Item
altering label alteration name inner = map (altered_item label alteration) inner

-- a proof with the item of a label altered
abbrev pub altered : List Item → List ℕ → Alteration → List Item
altered items label alteration = edited (altering label alteration) items
