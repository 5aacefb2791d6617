-- What is read off a line and off a box, and what an edit makes of them.
use Rattle.std.proofs.Common.{◌≡◌, ℕ, ◌+◌, Bool, true, false, List, [], ◌∷◌, ◌++◌, map, ap, refl, sym, ◌∙◌}
use Rattle.std.specs.Prelude.{Option, Some, None}
use Rattle.std.specs.List.{flat_map}
use Rattle.mu_tree.specs.declared.trees.Tree.{Tree}
use Rattle.mu_tree.specs.declared.claim.TypedVar.{TypedVar}
use Rattle.mu_tree.specs.declared.why.Why.{Why}
use Rattle.mu_proof.specs.declared.items.Item.{Item}
use Rattle.mu_proof.specs.declared.items.Item.TheOpen.{Line, Block}
use Rattle.mu_proof.specs.declared.items.Item.TheFolds.{fold-roll-Item, para-roll-Item}
use Rattle.mu_proof.specs.declared.items.Item.TheViews.{out-roll-Item}
use Rattle.mu_proof.specs.declared.items.Item.TheVariants as item
use Rattle.mu_proof.specs.Items.{label_step, label_of, line_step, is_line, inner_step, inner_of, all_step, all_in, all_items, boxes_step, boxes_in, boxes_deep}
use Rattle.mu_proof.specs.Edits.{edited_step, edited_item}

firsts : {X Y : Type 0} (f : X → Y) (xs : List X) → map (λ (each : X × Y). each.0) (map (λ x. (x, f x)) xs) ≡ xs
firsts f [] = refl
firsts f (x ∷ xs) = ap (λ rest. x ∷ rest) (firsts f xs)

seconds : {X Y : Type 0} (f : X → List Y) (xs : List X) → flat_map (λ (each : X × List Y). each.1) (map (λ x. (x, f x)) xs) ≡ flat_map f xs
seconds f [] = refl
seconds f (x ∷ xs) = ap (λ rest. f x ++ rest) (seconds f xs)

module _ (l : List ℕ) (t : Tree) (w : Option Why) where
  pub label_of-line : label_of (item.Line l t w) ≡ l
  label_of-line = ap label_of (sym (item.rolls-Line l t w)) ∙ fold-roll-Item (List ℕ) label_step (Line l t w)

  pub is_line-line : is_line (item.Line l t w) ≡ true
  is_line-line = ap is_line (sym (item.rolls-Line l t w)) ∙ fold-roll-Item Bool line_step (Line l t w)

  pub inner_of-line : inner_of (item.Line l t w) ≡ None
  inner_of-line = ap inner_of (sym (item.rolls-Line l t w)) ∙ ap inner_step (out-roll-Item (Line l t w))

  pub all_in-line : all_in (item.Line l t w) ≡ item.Line l t w ∷ []
  unfolding all_in
  all_in-line = ap all_in (sym (item.rolls-Line l t w)) ∙ para-roll-Item (List Item) all_step (Line l t w)

  pub boxes_in-line : boxes_in (item.Line l t w) ≡ 0
  unfolding boxes_in
  boxes_in-line = ap boxes_in (sym (item.rolls-Line l t w)) ∙ fold-roll-Item ℕ boxes_step (Line l t w)

  pub edited_item-line : (change : List ℕ → List Item → List Item) → edited_item change (item.Line l t w) ≡ item.Line l t w
  unfolding edited_item
  edited_item-line change = ap (edited_item change) (sym (item.rolls-Line l t w)) ∙ fold-roll-Item Item (edited_step change) (Line l t w)

module _ (l : List ℕ) (vars : List TypedVar) (trees : List Tree) (items : List Item) where
  pub label_of-block : label_of (item.Block l vars trees items) ≡ l
  label_of-block = ap label_of (sym (item.rolls-Block l vars trees items)) ∙ fold-roll-Item (List ℕ) label_step (Block l vars trees items)

  pub is_line-block : is_line (item.Block l vars trees items) ≡ false
  is_line-block = ap is_line (sym (item.rolls-Block l vars trees items)) ∙ fold-roll-Item Bool line_step (Block l vars trees items)

  pub inner_of-block : inner_of (item.Block l vars trees items) ≡ Some items
  inner_of-block = ap inner_of (sym (item.rolls-Block l vars trees items)) ∙ ap inner_step (out-roll-Item (Block l vars trees items))

  pub all_in-block : all_in (item.Block l vars trees items) ≡ item.Block l vars trees items ∷ all_items items
  unfolding all_in
  all_in-block =
      ap all_in (sym (item.rolls-Block l vars trees items))
      ∙ para-roll-Item (List Item) all_step (Block l vars trees items)
      ∙ ap (λ inner. item.Block l vars trees inner ∷ flat_map (λ (each : Item × List Item). each.1) (map (λ i. (i, all_in i)) items)) (firsts all_in items)
      ∙ ap (λ rest. item.Block l vars trees items ∷ rest) (seconds all_in items)

  pub boxes_in-block : boxes_in (item.Block l vars trees items) ≡ boxes_deep items + 1
  unfolding boxes_in
  boxes_in-block = ap boxes_in (sym (item.rolls-Block l vars trees items)) ∙ fold-roll-Item ℕ boxes_step (Block l vars trees items)

  pub edited_item-block : (change : List ℕ → List Item → List Item) → edited_item change (item.Block l vars trees items) ≡ item.Block l vars trees (change l (map (edited_item change) items))
  unfolding edited_item
  edited_item-block change = ap (edited_item change) (sym (item.rolls-Block l vars trees items)) ∙ fold-roll-Item Item (edited_step change) (Block l vars trees items)

pub ruleset item_equations = (
  label_of-line,
  label_of-block,
  is_line-line,
  is_line-block,
  inner_of-line,
  inner_of-block,
  all_in-line,
  all_in-block,
  boxes_in-line,
  boxes_in-block,
  edited_item-line,
  edited_item-block,
)
