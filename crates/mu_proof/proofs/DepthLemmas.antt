-- How deep boxes are in boxes.
use Rattle.std.proofs.Common.{arith, ◌≡◌, sym, ◌∙◌, ap, ◌+◌, max, cond, List, [], ◌∷◌, ◌++◌, ℕ, true, false, map, take, drop}
use Rattle.std.specs.Prelude.{Option}
use Rattle.std.specs.Bool.{nat_eq}
use Rattle.std.specs.List.{fold, insert}
use Rattle.std.specs.Cmp.Lexicographic.{pointwise}
use Rattle.std.proofs.lemmas.List.{map-append, take-append-drop}
use Rattle.mu_tree.specs.Trees.{deepest}
use Rattle.mu_tree.specs.declared.trees.Tree.{Tree}
use Rattle.mu_tree.specs.declared.claim.TypedVar.{TypedVar}
use Rattle.mu_proof.specs.declared.items.Item.{Item}
use Rattle.mu_proof.specs.declared.items.Item.TheVariants as item
use Rattle.mu_proof.specs.Items.{boxes_in, boxes_deep}
use Rattle.mu_proof.specs.Edits.{edited_item, with_item, place_of, putting}
use Rattle.mu_proof.proofs.ItemEquations.{boxes_in-block, edited_item-block}

deepest_from : (a : ℕ) (xs : List ℕ) → fold max a xs ≡ max a (deepest xs)
deepest_from a [] = omega arith
deepest_from a (x ∷ xs) = omega (arith, deepest_from (max a x) xs, deepest_from (max 0 x) xs)

deepest-cons : (x : ℕ) (xs : List ℕ) → deepest (x ∷ xs) ≡ max x (deepest xs)
deepest-cons x xs = omega (arith, deepest_from (max 0 x) xs)

deepest-append : (xs ys : List ℕ) → deepest (xs ++ ys) ≡ max (deepest xs) (deepest ys)
deepest-append [] ys = omega arith
deepest-append (x ∷ xs) ys = omega (arith, deepest-cons x xs, deepest-cons x (xs ++ ys), deepest-append xs ys)

pub boxes_deep-cons : (i : Item) (items : List Item) → boxes_deep (i ∷ items) ≡ max (boxes_in i) (boxes_deep items)
boxes_deep-cons i items = deepest-cons (boxes_in i) (map boxes_in items)

boxes_deep-append : (xs ys : List Item) → boxes_deep (xs ++ ys) ≡ max (boxes_deep xs) (boxes_deep ys)
boxes_deep-append xs ys = ap deepest (map-append boxes_in xs ys) ∙ deepest-append (map boxes_in xs) (map boxes_in ys)

-- with one more item, boxes are as deep as among the others or in it
pub boxes_deep-insert : (items : List Item) (at : ℕ) (new : Item) → boxes_deep (insert items at new) ≡ max (boxes_deep items) (boxes_in new)
boxes_deep-insert items at new =
    let added = boxes_deep-append (take at items) (new ∷ drop at items) in
    let first = deepest-cons (boxes_in new) (map boxes_in (drop at items)) in
    let before : boxes_deep items ≡ max (boxes_deep (take at items)) (boxes_deep (drop at items)) = ap boxes_deep (sym (take-append-drop at items)) ∙ boxes_deep-append (take at items) (drop at items) in
    omega arith

module _ (block : List ℕ) (before : Option (List ℕ)) (new : Item) (l : List ℕ) (vars : List TypedVar) (trees : List Tree) (items : List Item) where
  inner : List Item
  inner = map (edited_item (putting block before new)) items

  -- a box that an item is put into, and one that it isn't
  pub boxes_in-put : pointwise nat_eq l block ≡ true → boxes_in (edited_item (putting block before new) (item.Block l vars trees items)) ≡ max (boxes_deep (map (edited_item (putting block before new)) items)) (boxes_in new) + 1
  unfolding inner
  boxes_in-put is =
      ap boxes_in (edited_item-block l vars trees items (putting block before new))
      ∙ ap (λ b. boxes_in (item.Block l vars trees (cond b (with_item inner before new) inner))) is
      ∙ boxes_in-block l vars trees (with_item inner before new)
      ∙ ap (λ n. n + 1) (boxes_deep-insert inner (place_of inner before) new)

  pub boxes_in-passed : pointwise nat_eq l block ≡ false → boxes_in (edited_item (putting block before new) (item.Block l vars trees items)) ≡ boxes_deep (map (edited_item (putting block before new)) items) + 1
  unfolding inner
  boxes_in-passed is =
      ap boxes_in (edited_item-block l vars trees items (putting block before new))
      ∙ ap (λ b. boxes_in (item.Block l vars trees (cond b (with_item inner before new) inner))) is
      ∙ boxes_in-block l vars trees inner
