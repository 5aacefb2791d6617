-- A proof with one more item.
use Rattle.std.proofs.Common.{arith, ◌≡◌, refl, sym, ◌∙◌, ap, ◌+◌, max, List, [], ◌∷◌, ℕ, Bool, true, false, map, Some, sum_by, count_by, inl, inr}
use Rattle.std.specs.Prelude.{Option, not, ◌&&◌, ◌||◌, is_some, option_and_then}
use Rattle.std.specs.Bool.{nat_eq}
use Rattle.std.specs.List.{AllByRecursion, list_any, find}
use Rattle.std.specs.Cmp.Lexicographic.{pointwise, nat_list_eq_equiv, bytes_decides}
use Rattle.std.proofs.lemmas.Bool.{false≢true, cases_Bool, cond-true, cond-false, or_left, or_right}
use Rattle.std.proofs.lemmas.List.Folds.{list_any-append}
use Rattle.std.proofs.lemmas.List.Sums.{sum_by-cons, sum_by-insert}
use Rattle.mu_tree.specs.declared.trees.Tree.{Tree}
use Rattle.mu_tree.specs.declared.claim.TypedVar.{TypedVar}
use Rattle.mu_proof.specs.declared.items.Item.{Item}
use Rattle.mu_proof.specs.declared.items.Item.TheVariants as item
use Rattle.mu_proof.specs.Items.{has_label, is_line, inner_of, is_box_at, all_in, all_items, boxes_in, boxes_deep}
use Rattle.mu_proof.specs.Edits.{edited_item, place_of, with_item, putting, inserted}
use Rattle.mu_proof.specs.Proofs.{root, is_root, is_label, block_items}
use Rattle.mu_proof.proofs.CountLemmas.{count_by-append, none_any, any_none, any_some, any_weaker}
use Rattle.mu_proof.proofs.DepthLemmas.{boxes_deep-insert}
use Rattle.mu_proof.proofs.EditLemmas.{still_put, still_all, put_here, put_below, one_below, box_below, no_box, box_weaker}
use Rattle.mu_proof.proofs.ItemEquations.{inner_of-line, is_line-block}
use Rattle.mu_proof.proofs.ItemInduction.{item_ind, item_cases}
use Rattle.mu_proof.proofs.WeightLemmas.{weight, weight-block, weights}

-- what has items in it is no line
boxed : (i : Item) → is_some (inner_of i) ≡ true → not (is_line i) ≡ true
boxed = item_cases (λ i. is_some (inner_of i) ≡ true → not (is_line i) ≡ true) (λ l t w some. absurd (false≢true (sym (ap is_some (inner_of-line l t w)) ∙ some))) (λ l vars trees items some. ap not (is_line-block l vars trees items))

module _ (items : List Item) (block : List ℕ) (before : Option (List ℕ)) (new : Item) where
  -- what goes into the whole proof goes among its items
  pub inserted_root : is_root block ≡ true → inserted items block before new ≡ with_item (map (edited_item (putting block before new)) items) before new
  inserted_root is = cond-true (pointwise nat_eq root block) _ _ (nat_list_eq_equiv.symm root block ∙ is)

  -- and what goes into a box changes what has the box in it
  pub inserted_box : is_root block ≡ false → inserted items block before new ≡ map (edited_item (putting block before new)) items
  inserted_box is = cond-false (pointwise nat_eq root block) _ _ (nat_list_eq_equiv.symm root block ∙ is)

  pub depth_root : is_root block ≡ true → boxes_deep (inserted items block before new) ≡ max (boxes_deep (map (edited_item (putting block before new)) items)) (boxes_in new)
  depth_root is = ap boxes_deep (inserted_root is) ∙ boxes_deep-insert (map (edited_item (putting block before new)) items) (place_of (map (edited_item (putting block before new)) items) before) new

  -- where no box has the name, the items stay
  pub inserted_still : is_root block ≡ true → count_by (has_label block) (all_items items) ≡ 0 → inserted items block before new ≡ with_item items before new
  inserted_still is none = inserted_root is ∙ ap (λ still. with_item still before new) (still_all (has_label block) (edited_item (putting block before new)) (still_put block before new) items none)

-- a block that is there and isn't the whole proof is a box of the name
pub box_there : (items : List Item) (block : List ℕ) → is_root block ≡ false → is_some (block_items items block) ≡ true → (is_label items block ≡ true) × (list_any (is_box_at block) (all_items items) ≡ true)
box_there items block box there = go (all_items items) (ap is_some (sym (cond-false (is_root block) (Some items) (option_and_then inner_of (find (has_label block) (all_items items))) box)) ∙ there)
  where
    own_box : (i : Item) → has_label block i ≡ true → is_some (inner_of i) ≡ true → is_box_at block i ≡ true
    own_box i has inner = ap (λ b. b && not (is_line i)) has ∙ boxed i inner

    go : (all : List Item) → is_some (option_and_then inner_of (find (has_label block) all)) ≡ true → (list_any (has_label block) all ≡ true) × (list_any (is_box_at block) all ≡ true)
    go [] some = absurd (false≢true some)
    go (i ∷ all) some = later (go all)
      where
        later : (is_some (option_and_then inner_of (find (has_label block) all)) ≡ true → (list_any (has_label block) all ≡ true) × (list_any (is_box_at block) all ≡ true))
            → (list_any (has_label block) (i ∷ all) ≡ true) × (list_any (is_box_at block) (i ∷ all) ≡ true)
        later rest = elim (cases_Bool (has_label block i)) [
          | inl has ↦
              let inner : is_some (inner_of i) ≡ true = ap (λ found. is_some (option_and_then inner_of found)) (sym (cond-true (has_label block i) (Some i) (find (has_label block) all) has)) ∙ some in
              (or_left (has_label block i) (list_any (has_label block) all) has, or_left (is_box_at block i) (list_any (is_box_at block) all) (own_box i has inner))
          | inr has_not ↦
              let found = rest (ap (λ found. is_some (option_and_then inner_of found)) (sym (cond-false (has_label block i) (Some i) (find (has_label block) all) has_not)) ∙ some) in
              (or_right (has_label block i) (list_any (has_label block) all) found.0, or_right (is_box_at block i) (list_any (is_box_at block) all) found.1)
        ]

or_first : (a b : Bool) → b ≡ false → (a || b) ≡ true → a ≡ true
or_first true b none some = refl
or_first false b none some = cc

or_second : (a b : Bool) → a ≡ false → (a || b) ≡ true → b ≡ true
or_second true b none some = cc
or_second false b none some = some

module _ (f : Item → ℕ) (same : (l : List ℕ) (vars : List TypedVar) (trees : List Tree) (items others : List Item) → f (item.Block l vars trees items) ≡ f (item.Block l vars trees others))
    (block : List ℕ) (before : Option (List ℕ)) (new : Item) where
  abbrev Grows : Item → Type 0
  Grows i = count_by (has_label block) (all_in i) ≡ 1 → list_any (is_box_at block) (all_in i) ≡ true → weight f (edited_item (putting block before new) i) ≡ weight f i + weight f new

  -- where one box among some items has the label, they weigh more by the new item
  weights_grow : (items : List Item) → AllByRecursion Grows items → count_by (has_label block) (all_items items) ≡ 1 → list_any (is_box_at block) (all_items items) ≡ true
      → sum_by (weight f) (map (edited_item (putting block before new)) items) ≡ sum_by (weight f) items + weight f new
  weights_grow [] all one there = absurd (omega arith)
  weights_grow (i ∷ items) all one there =
      let counts = count_by-append (has_label block) (all_in i) (all_items items) in
      let before_sum = sum_by-cons (weight f) i items in
      let after_sum = sum_by-cons (weight f) (edited_item (putting block before new) i) (map (edited_item (putting block before new)) items) in
      let boxes : (list_any (is_box_at block) (all_in i) || list_any (is_box_at block) (all_items items)) ≡ true = sym (list_any-append (is_box_at block) (all_in i) (all_items items)) ∙ there in
      elim (cases_Bool (list_any (has_label block) (all_in i))) [
        | inl has ↦
            let some = any_some (has_label block) (all_in i) has in
            let none : count_by (has_label block) (all_items items) ≡ 0 = omega arith in
            let stay = ap (sum_by (weight f)) (still_all (has_label block) (edited_item (putting block before new)) (still_put block before new) items none) in
            let grown = all.0 (omega arith) (or_first _ _ (any_weaker (is_box_at block) (has_label block) (box_weaker block) (all_items items) (none_any (has_label block) (all_items items) none)) boxes) in
            omega arith
        | inr has_not ↦
            let none : count_by (has_label block) (all_in i) ≡ 0 = any_none (has_label block) (all_in i) has_not in
            let stay = ap (weight f) (still_put block before new i none) in
            let grown = weights_grow items all.1 (omega arith) (or_second _ _ (any_weaker (is_box_at block) (has_label block) (box_weaker block) (all_in i) has_not) boxes) in
            omega arith
      ]

  -- where one box in an item has the label, it weighs more by the new item
  pub weight_grows : (i : Item) → Grows i
  weight_grows =
      item_ind Grows (λ l t w one there. absurd (false≢true (sym (no_box block l t w) ∙ there))) (λ l vars trees items all one there.
      let old = weight-block f l vars trees items in
      let old_items = weights f items in
      elim (cases_Bool (pointwise nat_eq l block)) [
        | inl here ↦
            let put = ap (weight f) (put_here block before new l vars trees items here one) in
            let parts = weight-block f l vars trees (with_item items before new) in
            let own = same l vars trees (with_item items before new) items in
            let inside = weights f (with_item items before new) in
            let more = sum_by-insert (weight f) items (place_of items before) new in
            omega arith
        | inr other ↦
            let put = ap (weight f) (put_below block before new l vars trees items other) in
            let parts = weight-block f l vars trees (map (edited_item (putting block before new)) items) in
            let own = same l vars trees (map (edited_item (putting block before new)) items) items in
            let inside = weights f (map (edited_item (putting block before new)) items) in
            let more = weights_grow items all (one_below block l vars trees items other one) (box_below block l vars trees items other there) in
            omega arith
      ])

  all_grow : (items : List Item) → AllByRecursion Grows items
  all_grow [] = tt
  all_grow (i ∷ items) = (weight_grows i, all_grow items)

  -- a proof weighs more by the new item, where the block is there
  pub inserted_weighs : (items : List Item) → is_label items root ≡ false → ((label : List ℕ) → is_label items label ≡ true → count_by (has_label label) (all_items items) ≡ 1) → is_some (block_items items block) ≡ true
      → sum_by f (all_items (inserted items block before new)) ≡ sum_by f (all_items items) + sum_by f (all_in new)
  inserted_weighs items unrooted once there =
      let old = weights f items in
      elim (cases_Bool (is_root block)) [
        | inl whole ↦
            let none : count_by (has_label block) (all_items items) ≡ 0 = any_none (has_label block) (all_items items) (ap (is_label items) ((bytes_decides block root).0 whole) ∙ unrooted) in
            let put = ap (λ after. sum_by f (all_items after)) (inserted_still items block before new whole none) in
            let inside = weights f (with_item items before new) in
            let more = sum_by-insert (weight f) items (place_of items before) new in
            omega arith
        | inr box ↦
            let is_there = box_there items block box there in
            let put = ap (λ after. sum_by f (all_items after)) (inserted_box items block before new box) in
            let inside = weights f (map (edited_item (putting block before new)) items) in
            let more = weights_grow items (all_grow items) (once block is_there.0) is_there.1 in
            omega arith
      ]
