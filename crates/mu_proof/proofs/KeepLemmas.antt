-- Edits that bring no label and no depth leave a proof a proof.
use Rattle.std.proofs.Common.{arith, ◌≡◌, refl, sym, ◌∙◌, ap, ◌+◌, ◌≤◌, List, [], ◌∷◌, ℕ, Bool, map, sum_by, inl, inr}
use Rattle.std.specs.Prelude.{Option, not}
use Rattle.std.specs.List.{AllByRecursion, filter}
use Rattle.std.proofs.lemmas.Bool.{cases_Bool, cond-true, cond-false}
use Rattle.std.proofs.lemmas.List.Sums.{sum_by-cons}
use Rattle.mu_tree.specs.declared.trees.Tree.{Tree}
use Rattle.mu_tree.specs.declared.claim.TypedVar.{TypedVar}
use Rattle.mu_tree.specs.declared.why.Why.{Why}
use Rattle.mu_proof.specs.declared.alteration.Alteration.{Alteration}
use Rattle.mu_proof.specs.declared.alteration.Alteration.TheVariants as alteration
use Rattle.mu_proof.specs.declared.items.Item.{Item}
use Rattle.mu_proof.specs.declared.items.Item.TheVariants as item
use Rattle.mu_proof.specs.declared.items.Item.TheOpen.{Item-F, Line, Block}
use Rattle.mu_proof.specs.declared.items.Item.TheViews.{out-Item, roll-Item, roll-out-Item}
use Rattle.mu_proof.specs.Items.{label_of, has_label, boxes_in, boxes_deep}
use Rattle.mu_proof.specs.Edits.{edited_item, edited, dropping, removed, altered_step, altered_item, altering, altered}
use Rattle.mu_proof.specs.Proofs.{IsProof, root}
use Rattle.mu_proof.proofs.DepthLemmas.{boxes_deep-cons}
use Rattle.mu_proof.proofs.ItemEquations.{label_of-line, label_of-block, boxes_in-line, boxes_in-block, edited_item-line, edited_item-block}
use Rattle.mu_proof.proofs.ItemInduction.{item_ind}
use Rattle.mu_proof.proofs.ProofLemmas.{label_weight, kept_proof}
use Rattle.mu_proof.proofs.WeightLemmas.{weight, weight-line, weight-block, weights}

-- how often labels that are weighed stand in an item
abbrev item_weight : (List ℕ → ℕ) → Item → ℕ
item_weight g = weight (λ i. g (label_of i))

module _ (change : List ℕ → List Item → List Item) where
  module _ (g : List ℕ → ℕ) (lighter : (name : List ℕ) (inner : List Item) → label_weight g (change name inner) ≤ label_weight g inner) where
    all_lighter : (items : List Item) → AllByRecursion (λ i. item_weight g (edited_item change i) ≤ item_weight g i) items → sum_by (item_weight g) (map (edited_item change) items) ≤ sum_by (item_weight g) items
    all_lighter [] all = omega arith
    all_lighter (i ∷ items) all =
        let before = sum_by-cons (item_weight g) i items in
        let after = sum_by-cons (item_weight g) (edited_item change i) (map (edited_item change) items) in
        let first = all.0 in
        let rest = all_lighter items all.1 in
        omega arith

    -- an edit that is no heavier in each block leaves no item heavier
    item_lighter : (i : Item) → item_weight g (edited_item change i) ≤ item_weight g i
    item_lighter =
        item_ind (λ i. item_weight g (edited_item change i) ≤ item_weight g i) (λ l t w. let same = ap (item_weight g) (edited_item-line l t w change) in omega arith) (λ l vars trees items all.
        let edited_box = ap (item_weight g) (edited_item-block l vars trees items change) in
        let after = weight-block (λ i. g (label_of i)) l vars trees (change l (map (edited_item change) items)) in
        let before = weight-block (λ i. g (label_of i)) l vars trees items in
        let own_after = ap g (label_of-block l vars trees (change l (map (edited_item change) items))) in
        let own_before = ap g (label_of-block l vars trees items) in
        let changed = lighter l (map (edited_item change) items) in
        let inner = weights (λ i. g (label_of i)) (map (edited_item change) items) in
        let inner_before = weights (λ i. g (label_of i)) items in
        let below = all_lighter items all in
        omega arith)

    each_lighter : (items : List Item) → AllByRecursion (λ i. item_weight g (edited_item change i) ≤ item_weight g i) items
    each_lighter [] = tt
    each_lighter (i ∷ items) = (item_lighter i, each_lighter items)

    -- nor a proof
    pub edited_lighter : (items : List Item) → label_weight g (edited change items) ≤ label_weight g items
    edited_lighter items =
        let changed = lighter root (map (edited_item change) items) in
        let inner = weights (λ i. g (label_of i)) (map (edited_item change) items) in
        let before = weights (λ i. g (label_of i)) items in
        let below = all_lighter items (each_lighter items) in
        omega arith

  module _ (shallower : (name : List ℕ) (inner : List Item) → boxes_deep (change name inner) ≤ boxes_deep inner) where
    all_shallower : (items : List Item) → AllByRecursion (λ i. boxes_in (edited_item change i) ≤ boxes_in i) items → boxes_deep (map (edited_item change) items) ≤ boxes_deep items
    all_shallower [] all = omega arith
    all_shallower (i ∷ items) all =
        let before = boxes_deep-cons i items in
        let after = boxes_deep-cons (edited_item change i) (map (edited_item change) items) in
        let first = all.0 in
        let rest = all_shallower items all.1 in
        omega arith

    item_shallower : (i : Item) → boxes_in (edited_item change i) ≤ boxes_in i
    item_shallower =
        item_ind (λ i. boxes_in (edited_item change i) ≤ boxes_in i) (λ l t w. let same = ap boxes_in (edited_item-line l t w change) in omega arith) (λ l vars trees items all.
        let edited_box = ap boxes_in (edited_item-block l vars trees items change) in
        let after = boxes_in-block l vars trees (change l (map (edited_item change) items)) in
        let before = boxes_in-block l vars trees items in
        let changed = shallower l (map (edited_item change) items) in
        let below = all_shallower items all in
        omega arith)

    each_shallower : (items : List Item) → AllByRecursion (λ i. boxes_in (edited_item change i) ≤ boxes_in i) items
    each_shallower [] = tt
    each_shallower (i ∷ items) = (item_shallower i, each_shallower items)

    pub edited_shallower : (items : List Item) → boxes_deep (edited change items) ≤ boxes_deep items
    edited_shallower items = let changed = shallower root (map (edited_item change) items) in let below = all_shallower items (each_shallower items) in omega arith

  -- so it leaves a proof a proof
  pub edited_kept : ((g : List ℕ → ℕ) (name : List ℕ) (inner : List Item) → label_weight g (change name inner) ≤ label_weight g inner)
      → ((name : List ℕ) (inner : List Item) → boxes_deep (change name inner) ≤ boxes_deep inner) → (items : List Item) → IsProof items → IsProof (edited change items)
  edited_kept lighter shallower items is = kept_proof items (edited change items) (λ g. edited_lighter g (lighter g) items) (edited_shallower shallower items) is

-- ---- an item is taken out
module _ (g : List ℕ → ℕ) (keeps : Item → Bool) where
  filter_lighter : (items : List Item) → sum_by (item_weight g) (filter keeps items) ≤ sum_by (item_weight g) items
  filter_lighter [] = omega arith
  filter_lighter (i ∷ items) =
      let rest = filter_lighter items in
      let before = sum_by-cons (item_weight g) i items in
      elim (cases_Bool (keeps i)) [
        | inl kept ↦
            let same = ap (sum_by (item_weight g)) (cond-true (keeps i) (i ∷ filter keeps items) (filter keeps items) kept) in
            let more = sum_by-cons (item_weight g) i (filter keeps items) in
            omega arith
        | inr dropped ↦ let same = ap (sum_by (item_weight g)) (cond-false (keeps i) (i ∷ filter keeps items) (filter keeps items) dropped) in omega arith
      ]

filter_shallower : (keeps : Item → Bool) (items : List Item) → boxes_deep (filter keeps items) ≤ boxes_deep items
filter_shallower keeps [] = omega arith
filter_shallower keeps (i ∷ items) =
    let rest = filter_shallower keeps items in
    let before = boxes_deep-cons i items in
    elim (cases_Bool (keeps i)) [
      | inl kept ↦
          let same = ap boxes_deep (cond-true (keeps i) (i ∷ filter keeps items) (filter keeps items) kept) in
          let more = boxes_deep-cons i (filter keeps items) in
          omega arith
      | inr dropped ↦ let same = ap boxes_deep (cond-false (keeps i) (i ∷ filter keeps items) (filter keeps items) dropped) in omega arith
    ]

-- a proof without one of its items is a proof
pub removed_proof : (items : List Item) → IsProof items → (label : List ℕ) → IsProof (removed items label)
removed_proof items is label = edited_kept (dropping label)
    (λ g name inner. let all = weights (λ i. g (label_of i)) inner in let kept = weights (λ i. g (label_of i)) (filter (λ each. not (has_label label each)) inner) in
    let fewer = filter_lighter g (λ each. not (has_label label each)) inner in omega arith)
    (λ name inner. filter_shallower (λ each. not (has_label label each)) inner) items is

-- ---- an item is altered
module _ (g : List ℕ → ℕ) where
  line_weight : (l : List ℕ) (t : Tree) (w : Option Why) → item_weight g (item.Line l t w) ≡ g l
  line_weight l t w = weight-line (λ i. g (label_of i)) l t w ∙ ap g (label_of-line l t w)

  box_weight : (l : List ℕ) (vars : List TypedVar) (trees : List Tree) (items : List Item) → item_weight g (item.Block l vars trees items) ≡ g l + label_weight g items
  box_weight l vars trees items = weight-block (λ i. g (label_of i)) l vars trees items ∙ ap (λ n. n + label_weight g items) (ap g (label_of-block l vars trees items))

  -- an alteration leaves an item its label and what is in it
  step_weight : (a : Alteration) (y : Item-F Item) → item_weight g (altered_step a y) ≡ item_weight g (roll-Item y)
  step_weight (alteration.Why why) (Line l t w) = line_weight l t why ∙ sym (line_weight l t w) ∙ ap (item_weight g) (sym (item.rolls-Line l t w))
  step_weight (alteration.Why why) (Block l vars trees items) = refl
  step_weight (alteration.Tree tree) (Line l t w) = line_weight l tree w ∙ sym (line_weight l t w) ∙ ap (item_weight g) (sym (item.rolls-Line l t w))
  step_weight (alteration.Tree tree) (Block l vars trees items) = refl
  step_weight (alteration.Head others were) (Line l t w) = refl
  step_weight (alteration.Head others were) (Block l vars trees items) = box_weight l others were items ∙ sym (box_weight l vars trees items) ∙ ap (item_weight g) (sym (item.rolls-Block l vars trees items))

step_depth : (a : Alteration) (y : Item-F Item) → boxes_in (altered_step a y) ≡ boxes_in (roll-Item y)
step_depth (alteration.Why why) (Line l t w) = boxes_in-line l t why ∙ sym (boxes_in-line l t w) ∙ ap boxes_in (sym (item.rolls-Line l t w))
step_depth (alteration.Why why) (Block l vars trees items) = refl
step_depth (alteration.Tree tree) (Line l t w) = boxes_in-line l tree w ∙ sym (boxes_in-line l t w) ∙ ap boxes_in (sym (item.rolls-Line l t w))
step_depth (alteration.Tree tree) (Block l vars trees items) = refl
step_depth (alteration.Head others were) (Line l t w) = refl
step_depth (alteration.Head others were) (Block l vars trees items) = boxes_in-block l others were items ∙ sym (boxes_in-block l vars trees items) ∙ ap boxes_in (sym (item.rolls-Block l vars trees items))

module _ (label : List ℕ) (a : Alteration) where
  altered_weight : (g : List ℕ → ℕ) (i : Item) → item_weight g (altered_item label a i) ≡ item_weight g i
  altered_weight g i = elim (cases_Bool (has_label label i)) [
    | inl has ↦ ap (item_weight g) (cond-true (has_label label i) (altered_step a (out-Item i)) i has) ∙ step_weight g a (out-Item i) ∙ ap (item_weight g) (roll-out-Item i)
    | inr has_not ↦ ap (item_weight g) (cond-false (has_label label i) (altered_step a (out-Item i)) i has_not)
  ]

  altered_depth : (i : Item) → boxes_in (altered_item label a i) ≡ boxes_in i
  altered_depth i = elim (cases_Bool (has_label label i)) [
    | inl has ↦ ap boxes_in (cond-true (has_label label i) (altered_step a (out-Item i)) i has) ∙ step_depth a (out-Item i) ∙ ap boxes_in (roll-out-Item i)
    | inr has_not ↦ ap boxes_in (cond-false (has_label label i) (altered_step a (out-Item i)) i has_not)
  ]

  all_weights : (g : List ℕ → ℕ) (items : List Item) → sum_by (item_weight g) (map (altered_item label a) items) ≡ sum_by (item_weight g) items
  all_weights g [] = refl
  all_weights g (i ∷ items) =
      let before = sum_by-cons (item_weight g) i items in
      let after = sum_by-cons (item_weight g) (altered_item label a i) (map (altered_item label a) items) in
      let first = altered_weight g i in
      let rest = all_weights g items in
      omega arith

  all_depths : (items : List Item) → boxes_deep (map (altered_item label a) items) ≡ boxes_deep items
  all_depths [] = refl
  all_depths (i ∷ items) = boxes_deep-cons (altered_item label a i) (map (altered_item label a) items) ∙ rw (altered_depth i, all_depths items) (sym (boxes_deep-cons i items))

  -- a proof with one of its items altered is a proof
  pub altered_proof : (items : List Item) → IsProof items → IsProof (altered items label a)
  altered_proof items is = edited_kept (altering label a)
      (λ g name inner. let all = weights (λ i. g (label_of i)) inner in let after = weights (λ i. g (label_of i)) (map (altered_item label a) inner) in let same = all_weights g inner in omega arith)
      (λ name inner. let same = all_depths inner in omega arith) items is
