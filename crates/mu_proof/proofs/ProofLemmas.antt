-- The items of a proof after an edit are those of a proof.
use Rattle.std.proofs.Common.{arith, ◌≡◌, refl, sym, ◌∙◌, ap, ◌+◌, ◌≤◌, cond, List, [], ◌∷◌, ℕ, Bool, true, false, length, map, Some, None, sum_by, count_by, inl, inr}
use Rattle.std.specs.Prelude.{Option, ◌&&◌, ◌||◌, is_some}
use Rattle.std.specs.Bool.{nat_eq}
use Rattle.std.specs.Option.{option_or, option_map}
use Rattle.std.specs.List.{AllByRecursion, list_any, find, IsDistinct}
use Rattle.std.specs.Cmp.Lexicographic.{pointwise, nat_list_eq_equiv, bytes_decides}
use Rattle.std.proofs.lemmas.Bool.{false≢true, cases_Bool, cond-true, cond-false, or_parts, ltb-false, leb-true}
use Rattle.std.proofs.lemmas.Map.Keys.{IsDistinct-head, IsDistinct-tail}
use Rattle.mu_proof.specs.declared.fault.ProofFault.{ProofFault}
use Rattle.mu_proof.specs.declared.fault.ProofFault.TheVariants as fault
use Rattle.mu_proof.specs.declared.items.Item.{Item}
use Rattle.mu_proof.specs.Items.{label_of, has_label, all_in, all_items, labels_in, boxes_deep}
use Rattle.mu_proof.specs.Edits.{inserted}
use Rattle.mu_proof.specs.Proofs.{IsProof, root, is_root, is_label, block_items, is_taken, unless, boxes_fault, items_fault, room_fault, place_fault, insert_fault}
use Rattle.mu_proof.proofs.CountLemmas.{count_by-cons, none_any, any_none, any_some, any_weaker}
use Rattle.mu_proof.proofs.WalkLemmas.{find_any}
use Rattle.mu_proof.proofs.InsertLemmas.{inserted_weighs}
use Rattle.mu_proof.proofs.ItemEquations.{label_of-block}
use Rattle.mu_proof.proofs.WeightLemmas.{length-sum_by}

-- ---- distinct labels are counted once
-- none of some items has a label that is apart from theirs
apart : (label : List ℕ) (xs : List Item) → AllByRecursion (λ other. pointwise nat_eq label other ≡ false) (map label_of xs) → count_by (has_label label) xs ≡ 0
apart label [] all = refl
apart label (i ∷ xs) all =
    let more = count_by-cons (has_label label) i xs in
    let first = ap (λ (b : Bool). cond {A = ℕ} b 1 0) (nat_list_eq_equiv.symm (label_of i) label ∙ all.0) in
    let rest = apart label xs all.1 in
    omega arith

counted_apart : (label : List ℕ) (xs : List Item) → count_by (has_label label) xs ≡ 0 → AllByRecursion (λ other. pointwise nat_eq label other ≡ false) (map label_of xs)
counted_apart label [] none = tt
counted_apart label (i ∷ xs) none =
    let parts = or_parts (has_label label i) (list_any (has_label label) xs) (none_any (has_label label) (i ∷ xs) none) in
    (nat_list_eq_equiv.symm label (label_of i) ∙ parts.0, counted_apart label xs (any_none (has_label label) xs parts.1))

-- distinct labels are each counted at most once
pub distinct_counts : (xs : List Item) → IsDistinct (pointwise nat_eq) (map label_of xs) → (label : List ℕ) → count_by (has_label label) xs ≤ 1
distinct_counts [] distinct label = omega arith
distinct_counts (i ∷ xs) distinct label =
    let more = count_by-cons (has_label label) i xs in
    let rest = distinct_counts xs (IsDistinct-tail (pointwise nat_eq) (label_of i) (map label_of xs) distinct) label in
    elim (cases_Bool (has_label label i)) [
      | inl has ↦
          let first = ap (λ (b : Bool). cond {A = ℕ} b 1 0) has in
          let none : count_by (has_label label) xs ≡ 0 = ap (λ l. count_by (has_label l) xs) (sym ((bytes_decides (label_of i) label).0 has)) ∙ apart (label_of i) xs (IsDistinct-head (pointwise nat_eq) (label_of i) (map label_of xs) distinct) in
          omega arith
      | inr has_not ↦ let first = ap (λ (b : Bool). cond {A = ℕ} b 1 0) has_not in omega arith
    ]

-- and labels that are each counted at most once are distinct
pub counts_distinct : (xs : List Item) → ((label : List ℕ) → count_by (has_label label) xs ≤ 1) → IsDistinct (pointwise nat_eq) (map label_of xs)
unfolding IsDistinct
counts_distinct [] few = tt
counts_distinct (i ∷ xs) few =
    let own : has_label (label_of i) i ≡ true = (bytes_decides (label_of i) (label_of i)).1 refl in
    let first = ap (λ (b : Bool). cond {A = ℕ} b 1 0) own in
    let more = count_by-cons (has_label (label_of i)) i xs in
    let all = few (label_of i) in
    (counted_apart (label_of i) xs (omega arith), counts_distinct xs (λ label. let more = count_by-cons (has_label label) i xs in let all = few label in omega arith))

-- what a proof has, it has once
pub has_once : (items : List Item) → IsProof items → (label : List ℕ) → is_label items label ≡ true → count_by (has_label label) (all_items items) ≡ 1
has_once items is label has = let few = distinct_counts (all_items items) is.distinct label in let some = any_some (has_label label) (all_items items) has in omega arith

-- ---- an edit that brings no label and no depth
-- how often labels that are weighed stand among some items
abbrev pub label_weight : (List ℕ → ℕ) → List Item → ℕ
label_weight g items = sum_by (λ i. g (label_of i)) (all_items items)

length_weight : (items : List Item) → length (all_items items) ≡ label_weight (λ _. 1) items
length_weight items = length-sum_by (all_items items)

pub kept_proof : (items after : List Item) → ((g : List ℕ → ℕ) → label_weight g after ≤ label_weight g items) → boxes_deep after ≤ boxes_deep items → IsProof items → IsProof after
kept_proof items after lighter shallower is = record {
  distinct = counts_distinct (all_items after) (λ label. let few = distinct_counts (all_items items) is.distinct label in let less = lighter (λ l. cond (pointwise nat_eq l label) 1 0) in omega arith);
  unrooted = let none = any_none (has_label root) (all_items items) is.unrooted in let less = lighter (λ l. cond (pointwise nat_eq l root) 1 0) in none_any (has_label root) (all_items after) (omega arith);
  shallow = let deep = is.shallow in omega arith;
  few = let few = is.few in let less = lighter (λ _. 1) in let n = length_weight items in let m = length_weight after in omega arith;
}

-- ---- an edit that puts an item in
module _ (items : List Item) (is : IsProof items) (block : List ℕ) (before : Option (List ℕ)) (new : Item) (there : is_some (block_items items block) ≡ true) where
  -- each label stands as often as it did and as it does in the new item
  pub inserted_labels : (label : List ℕ) → count_by (has_label label) (all_items (inserted items block before new)) ≡ count_by (has_label label) (all_items items) + count_by (has_label label) (all_in new)
  inserted_labels label =
      inserted_weighs (λ i. cond (has_label label i) 1 0)
      (λ l vars trees one other. ap (λ (name : List ℕ). cond {A = ℕ} (pointwise nat_eq name label) 1 0) (label_of-block l vars trees one ∙ sym (label_of-block l vars trees other)))
      block before new items is.unrooted (has_once items is) there

  -- there are as many items as there were and as the new one is
  pub inserted_count : length (all_items (inserted items block before new)) ≡ length (all_items items) + length (all_in new)
  inserted_count =
      let grown = inserted_weighs (λ _. 1) (λ l vars trees one other. refl) block before new items is.unrooted (has_once items is) there in
      let n = length-sum_by (all_items items) in
      let m = length-sum_by (all_in new) in
      let k = length-sum_by (all_items (inserted items block before new)) in
      omega arith

-- a label that isn't told is free
free : (taken : List ℕ → Bool) (xs : List Item) → find taken (map label_of xs) ≡ None → (label : List ℕ) → list_any (has_label label) xs ≡ true → taken label ≡ false
free taken [] none label some = absurd (false≢true some)
free taken (i ∷ xs) none label some = later (free taken xs)
  where
    no_find : find taken (map label_of (i ∷ xs)) ≡ None → (taken (label_of i) ≡ false) × (find taken (map label_of xs) ≡ None)
    no_find e = elim (cases_Bool (taken (label_of i))) [
      | inl yes_taken ↦ absurd (some_none (sym (cond-true (taken (label_of i)) (Some (label_of i)) (find taken (map label_of xs)) yes_taken) ∙ e))
      | inr fails ↦ (fails, sym (cond-false (taken (label_of i)) (Some (label_of i)) (find taken (map label_of xs)) fails) ∙ e)
    ]
      where
        some_none : Some (label_of i) ≡ None → ⊥
        some_none e = cc

    later : (find taken (map label_of xs) ≡ None → (other : List ℕ) → list_any (has_label other) xs ≡ true → taken other ≡ false) → taken label ≡ false
    later rest = elim (cases_Bool (has_label label i)) [
      | inl has ↦ ap taken (sym ((bytes_decides (label_of i) label).0 has)) ∙ (no_find none).0
      | inr has_not ↦ rest (no_find none).1 label (ap (λ b. b || list_any (has_label label) xs) (sym has_not) ∙ some)
    ]

-- where none is told
no_map : {X Y : Type 0} (f : X → Y) (o : Option X) → option_map f o ≡ None → o ≡ None
no_map f None e = refl
no_map f (Some x) e = absurd (cc)

none_left : {X : Type 0} (a b : Option X) → option_or a b ≡ None → a ≡ None
none_left None b e = refl
none_left (Some x) b e = absurd (cc)

none_right : {X : Type 0} (a b : Option X) → option_or a b ≡ None → b ≡ None
none_right None b e = e
none_right (Some x) b e = absurd (cc)

pub passes : (b : Bool) (blame : ProofFault) → unless b blame ≡ None → b ≡ true
passes true blame e = refl
passes false blame e = absurd (cc)

-- where there is room, boxes are not too deep and items not too many
pub has_room : (after : List Item) → room_fault after ≡ None → (boxes_deep after ≤ 32) × (length (all_items after) ≤ 4096)
has_room after none = (leb-true _ _ (passes _ _ (none_left (boxes_fault after) (items_fault after) none)), leb-true _ _ (passes _ _ (none_right (boxes_fault after) (items_fault after) none)))

-- where an item may go into a block, the block is there
pub block_passes : (items : List Item) (block : List ℕ) (before : Option (List ℕ)) (new : Item) → place_fault items block before new ≡ None → is_some (block_items items block) ≡ true
block_passes items block before new none = passes _ _ (none_left _ _ none)

-- a label of an item that may go into a block
module _ (items : List Item) (is : IsProof items) (block : List ℕ) (before : Option (List ℕ)) (new : Item) (place : place_fault items block before new ≡ None) where
  untaken : (label : List ℕ) → list_any (has_label label) (all_in new) ≡ true → is_taken items new label ≡ false
  untaken = free (is_taken items new) (all_in new) (no_map fault.Taken (find (is_taken items new) (labels_in new)) (none_right _ _ (none_right _ _ place)))

  -- stands once, here or there
  at_most_once : (label : List ℕ) → count_by (has_label label) (all_items items) + count_by (has_label label) (all_in new) ≤ 1
  at_most_once label =
      let few = distinct_counts (all_items items) is.distinct label in
      elim (cases_Bool (list_any (has_label label) (all_in new))) [
        | inl some ↦
            let free_label = or_parts _ _ (untaken label some) in
            let elsewhere = or_parts _ _ free_label.0 in
            let none = any_none (has_label label) (all_items items) elsewhere.0 in
            let once = ltb-false 1 (count_by (has_label label) (all_in new)) free_label.1 in
            omega arith
        | inr none_new ↦ let none = any_none (has_label label) (all_in new) none_new in omega arith
      ]

  -- and isn't `root`
  new_unrooted : count_by (has_label root) (all_in new) ≡ 0
  new_unrooted = elim (cases_Bool (list_any (has_label root) (all_in new))) [
    | inl some ↦
        let free_label = or_parts _ _ (untaken root some) in
        let elsewhere = or_parts _ _ free_label.0 in
        absurd (false≢true (sym elsewhere.1 ∙ (bytes_decides root root).1 refl))
    | inr none_new ↦ any_none (has_label root) (all_in new) none_new
  ]

  -- so with it, a proof is a proof
  inserted_proof : room_fault (inserted items block before new) ≡ None → IsProof (inserted items block before new)
  inserted_proof room =
      let after = inserted items block before new in
      let there = block_passes items block before new place in
      let fits = has_room after room in
      record {
        distinct = counts_distinct (all_items after) (λ label. let labels = inserted_labels items is block before new there label in let once = at_most_once label in omega arith);
        unrooted =
            let labels = inserted_labels items is block before new there root in
            let none = any_none (has_label root) (all_items items) is.unrooted in
            let no_new = new_unrooted in
            none_any (has_label root) (all_items after) (omega arith);
        shallow = fits.0;
        few = fits.1;
      }

-- ---- the item of a label
-- what the item of a label is
module _ (q : Item → Bool) (label : List ℕ) where
  pub found_kind : (xs : List Item) (i : Item) → count_by (has_label label) xs ≤ 1 → Some i ≡ find (has_label label) xs → q i ≡ list_any (λ each. has_label label each && q each) xs
  found_kind [] i once found = absurd (cc)
  found_kind (x ∷ xs) i once found =
      let more = count_by-cons (has_label label) x xs in
      elim (cases_Bool (has_label label x)) [
        | inl has ↦
            let first = ap (λ (b : Bool). cond {A = ℕ} b 1 0) has in
            let none : list_any (λ each. has_label label each && q each) xs ≡ false =
            any_weaker (λ each. has_label label each && q each) (has_label label) (λ each fails. ap (λ b. b && q each) fails) xs (none_any (has_label label) xs (omega arith)) in
            let same : i ≡ x = some_same (found ∙ cond-true (has_label label x) (Some x) (find (has_label label) xs) has) in
            ap q same ∙ sym (ap (λ b. b && q x || list_any (λ each. has_label label each && q each) xs) has ∙ or_none (q x) (list_any (λ each. has_label label each && q each) xs) none)
        | inr has_not ↦
            let rest = found_kind xs i (omega arith) (found ∙ cond-false (has_label label x) (Some x) (find (has_label label) xs) has_not) in
            rest ∙ sym (ap (λ b. b && q x || list_any (λ each. has_label label each && q each) xs) has_not)
      ]
    where
      some_same : {A : Type 0} {a b : A} → Some a ≡ Some b → a ≡ b
      some_same e = cc

      or_none : (a b : Bool) → b ≡ false → (a || b) ≡ a
      or_none true b none = refl
      or_none false b none = none

  -- and nothing where there is none
  pub unfound_kind : (xs : List Item) → None ≡ find (has_label label) xs → false ≡ list_any (λ each. has_label label each && q each) xs
  unfound_kind xs none = sym (any_weaker (λ each. has_label label each && q each) (has_label label) (λ each fails. ap (λ b. b && q each) fails) xs (sym (find_any (has_label label) xs) ∙ ap is_some (sym none)))

  -- what has an item of a label and a kind has one of the label
  pub has_kind : (xs : List Item) → list_any (λ each. has_label label each && q each) xs ≡ true → list_any (has_label label) xs ≡ true
  has_kind xs some = elim (cases_Bool (list_any (has_label label) xs)) [
    | inl has ↦ has
    | inr has_not ↦ absurd (false≢true (sym (any_weaker (λ each. has_label label each && q each) (has_label label) (λ each fails. ap (λ b. b && q each) fails) xs has_not) ∙ some))
  ]

-- no items make a proof
pub no_items : IsProof []
unfolding IsDistinct
no_items = record { distinct = tt; unrooted = refl; shallow = omega arith; few = omega arith }

-- none of its items is called as the whole proof is
pub no_root : (items : List Item) → IsProof items → (block : List ℕ) → is_root block ≡ true → count_by (has_label block) (all_items items) ≡ 0
no_root items is block whole = any_none (has_label block) (all_items items) (ap (is_label items) ((bytes_decides block root).0 whole) ∙ is.unrooted)

-- with an item that has no fault, a proof is a proof
pub faultless : (items : List Item) (block : List ℕ) (before : Option (List ℕ)) (new : Item) → IsProof items → insert_fault items block before new ≡ None → IsProof (inserted items block before new)
faultless items block before new is none = inserted_proof items is block before new (none_left _ _ none) (none_right _ _ none)
