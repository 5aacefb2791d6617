-- An edit changes one item of a proof, what is around it and nothing else.
use Rattle.std.proofs.Common.{arith, ◌≡◌, refl, sym, ◌∙◌, ap, ◌+◌, suc, cond, List, [], ◌∷◌, ◌++◌, ℕ, Bool, true, false, map, set, take, drop, Some, count_by}
use Rattle.std.specs.Prelude.{Option, not, ◌&&◌, ◌||◌}
use Rattle.std.specs.Bool.{nat_eq}
use Rattle.std.specs.List.{AllByRecursion, list_any, find, filter, remove, slice_get}
use Rattle.std.specs.Cmp.Lexicographic.{pointwise}
use Rattle.std.proofs.lemmas.List.Elements.{filter-append}
use Rattle.std.proofs.lemmas.Bool.{or_parts, or_from, cond-true, cond-false}
use Rattle.std.proofs.lemmas.List.{map-append}
use Rattle.std.proofs.lemmas.List.Concat.{flat_map-append}
use Rattle.std.proofs.lemmas.List.Folds.{list_any-append, find-append}
use Rattle.mu_tree.specs.declared.trees.Tree.{Tree}
use Rattle.mu_tree.specs.declared.claim.TypedVar.{TypedVar}
use Rattle.mu_tree.specs.declared.why.Why.{Why}
use Rattle.mu_proof.specs.declared.alteration.Alteration.{Alteration}
use Rattle.mu_proof.specs.declared.items.Item.{Item}
use Rattle.mu_proof.specs.declared.items.Item.TheVariants as item
use Rattle.mu_proof.specs.declared.items.Item.TheViews.{out-Item}
use Rattle.mu_proof.specs.Items.{label_of, has_label, is_line, is_box_at, all_in, all_items}
use Rattle.mu_proof.specs.Edits.{edited_item, with_item, putting, dropping, removed, altered_step, altered_item, altering, altered}
use Rattle.mu_proof.proofs.CountLemmas.{count_by-cons, count_by-append, none_any, any_some, split_at, set_at, any_weaker}
use Rattle.mu_proof.proofs.ItemEquations.{label_of-block, is_line-line, all_in-line, all_in-block, edited_item-line, edited_item-block}
use Rattle.mu_proof.proofs.ItemInduction.{item_ind, item_cases}
use Rattle.mu_proof.proofs.WalkLemmas.{all_in-first, find_any, not_some, none_or, some_or}

-- an item among those that are not counted doesn't pass itself
pub own_fails : (q : Item → Bool) (i : Item) → count_by q (all_in i) ≡ 0 → q i ≡ false
own_fails q i none = (or_parts (q i) (list_any q (all_in-first i).0) (ap (list_any q) (sym (all_in-first i).1) ∙ none_any q (all_in i) none)).0

-- and one that passes is among itself and those in it
pub own_any : (q : Item → Bool) (i : Item) → q i ≡ true → list_any q (all_in i) ≡ true
own_any q i passes = ap (list_any q) (all_in-first i).1 ∙ ap (λ b. b || list_any q (all_in-first i).0) passes

module _ (q : Item → Bool) (f : Item → Item) (still : (i : Item) → count_by q (all_in i) ≡ 0 → f i ≡ i) where
  -- where none of the items is meant, all stay
  pub still_all : (items : List Item) → count_by q (all_items items) ≡ 0 → map f items ≡ items
  still_all [] none = refl
  still_all (i ∷ items) none = let parts = count_by-append q (all_in i) (all_items items) in rw (still i (omega arith), still_all items (omega arith)) refl

  module _ (items : List Item) (at : ℕ) (old : Item) (is : slice_get items at ≡ Some old) (has : list_any q (all_in old) ≡ true) (one : count_by q (all_items items) ≡ 1) where
    -- where one is meant, and is in this item, none is in the others
    pub alone : (count_by q (all_items (take at items)) ≡ 0) × (count_by q (all_in old) ≡ 1) × (count_by q (all_items (drop (suc at) items)) ≡ 0)
    alone =
        let split = ap all_items (split_at items at old is) ∙ flat_map-append all_in (take at items) (old ∷ drop (suc at) items) in
        let counts : count_by q (all_items items) ≡ count_by q (all_items (take at items)) + (count_by q (all_in old) + count_by q (all_items (drop (suc at) items))) =
        ap (count_by q) split
        ∙ count_by-append q (all_items (take at items)) (all_in old ++ all_items (drop (suc at) items))
        ∙ ap (λ n. count_by q (all_items (take at items)) + n) (count_by-append q (all_in old) (all_items (drop (suc at) items))) in
        let some = any_some q (all_in old) has in
        (omega arith, omega arith, omega arith)

    -- so it is found there
    pub found_there : find q (all_items items) ≡ find q (all_in old)
    found_there =
        ap (find q) (ap all_items (split_at items at old is) ∙ flat_map-append all_in (take at items) (old ∷ drop (suc at) items))
        ∙ find-append q (all_items (take at items)) (all_in old ++ all_items (drop (suc at) items))
        ∙ none_or _ _ (not_some _ (find_any q (all_items (take at items)) ∙ none_any q (all_items (take at items)) alone.0))
        ∙ find-append q (all_in old) (all_items (drop (suc at) items))
        ∙ some_or _ _ (find_any q (all_in old) ∙ has)

    -- and it alone changes
    pub one_changed : set items at (f old) ≡ map f items
    one_changed =
        set_at items at old (f old) is
        ∙ ap (λ back. take at items ++ f old ∷ back) (sym (still_all (drop (suc at) items) alone.2))
        ∙ ap (λ front. front ++ f old ∷ map f (drop (suc at) items)) (sym (still_all (take at items) alone.0))
        ∙ sym (map-append f (take at items) (old ∷ drop (suc at) items))
        ∙ ap (map f) (sym (split_at items at old is))

    -- and what passes a stronger test is in it
    pub any_there : (p : Item → Bool) → ((i : Item) → q i ≡ false → p i ≡ false) → list_any p (all_items items) ≡ true → list_any p (all_in old) ≡ true
    any_there p weaker some =
        let split = ap all_items (split_at items at old is) ∙ flat_map-append all_in (take at items) (old ∷ drop (suc at) items) in
        let front = any_weaker p q weaker (all_items (take at items)) (none_any q _ alone.0) in
        let back = any_weaker p q weaker (all_items (drop (suc at) items)) (none_any q _ alone.2) in
        middle _ _ _ front back
        (sym (ap (list_any p) split
        ∙ list_any-append p (all_items (take at items)) (all_in old ++ all_items (drop (suc at) items))
        ∙ ap (λ b. list_any p (all_items (take at items)) || b) (list_any-append p (all_in old) (all_items (drop (suc at) items)))) ∙ some)
      where
        middle : (a b c : Bool) → a ≡ false → c ≡ false → (a || (b || c)) ≡ true → b ≡ true
        middle a true c x y z = refl
        middle true false c x y z = cc
        middle false false c x y z = cc

module _ (q : Item → Bool) (l : List ℕ) (vars : List TypedVar) (trees : List Tree) (items : List Item) where
  -- a box counts itself and what is in it
  pub count_by-block : count_by q (all_in (item.Block l vars trees items)) ≡ cond (q (item.Block l vars trees items)) 1 0 + count_by q (all_items items)
  count_by-block = ap (count_by q) (all_in-block l vars trees items) ∙ count_by-cons q (item.Block l vars trees items) (all_items items)

module _ (q : Item → Bool) (change : List ℕ → List Item → List Item)
    (quiet : (l : List ℕ) (vars : List TypedVar) (trees : List Tree) (items : List Item) → q (item.Block l vars trees items) ≡ false → count_by q (all_items items) ≡ 0 → change l items ≡ items) where
  -- an edit that is quiet in boxes in which nothing is meant changes nothing in an item in which nothing is meant
  pub still_edited : (i : Item) → count_by q (all_in i) ≡ 0 → edited_item change i ≡ i
  still_edited =
      item_ind (λ i. count_by q (all_in i) ≡ 0 → edited_item change i ≡ i) (λ l t w none. edited_item-line l t w change) (λ l vars trees items all none.
      let parts = count_by-block q l vars trees items in
      edited_item-block l vars trees items change
      ∙ ap (λ inner. item.Block l vars trees (change l inner)) (stay items all (omega arith))
      ∙ ap (item.Block l vars trees) (quiet l vars trees items (own_fails q (item.Block l vars trees items) none) (omega arith)))
    where
      stay : (items : List Item) → AllByRecursion (λ i. count_by q (all_in i) ≡ 0 → edited_item change i ≡ i) items → count_by q (all_items items) ≡ 0 → map (edited_item change) items ≡ items
      stay [] all none = refl
      stay (i ∷ items) all none = let parts = count_by-append q (all_in i) (all_items items) in rw (all.0 (omega arith), stay items all.1 (omega arith)) refl

-- ---- an item is put into a box
module _ (block : List ℕ) (before : Option (List ℕ)) (new : Item) where
  quiet_put : (l : List ℕ) (vars : List TypedVar) (trees : List Tree) (items : List Item) → has_label block (item.Block l vars trees items) ≡ false → count_by (has_label block) (all_items items) ≡ 0
      → putting block before new l items ≡ items
  quiet_put l vars trees items fails none = cond-false (pointwise nat_eq l block) (with_item items before new) items (ap (λ n. pointwise nat_eq n block) (sym (label_of-block l vars trees items)) ∙ fails)

  -- where no item has the label, nothing is put in
  pub still_put : (i : Item) → count_by (has_label block) (all_in i) ≡ 0 → edited_item (putting block before new) i ≡ i
  still_put = still_edited (has_label block) (putting block before new) quiet_put

  module _ (l : List ℕ) (vars : List TypedVar) (trees : List Tree) (items : List Item) where
    -- into the box of the label
    pub put_here : pointwise nat_eq l block ≡ true → count_by (has_label block) (all_in (item.Block l vars trees items)) ≡ 1
        → edited_item (putting block before new) (item.Block l vars trees items) ≡ item.Block l vars trees (with_item items before new)
    put_here is one =
        let own : has_label block (item.Block l vars trees items) ≡ true = ap (λ n. pointwise nat_eq n block) (label_of-block l vars trees items) ∙ is in
        let parts = count_by-block (has_label block) l vars trees items in
        let first = ap (λ (b : Bool). cond {A = ℕ} b 1 0) own in
        edited_item-block l vars trees items (putting block before new)
        ∙ ap (item.Block l vars trees) (cond-true (pointwise nat_eq l block) _ _ is ∙ ap (λ inner. with_item inner before new) (still_all (has_label block) (edited_item (putting block before new)) still_put items (omega arith)))

    -- or further in
    pub put_below : pointwise nat_eq l block ≡ false → edited_item (putting block before new) (item.Block l vars trees items) ≡ item.Block l vars trees (map (edited_item (putting block before new)) items)
    put_below is = edited_item-block l vars trees items (putting block before new) ∙ ap (item.Block l vars trees) (cond-false (pointwise nat_eq l block) _ _ is)

-- ---- an item is taken out
-- an edit leaves each label
pub label_of-edited : (change : List ℕ → List Item → List Item) (i : Item) → label_of (edited_item change i) ≡ label_of i
label_of-edited change =
    item_cases (λ i. label_of (edited_item change i) ≡ label_of i) (λ l t w. ap label_of (edited_item-line l t w change)) (λ l vars trees items.
    ap label_of (edited_item-block l vars trees items change) ∙ label_of-block l vars trees (change l (map (edited_item change) items)) ∙ sym (label_of-block l vars trees items))

module _ (label : List ℕ) where
  -- where none of the items has the label, all are kept
  kept_all : (items : List Item) → list_any (has_label label) items ≡ false → filter (λ each. not (has_label label each)) items ≡ items
  kept_all [] none = refl
  kept_all (i ∷ items) none = let parts = or_parts (has_label label i) (list_any (has_label label) items) none in rw (parts.0, kept_all items parts.1) refl

  -- where none of some items is counted, none of those at the top has the label
  none_direct : (items : List Item) → count_by (has_label label) (all_items items) ≡ 0 → list_any (has_label label) items ≡ false
  none_direct [] none = refl
  none_direct (i ∷ items) none = let parts = count_by-append (has_label label) (all_in i) (all_items items) in or_from (has_label label i) (list_any (has_label label) items) (own_fails (has_label label) i (omega arith)) (none_direct items (omega arith))

  -- edited items have the labels that they had
  any_edited : (items : List Item) → list_any (has_label label) (map (edited_item (dropping label)) items) ≡ list_any (has_label label) items
  any_edited [] = refl
  any_edited (i ∷ items) = rw (label_of-edited (dropping label) i, any_edited items) refl

  pub still_dropped : (i : Item) → count_by (has_label label) (all_in i) ≡ 0 → edited_item (dropping label) i ≡ i
  still_dropped = still_edited (has_label label) (dropping label) (λ l vars trees items fails none. kept_all items (none_direct items none))

  module _ (items : List Item) (at : ℕ) (old : Item) (is : slice_get items at ≡ Some old) (one : count_by (has_label label) (all_items items) ≡ 1) where
    -- where it stands directly among the items
    pub taken_here : has_label label old ≡ true → remove items at ≡ removed items label
    taken_here own =
        let apart = alone (has_label label) (edited_item (dropping label)) still_dropped items at old is (own_any (has_label label) old own) one in
        let front = take at items in
        let back = drop (suc at) items in
        sym (ap (λ all. filter (λ each. not (has_label label each)) (map (edited_item (dropping label)) all)) (split_at items at old is)
        ∙ ap (filter (λ each. not (has_label label each))) (map-append (edited_item (dropping label)) front (old ∷ back)
        ∙ ap (λ stay. stay ++ edited_item (dropping label) old ∷ map (edited_item (dropping label)) back) (still_all (has_label label) (edited_item (dropping label)) still_dropped front apart.0)
        ∙ ap (λ stay. front ++ edited_item (dropping label) old ∷ stay) (still_all (has_label label) (edited_item (dropping label)) still_dropped back apart.2))
        ∙ filter-append (λ each. not (has_label label each)) front (edited_item (dropping label) old ∷ back)
        ∙ ap (λ stay. stay ++ filter (λ each. not (has_label label each)) (edited_item (dropping label) old ∷ back)) (kept_all front (none_direct front apart.0))
        ∙ ap (λ b. front ++ cond (not b) (edited_item (dropping label) old ∷ filter (λ each. not (has_label label each)) back) (filter (λ each. not (has_label label each)) back)) (ap (λ l. pointwise nat_eq l label) (label_of-edited (dropping label) old) ∙ own)
        ∙ ap (λ stay. front ++ stay) (kept_all back (none_direct back apart.2)))

    -- and where it is further in
    pub taken_below : list_any (has_label label) items ≡ false → list_any (has_label label) (all_in old) ≡ true → set items at (edited_item (dropping label) old) ≡ removed items label
    taken_below none has =
        one_changed (has_label label) (edited_item (dropping label)) still_dropped items at old is has one
        ∙ sym (kept_all (map (edited_item (dropping label)) items) (any_edited items ∙ none))

-- ---- an item is altered
map-map : {X : Type 0} (f g : X → X) (xs : List X) → map f (map g xs) ≡ map (λ x. f (g x)) xs
map-map f g [] = refl
map-map f g (x ∷ xs) = ap (λ rest. f (g x) ∷ rest) (map-map f g xs)

module _ (label : List ℕ) (alteration : Alteration) where
  -- an item without the label stays
  pub unaltered : (i : Item) → has_label label i ≡ false → altered_item label alteration i ≡ i
  unaltered i fails = cond-false (has_label label i) _ i fails

  quiet_alter : (items : List Item) → count_by (has_label label) (all_items items) ≡ 0 → map (altered_item label alteration) items ≡ items
  quiet_alter [] none = refl
  quiet_alter (i ∷ items) none =
      let parts = count_by-append (has_label label) (all_in i) (all_items items) in
      rw (unaltered i (own_fails (has_label label) i (omega arith)), quiet_alter items (omega arith)) refl

  pub still_altered : (i : Item) → count_by (has_label label) (all_in i) ≡ 0 → edited_item (altering label alteration) i ≡ i
  still_altered = still_edited (has_label label) (altering label alteration) (λ l vars trees items fails none. quiet_alter items none)

  still_both : (i : Item) → count_by (has_label label) (all_in i) ≡ 0 → altered_item label alteration (edited_item (altering label alteration) i) ≡ i
  still_both i none = ap (altered_item label alteration) (still_altered i none) ∙ unaltered i (own_fails (has_label label) i none)

  -- the item that has the label or has it in it alone changes
  pub altered_there : (items : List Item) (at : ℕ) (old : Item) → slice_get items at ≡ Some old → list_any (has_label label) (all_in old) ≡ true → count_by (has_label label) (all_items items) ≡ 1
      → set items at (altered_item label alteration (edited_item (altering label alteration) old)) ≡ altered items label alteration
  altered_there items at old is has one =
      one_changed (has_label label) (λ i. altered_item label alteration (edited_item (altering label alteration) i)) still_both items at old is has one
      ∙ sym (map-map (altered_item label alteration) (edited_item (altering label alteration)) items)

  -- the item of the label itself
  pub altered_here : (i : Item) → has_label label i ≡ true → count_by (has_label label) (all_in i) ≡ 1 → altered_step alteration (out-Item i) ≡ altered_item label alteration (edited_item (altering label alteration) i)
  altered_here i own one =
      sym (ap (altered_item label alteration) (item_cases (λ i. has_label label i ≡ true → count_by (has_label label) (all_in i) ≡ 1 → edited_item (altering label alteration) i ≡ i)
      (λ l t w own one. edited_item-line l t w (altering label alteration))
      (λ l vars trees items own one.
      let parts = count_by-block (has_label label) l vars trees items in
      let first = ap (λ (b : Bool). cond {A = ℕ} b 1 0) own in
      edited_item-block l vars trees items (altering label alteration)
      ∙ ap (item.Block l vars trees) (ap (map (altered_item label alteration)) (still_all (has_label label) (edited_item (altering label alteration)) still_altered items (omega arith)) ∙ quiet_alter items (omega arith))) i own one)
      ∙ cond-true (has_label label i) (altered_step alteration (out-Item i)) i own)

  -- and a box that has it in it
  pub altered_below : (l : List ℕ) (vars : List TypedVar) (trees : List Tree) (items : List Item) → pointwise nat_eq l label ≡ false
      → item.Block l vars trees (altered items label alteration) ≡ altered_item label alteration (edited_item (altering label alteration) (item.Block l vars trees items))
  altered_below l vars trees items other =
      sym (ap (altered_item label alteration) (edited_item-block l vars trees items (altering label alteration))
      ∙ unaltered (item.Block l vars trees (altered items label alteration)) (ap (λ n. pointwise nat_eq n label) (label_of-block l vars trees (altered items label alteration)) ∙ other))

-- ---- a box that isn't meant itself
module _ (label : List ℕ) (l : List ℕ) (vars : List TypedVar) (trees : List Tree) (items : List Item) (is : pointwise nat_eq l label ≡ false) where
  own : has_label label (item.Block l vars trees items) ≡ false
  own = ap (λ n. pointwise nat_eq n label) (label_of-block l vars trees items) ∙ is

  -- has the one that is meant in it
  pub one_below : count_by (has_label label) (all_in (item.Block l vars trees items)) ≡ 1 → count_by (has_label label) (all_items items) ≡ 1
  one_below one = let parts = count_by-block (has_label label) l vars trees items in let first = ap (λ (b : Bool). cond {A = ℕ} b 1 0) own in omega arith

  pub box_below : list_any (is_box_at label) (all_in (item.Block l vars trees items)) ≡ true → list_any (is_box_at label) (all_items items) ≡ true
  box_below some = sym (ap (list_any (is_box_at label)) (all_in-block l vars trees items) ∙ ap (λ b. (b && not (is_line (item.Block l vars trees items))) || list_any (is_box_at label) (all_items items)) own) ∙ some

-- a box of a label has it
pub box_weaker : (label : List ℕ) (i : Item) → has_label label i ≡ false → is_box_at label i ≡ false
box_weaker label i fails = ap (λ b. b && not (is_line i)) fails

-- a line is no box
pub no_box : (label l : List ℕ) (t : Tree) (w : Option Why) → list_any (is_box_at label) (all_in (item.Line l t w)) ≡ false
no_box label l t w = ap (list_any (is_box_at label)) (all_in-line l t w) ∙ ap (λ b. (has_label label (item.Line l t w) && not b) || false) (is_line-line l t w) ∙ none (has_label label (item.Line l t w))
  where
    none : (b : Bool) → ((b && false) || false) ≡ false
    none true = refl
    none false = refl

-- an item that isn't meant itself, with the label of none of the items at the top
pub none_at : (label : List ℕ) (items : List Item) (at : ℕ) (old : Item) → slice_get items at ≡ Some old → list_any (has_label label) items ≡ false → has_label label old ≡ false
none_at label items at old is none =
    (or_parts _ _ (or_parts _ _ (sym (ap (list_any (has_label label)) (split_at items at old is) ∙ list_any-append (has_label label) (take at items) (old ∷ drop (suc at) items)) ∙ none)).1).0

-- no line has another item in it
pub line_alone : (label l : List ℕ) (t : Tree) (w : Option Why) → has_label label (item.Line l t w) ≡ false → count_by (has_label label) (all_in (item.Line l t w)) ≡ 0
line_alone label l t w fails = ap (count_by (has_label label)) (all_in-line l t w) ∙ ap (λ (b : Bool). 0 + cond {A = ℕ} b 1 0) fails

-- what a box finds that isn't meant itself
pub found_below : (label l : List ℕ) (vars : List TypedVar) (trees : List Tree) (items : List Item) → has_label label (item.Block l vars trees items) ≡ false
    → find (has_label label) (all_in (item.Block l vars trees items)) ≡ find (has_label label) (all_items items)
found_below label l vars trees items fails = ap (find (has_label label)) (all_in-block l vars trees items) ∙ cond-false (has_label label (item.Block l vars trees items)) _ _ fails
