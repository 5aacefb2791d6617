-- Walks over the items of a proof, each before those in it.
use Rattle.std.proofs.Common.{map, ◌≡◌, refl, sym, ◌∙◌, ap, ◌+◌, ◌<◌, Bool, true, false, cond, List, [], ◌∷◌, ◌++◌, ℕ, Some, None, length, take, drop, get_or}
use Rattle.std.specs.Prelude.{Option, is_some, ◌||◌}
use Rattle.std.specs.Borrow.{Bor}
use Rattle.std.specs.Option.{option_or, option_copied}
use Rattle.std.specs.List.{find, flat_map, list_any}
use Rattle.std.proofs.lemmas.Bool.{cond-true, cond-false}
use Rattle.std.proofs.lemmas.List.{map-append, take-append-drop, take_more, drop_more}
use Rattle.std.proofs.lemmas.List.Concat.{flat_map-append}
use Rattle.std.proofs.lemmas.List.Folds.{find-append}
use Rattle.mu_tree.specs.declared.trees.Tree.{Tree}
use Rattle.mu_tree.specs.declared.claim.TypedVar.{TypedVar}
use Rattle.mu_tree.specs.declared.why.Why.{Why}
use Rattle.mu_proof.specs.declared.items.Item.{Item}
use Rattle.mu_proof.specs.declared.items.Item.TheVariants as item
use Rattle.mu_proof.specs.Items.{label_of, has_label, all_in, all_items, labels_in}
use Rattle.mu_proof.proofs.ItemEquations.{label_of-line, label_of-block, all_in-line, all_in-block}
use Rattle.mu_proof.proofs.ItemInduction.{item_cases}

-- one of two that is there
pub none_or : {X : Type 0} (a b : Option X) → a ≡ None → option_or a b ≡ b
none_or None b e = refl
none_or (Some x) b e = cc

pub some_or : {X : Type 0} (a b : Option X) → is_some a ≡ true → option_or a b ≡ a
some_or None b e = cc
some_or (Some x) b e = refl

-- what is none
pub not_some : {X : Type 0} (a : Option X) → is_some a ≡ false → a ≡ None
not_some None e = refl
not_some (Some x) e = cc

module _ {X Y : Type 0} (f : X → List Y) (p : Y → Bool) (xs : List X) (i : ℕ) (x : X) (within : i < length xs) (at : x ≡ get_or xs i x) (before : find p (flat_map f (take i xs)) ≡ None) where
  -- where nothing is found in the pieces before, what is found in a piece is found in all
  pub found_here : is_some (find p (f x)) ≡ true → find p (f x) ≡ find p (flat_map f xs)
  found_here here =
      let split : take i xs ++ x ∷ drop (i + 1) xs ≡ xs = ap (λ y. take i xs ++ y ∷ drop (i + 1) xs) at ∙ ap (λ rest. take i xs ++ rest) (sym (drop_more xs i x within)) ∙ take-append-drop i xs in
      sym (ap (λ ys. find p (flat_map f ys)) (sym split)
      ∙ ap (find p) (flat_map-append f (take i xs) (x ∷ drop (i + 1) xs))
      ∙ find-append p (flat_map f (take i xs)) (f x ++ flat_map f (drop (i + 1) xs))
      ∙ none_or _ _ before
      ∙ find-append p (f x) (flat_map f (drop (i + 1) xs))
      ∙ some_or _ _ here)

  -- and where nothing is found in it, nothing is found up to it
  pub none_here : find p (f x) ≡ None → find p (flat_map f (take (i + 1) xs)) ≡ None
  none_here here =
      ap (λ ys. find p (flat_map f ys)) (take_more xs i x within ∙ ap (λ y. take i xs ++ y ∷ []) (sym at))
      ∙ ap (find p) (flat_map-append f (take i xs) (x ∷ []))
      ∙ find-append p (flat_map f (take i xs)) (f x ++ [])
      ∙ none_or _ _ before
      ∙ find-append p (f x) []
      ∙ none_or _ _ here

-- an item comes before those in it
pub all_in-first : (i : Item) → (rest : List Item) × (all_in i ≡ i ∷ rest)
all_in-first = item_cases (λ i. (rest : List Item) × (all_in i ≡ i ∷ rest)) (λ l t w. ([], all_in-line l t w)) (λ l vars trees items. (all_items items, all_in-block l vars trees items))

-- so it is found first, where it has the label
pub found_first : (label : List ℕ) (i : Item) → has_label label i ≡ true → Some i ≡ find (has_label label) (all_in i)
found_first label i has = sym (ap (find (has_label label)) (all_in-first i).1 ∙ cond-true (has_label label i) (Some i) (find (has_label label) (all_in-first i).0) has)

-- a reference is there where what it refers to is
pub copied_some : {X : Type 0} (r : Option (Bor X)) → is_some (option_copied r) ≡ is_some r
copied_some None = refl
copied_some (Some x) = refl

-- something is found exactly where something passes
pub find_any : {X : Type 0} (p : X → Bool) (xs : List X) → is_some (find p xs) ≡ list_any p xs
find_any p [] = refl
find_any p (x ∷ xs) = go (find_any p xs) (p x)
  where
    go : is_some (find p xs) ≡ list_any p xs → (b : Bool) → is_some (cond b (Some x) (find p xs)) ≡ (b || list_any p xs)
    go rest true = refl
    go rest false = rest

map-flat_map : {X Y Z : Type 0} (h : Y → Z) (f : X → List Y) (xs : List X) → map h (flat_map f xs) ≡ flat_map (λ x. map h (f x)) xs
map-flat_map h f [] = refl
map-flat_map h f (x ∷ xs) = map-append h (f x) (flat_map f xs) ∙ ap (λ rest. map h (f x) ++ rest) (map-flat_map h f xs)

-- the labels of a line and of a box, from left to right
pub labels_in-line : (l : List ℕ) (t : Tree) (w : Option Why) → labels_in (item.Line l t w) ≡ l ∷ []
labels_in-line l t w = ap (map label_of) (all_in-line l t w) ∙ ap (λ label. label ∷ []) (label_of-line l t w)

pub labels_in-block : (l : List ℕ) (vars : List TypedVar) (trees : List Tree) (items : List Item) → labels_in (item.Block l vars trees items) ≡ l ∷ flat_map labels_in items
labels_in-block l vars trees items =
    ap (map label_of) (all_in-block l vars trees items)
    ∙ ap (λ label. label ∷ map label_of (all_items items)) (label_of-block l vars trees items)
    ∙ ap (λ labels. l ∷ labels) (map-flat_map label_of all_in items)

-- an item's own label comes first
pub label_first : (p : List ℕ → Bool) (i : Item) → p (label_of i) ≡ true → Some (label_of i) ≡ find p (labels_in i)
label_first p i passes = sym (ap (λ all. find p (map label_of all)) (all_in-first i).1 ∙ cond-true (p (label_of i)) (Some (label_of i)) (find p (map label_of (all_in-first i).0)) passes)

-- and then those in it, where its own doesn't pass
pub label_in_line : (p : List ℕ → Bool) (l : List ℕ) (t : Tree) (w : Option Why) → p (label_of (item.Line l t w)) ≡ false → None ≡ find p (labels_in (item.Line l t w))
label_in_line p l t w fails = sym (ap (find p) (labels_in-line l t w) ∙ cond-false (p l) (Some l) None (ap p (sym (label_of-line l t w)) ∙ fails))

pub label_in_block : (p : List ℕ → Bool) (l : List ℕ) (vars : List TypedVar) (trees : List Tree) (items : List Item) → p (label_of (item.Block l vars trees items)) ≡ false
    → find p (flat_map labels_in items) ≡ find p (labels_in (item.Block l vars trees items))
label_in_block p l vars trees items fails =
    sym (ap (find p) (labels_in-block l vars trees items) ∙ cond-false (p l) (Some l) (find p (flat_map labels_in items)) (ap p (sym (label_of-block l vars trees items)) ∙ fails))
