-- The parts of a proof after an edit of it: those that it had, and what the edit brings.
use Rattle.std.proofs.Common.{◌≡◌, ◌⊎◌, inl, inr, refl, sym, ap, subst, ◌∙◌, cond, ℕ, Bool, true, false, List, [], ◌∷◌, ◌++◌, map, take, drop, find, Some, None}
use Rattle.std.specs.Prelude.{Option, not}
use Rattle.std.specs.Bool.{nat_eq}
use Rattle.std.specs.List.{AllByRecursion, flat_map, insert}
use Rattle.std.specs.Cmp.Lexicographic.{pointwise}
use Rattle.std.proofs.lemmas.List.{take-append-drop}
use Rattle.std.proofs.lemmas.List.Concat.{flat_map-append}
use Rattle.mu_tree.specs.declared.claim.TypedVar.{TypedVar}
use Rattle.mu_tree.specs.declared.trees.Tree.{Tree}
use Rattle.mu_tree.specs.declared.why.Why.{Why}
use Rattle.mu_graph.specs.Derivations.{Stands}
use Rattle.mu_graph.proofs.DerivationLemmas.{stands_front, stands_back, stands_either, stands_one}
use Rattle.mu_proof.specs.Edits.{edited_item, edited, with_item, place_of, putting, inserted, dropping, removed, altered_step, altered_item, altering, altered}
use Rattle.mu_proof.specs.Items.{has_label, all_in, all_items}
use Rattle.mu_proof.specs.Names.{root}
use Rattle.mu_proof.specs.declared.alteration.Alteration.{Alteration}
use Rattle.mu_proof.specs.declared.alteration.Alteration.TheVariants as alteration
use Rattle.mu_proof.specs.declared.items.Item.{Item}
use Rattle.mu_proof.specs.declared.items.Item.TheFolds.{fold-roll-Item}
use Rattle.mu_proof.specs.declared.items.Item.TheOpen.{Item-F, Line, Block}
use Rattle.mu_proof.specs.declared.items.Item.TheVariants as item
use Rattle.mu_proof.specs.declared.items.Item.TheViews.{out-Item, roll-Item, roll-out-Item}
use Rattle.mu_proof.proofs.ItemEquations.{all_in-line, all_in-block, edited_item-line, edited_item-block}
use Rattle.mu_proof.proofs.ItemInduction.{item_ind}
use Rattle.mu_flat.specs.ProofEdits.{item_at, made, moving}
use Rattle.mu_flat.specs.declared.proof_edits.ProofEdit.{ProofEdit}
use Rattle.mu_flat.specs.declared.proof_edits.ProofEdit.TheVariants.{Insert, SetTree, SetHead, Move, ClearReason, Remove}
use Rattle.mu_machine.specs.Parts.{Part, Label, Expression, Reason, Head, item_parts, part_step, parts, reason_parts}

pub parts-line : (l : List ℕ) (t : Tree) (w : Option Why) → item_parts (item.Line l t w) ≡ Label l ∷ (Expression t ∷ reason_parts w)
unfolding item_parts
parts-line l t w = ap item_parts (sym (item.rolls-Line l t w)) ∙ fold-roll-Item (List Part) part_step (Line l t w)

joined : (items : List Item) → flat_map (λ each. each) (map item_parts items) ≡ parts items
joined [] = refl
joined (i ∷ items) = ap (λ rest. item_parts i ++ rest) (joined items)

pub parts-block : (l : List ℕ) (vars : List TypedVar) (trees : List Tree) (items : List Item) → item_parts (item.Block l vars trees items) ≡ Label l ∷ (Head vars trees ∷ parts items)
unfolding item_parts
parts-block l vars trees items =
    ap item_parts (sym (item.rolls-Block l vars trees items)) ∙ fold-roll-Item (List Part) part_step (Block l vars trees items) ∙ ap (λ rest. Label l ∷ (Head vars trees ∷ rest)) (joined items)

module _ (l : List ℕ) (vars : List TypedVar) (trees : List Tree) (items : List Item) (to : Part) where
  -- a part of a box is at its top or in its items
  of_box : Stands to (item_parts (item.Block l vars trees items)) → Stands to (Label l ∷ (Head vars trees ∷ [])) ⊎ Stands to (parts items)
  of_box s = stands_either to (Label l ∷ (Head vars trees ∷ [])) (parts items) (subst (Stands to) (parts-block l vars trees items) s)

  at_top : Stands to (Label l ∷ (Head vars trees ∷ [])) → Stands to (item_parts (item.Block l vars trees items))
  at_top s = subst (Stands to) (sym (parts-block l vars trees items)) (stands_front to (Label l ∷ (Head vars trees ∷ [])) (parts items) s)

  in_box : Stands to (parts items) → Stands to (item_parts (item.Block l vars trees items))
  in_box s = subst (Stands to) (sym (parts-block l vars trees items)) (stands_back to (Label l ∷ (Head vars trees ∷ [])) (parts items) s)

at_line : (l : List ℕ) (t : Tree) (w : Option Why) (to : Part) → Stands to (Label l ∷ (Expression t ∷ reason_parts w)) → Stands to (item_parts (roll-Item (Line l t w)))
at_line l t w to s = subst (Stands to) (sym (ap item_parts (item.rolls-Line l t w) ∙ parts-line l t w)) s

-- ---- any edit
module _ (change : List ℕ → List Item → List Item) (extra : List Part) (more : (name : List ℕ) (inner : List Item) (to : Part) → Stands to (parts (change name inner)) → Stands to extra ⊎ Stands to (parts inner)) where
  abbrev PartsMore : Item → Type 0
  PartsMore i = (to : Part) → Stands to (item_parts (edited_item change i)) → Stands to extra ⊎ Stands to (item_parts i)

  each_parts : (items : List Item) → AllByRecursion PartsMore items → (to : Part) → Stands to (parts (map (edited_item change) items)) → Stands to extra ⊎ Stands to (parts items)
  each_parts [] all to s = absurd s
  each_parts (i ∷ items) all to s = elim (stands_either to (item_parts (edited_item change i)) (parts (map (edited_item change) items)) s) [
    | inl t ↦ elim (all.0 to t) [ inl u ↦ inl u | inr u ↦ inr (stands_front to (item_parts i) (parts items) u) ]
    | inr t ↦ elim (each_parts items all.1 to t) [ inl u ↦ inl u | inr u ↦ inr (stands_back to (item_parts i) (parts items) u) ]
  ]

  edited_item_parts : (i : Item) → PartsMore i
  edited_item_parts =
      item_ind PartsMore (λ l t w to s. inr (subst (λ i. Stands to (item_parts i)) (edited_item-line l t w change) s)) (λ l vars trees items all to s.
      let inner : List Item = map (edited_item change) items in
      elim (of_box l vars trees (change l inner) to (subst (λ i. Stands to (item_parts i)) (edited_item-block l vars trees items change) s)) [
        | inl top ↦ inr (at_top l vars trees items to top)
        | inr below ↦ elim (more l inner to below) [ inl t ↦ inl t | inr t ↦ elim (each_parts items all to t) [ inl u ↦ inl u | inr u ↦ inr (in_box l vars trees items to u) ] ]
      ])

  all_parts : (items : List Item) → AllByRecursion PartsMore items
  all_parts [] = tt
  all_parts (i ∷ items) = (edited_item_parts i, all_parts items)

  -- where a change of any block brings in only what is extra, the edit does
  pub edited_parts : (items : List Item) (to : Part) → Stands to (parts (edited change items)) → Stands to extra ⊎ Stands to (parts items)
  edited_parts items to s = elim (more root (map (edited_item change) items) to s) [ inl t ↦ inl t | inr t ↦ each_parts items (all_parts items) to t ]

-- ---- one more item
insert_parts : (items : List Item) (at : ℕ) (new : Item) (to : Part) → Stands to (parts (insert items at new)) → Stands to (item_parts new) ⊎ Stands to (parts items)
insert_parts items at new to s =
    let front : List Part = parts (take at items) in
    let back : List Part = parts (drop at items) in
    let both : front ++ back ≡ parts items = sym (flat_map-append item_parts (take at items) (drop at items)) ∙ ap parts (take-append-drop at items) in
    elim (stands_either to front (item_parts new ++ back) (subst (Stands to) (flat_map-append item_parts (take at items) (new ∷ drop at items)) s)) [
      | inl t ↦ inr (subst (Stands to) both (stands_front to front back t))
      | inr t ↦ elim (stands_either to (item_parts new) back t) [ inl u ↦ inl u | inr u ↦ inr (subst (Stands to) both (stands_back to front back u)) ]
    ]

module _ (block : List ℕ) (before : Option (List ℕ)) (new : Item) where
  put_parts : (name : List ℕ) (inner : List Item) (to : Part) → Stands to (parts (putting block before new name inner)) → Stands to (item_parts new) ⊎ Stands to (parts inner)
  put_parts name inner to s = elim (pointwise nat_eq name block) as (λ b. Stands to (parts (cond b (with_item inner before new) inner)) → Stands to (item_parts new) ⊎ Stands to (parts inner)) [
    | true ↦ λ t. insert_parts inner (place_of inner before) new to t
    | false ↦ λ t. inr t
  ] s

  -- with one more item, a proof has the parts of the item and those that it had before
  pub inserted_parts : (items : List Item) (to : Part) → Stands to (parts (inserted items block before new)) → Stands to (item_parts new) ⊎ Stands to (parts items)
  inserted_parts = edited_parts (putting block before new) (item_parts new) put_parts

-- ---- an altered item
-- where an alteration of the top of an item brings in only what is extra, the edit does
module _ (label : List ℕ) (change : Alteration) (extra : List Part) (top : (y : Item-F Item) (to : Part) → Stands to (item_parts (altered_step change y)) → Stands to extra ⊎ Stands to (item_parts (roll-Item y))) where
  changed_parts : (i : Item) (to : Part) → Stands to (item_parts (altered_item label change i)) → Stands to extra ⊎ Stands to (item_parts i)
  changed_parts i to s = elim (has_label label i) as (λ b. Stands to (item_parts (cond b (altered_step change (out-Item i)) i)) → Stands to extra ⊎ Stands to (item_parts i)) [
    | true ↦ λ t. elim (top (out-Item i) to t) [ inl u ↦ inl u | inr u ↦ inr (subst (λ j. Stands to (item_parts j)) (roll-out-Item i) u) ]
    | false ↦ λ t. inr t
  ] s

  alter_parts : (name : List ℕ) (inner : List Item) (to : Part) → Stands to (parts (altering label change name inner)) → Stands to extra ⊎ Stands to (parts inner)
  alter_parts name [] to s = absurd s
  alter_parts name (i ∷ inner) to s = elim (stands_either to (item_parts (altered_item label change i)) (parts (map (altered_item label change) inner)) s) [
    | inl t ↦ elim (changed_parts i to t) [ inl u ↦ inl u | inr u ↦ inr (stands_front to (item_parts i) (parts inner) u) ]
    | inr t ↦ elim (alter_parts name inner to t) [ inl u ↦ inl u | inr u ↦ inr (stands_back to (item_parts i) (parts inner) u) ]
  ]

  pub altered_parts : (items : List Item) (to : Part) → Stands to (parts (altered items label change)) → Stands to extra ⊎ Stands to (parts items)
  altered_parts = edited_parts (altering label change) extra alter_parts

-- another expression brings in this expression
tree_top : (tree : Tree) (y : Item-F Item) (to : Part) → Stands to (item_parts (altered_step (alteration.Tree tree) y)) → Stands to (Expression tree ∷ []) ⊎ Stands to (item_parts (roll-Item y))
tree_top tree (Line l before why) to s = elim (subst (Stands to) (parts-line l tree why) s) [
  | inl e ↦ inr (at_line l before why to (inl e))
  | inr t ↦ elim t [ inl e ↦ inl (inl e) | inr r ↦ inr (at_line l before why to (inr (inr r))) ]
]
tree_top tree (Block l vars trees items) to s = inr s

-- other variables and assumptions bring in these
head_top : (vars : List TypedVar) (assumptions : List Tree) (y : Item-F Item) (to : Part) → Stands to (item_parts (altered_step (alteration.Head vars assumptions) y)) → Stands to (Head vars assumptions ∷ []) ⊎ Stands to (item_parts (roll-Item y))
head_top vars assumptions (Line l before why) to s = inr s
head_top vars assumptions (Block l before were items) to s = elim (subst (Stands to) (parts-block l vars assumptions items) s) [
  | inl e ↦ inr (rolled (inl e))
  | inr t ↦ elim t [ inl e ↦ inl (inl e) | inr below ↦ inr (rolled (inr (inr below))) ]
]
  where
    rolled : Stands to (Label l ∷ (Head before were ∷ parts items)) → Stands to (item_parts (roll-Item (Block l before were items)))
    rolled t = subst (Stands to) (sym (ap item_parts (item.rolls-Block l before were items) ∙ parts-block l before were items)) t

-- another reason brings in this reason
reason_top : (why : Option Why) (y : Item-F Item) (to : Part) → Stands to (item_parts (altered_step (alteration.Why why) y)) → Stands to (reason_parts why) ⊎ Stands to (item_parts (roll-Item y))
reason_top why (Line l t before) to s = elim (subst (Stands to) (parts-line l t why) s) [
  | inl e ↦ inr (at_line l t before to (inl e))
  | inr u ↦ elim u [ inl e ↦ inr (at_line l t before to (inr (inl e))) | inr r ↦ inl r ]
]
reason_top why (Block l vars trees items) to s = inr s

-- ---- an item less
module _ (label : List ℕ) where
  drop_parts : (name : List ℕ) (inner : List Item) (to : Part) → Stands to (parts (dropping label name inner)) → Stands to [] ⊎ Stands to (parts inner)
  drop_parts name [] to s = absurd s
  drop_parts name (i ∷ inner) to s = elim (not (has_label label i)) as (λ b. Stands to (parts (cond b (i ∷ dropping label name inner) (dropping label name inner))) → Stands to [] ⊎ Stands to (parts (i ∷ inner))) [
    | true ↦ λ t. elim (stands_either to (item_parts i) (parts (dropping label name inner)) t) [
      | inl u ↦ inr (stands_front to (item_parts i) (parts inner) u)
      | inr u ↦ elim (drop_parts name inner to u) [ inl v ↦ inl v | inr v ↦ inr (stands_back to (item_parts i) (parts inner) v) ]
    ]
    | false ↦ λ t. elim (drop_parts name inner to t) [ inl v ↦ inl v | inr v ↦ inr (stands_back to (item_parts i) (parts inner) v) ]
  ] s

  -- without an item, a proof has no other parts
  pub removed_parts : (items : List Item) (to : Part) → Stands to (parts (removed items label)) → Stands to (parts items)
  removed_parts items to s = elim (edited_parts (dropping label) [] drop_parts items to s) [ inl t ↦ absurd t | inr t ↦ t ]

-- ---- an item in another place
-- an item in an item has no other parts
abbrev PartsWithin : Item → Type 0
PartsWithin i = (j : Item) → Stands j (all_in i) → (to : Part) → Stands to (item_parts j) → Stands to (item_parts i)

each_within : (items : List Item) → AllByRecursion PartsWithin items → (j : Item) → Stands j (all_items items) → (to : Part) → Stands to (item_parts j) → Stands to (parts items)
each_within [] all j stands to s = absurd stands
each_within (i ∷ items) all j stands to s = elim (stands_either j (all_in i) (all_items items) stands) [
  | inl here ↦ stands_front to (item_parts i) (parts items) (all.0 j here to s)
  | inr later ↦ stands_back to (item_parts i) (parts items) (each_within items all.1 j later to s)
]

parts_within : (i : Item) → PartsWithin i
parts_within = item_ind PartsWithin
    (λ l t w j stands to s. subst (λ (k : Item). Stands to (item_parts k)) (sym (stands_one j (item.Line l t w) (subst (Stands j) (all_in-line l t w) stands))) s)
    (λ l vars trees items all j stands to s. elim (subst (Stands j) (all_in-block l vars trees items) stands) [
      | inl same ↦ subst (λ (k : Item). Stands to (item_parts k)) (sym same) s
      | inr below ↦ in_box l vars trees items to (each_within items all j below to s)
    ])

all_within : (items : List Item) → AllByRecursion PartsWithin items
all_within [] = tt
all_within (i ∷ items) = (parts_within i, all_within items)

found_stands : (test : Item → Bool) (items : List Item) (found : Item) → find test items ≡ Some found → Stands found items
found_stands test [] found is = let no : None ≡ Some found = is in absurd (cc)
found_stands test (i ∷ items) found is = go (test i) (found_stands test items found) is
  where
    go : (b : Bool) → (find test items ≡ Some found → Stands found items) → cond b (Some i) (find test items) ≡ Some found → Stands found (i ∷ items)
    go true rest e = inl (cc)
    go false rest e = inr (rest e)

module _ (items : List Item) (label block : List ℕ) (before : Option (List ℕ)) where
  moved_parts : (found : Option Item) → item_at items label ≡ found → (to : Part) → Stands to (parts (moving items label block before found)) → Stands to (parts items)
  moved_parts None is to s = s
  moved_parts (Some i) is to s = elim (inserted_parts block before i (removed items label) to s) [
    | inl t ↦ each_within items (all_within items) i (found_stands (has_label label) (all_items items) i is) to t
    | inr t ↦ removed_parts label items to t
  ]

-- ---- any edit of a stored proof
-- what an edit brings into a proof
abbrev pub brought : ProofEdit → List Part
brought (Insert block before new) = item_parts new
brought (SetTree label tree) = Expression tree ∷ []
brought (SetHead label vars assumptions) = Head vars assumptions ∷ []
brought _ = []

pub made_parts : (edit : ProofEdit) (items : List Item) (to : Part) → Stands to (parts (made edit items)) → Stands to (brought edit) ⊎ Stands to (parts items)
made_parts (Insert block before new) items to s = inserted_parts block before new items to s
made_parts (SetTree label tree) items to s = altered_parts label (alteration.Tree tree) (Expression tree ∷ []) (tree_top tree) items to s
made_parts (SetHead label vars assumptions) items to s = altered_parts label (alteration.Head vars assumptions) (Head vars assumptions ∷ []) (head_top vars assumptions) items to s
made_parts (Move label block before) items to s = inr (moved_parts items label block before (item_at items label) refl to s)
made_parts (ClearReason label) items to s = altered_parts label (alteration.Why None) [] (reason_top None) items to s
made_parts (Remove label) items to s = inr (removed_parts label items to s)

-- with another reason of a line, a proof has that and the parts that it had before
pub reasoned_parts : (label : List ℕ) (why : Why) (items : List Item) (to : Part) → Stands to (parts (altered items label (alteration.Why (Some why)))) → Stands to (Reason why ∷ []) ⊎ Stands to (parts items)
reasoned_parts label why = altered_parts label (alteration.Why (Some why)) (Reason why ∷ []) (reason_top (Some why))
