-- What the items of a proof cite after an edit of them.
use Rattle.std.proofs.Common.{◌≡◌, ◌⊎◌, inl, inr, refl, sym, ap, subst, ◌∙◌, cond, ℕ, Bool, true, false, List, [], ◌∷◌, ◌++◌, map, take, drop, find, Some, None}
use Rattle.std.specs.Prelude.{Option, not}
use Rattle.std.specs.Bool.{nat_eq}
use Rattle.std.specs.List.{AllByRecursion, insert, list_any}
use Rattle.std.specs.Cmp.Lexicographic.{pointwise}
use Rattle.std.proofs.lemmas.Bool.{false≢true, and_parts, cond-true, or_cases}
use Rattle.std.proofs.lemmas.List.{take-append-drop}
use Rattle.std.proofs.lemmas.List.Concat.{flat_map-append}
use Rattle.std.proofs.lemmas.List.Folds.{list_any-append}
use Rattle.mu_tree.specs.declared.claim.TypedVar.{TypedVar}
use Rattle.mu_tree.specs.declared.trees.Tree.{Tree}
use Rattle.mu_tree.specs.declared.why.Why.{Why}
use Rattle.mu_graph.specs.Derivations.{Stands}
use Rattle.mu_graph.proofs.DerivationLemmas.{stands_front, stands_back, stands_either, stands_one}
use Rattle.mu_proof.specs.Citations.{item_cites, cites, cited_by}
use Rattle.mu_proof.specs.Edits.{edited_item, edited, with_item, place_of, putting, inserted, dropping, removed, altered_step, altered_item, altering, altered}
use Rattle.mu_proof.specs.Items.{has_label, is_line_at, all_in, all_items}
use Rattle.mu_proof.specs.Names.{root}
use Rattle.mu_proof.specs.Proofs.{is_line_label}
use Rattle.mu_proof.specs.declared.alteration.Alteration.{Alteration}
use Rattle.mu_proof.specs.declared.alteration.Alteration.TheVariants as alteration
use Rattle.mu_proof.specs.declared.citations.Cited.{Cited}
use Rattle.mu_proof.specs.declared.items.Item.{Item}
use Rattle.mu_proof.specs.declared.items.Item.TheOpen.{Item-F, Line, Block}
use Rattle.mu_proof.specs.declared.items.Item.TheVariants as item
use Rattle.mu_proof.specs.declared.items.Item.TheViews.{out-Item, roll-Item, out-roll-Item, roll-out-Item}
use Rattle.mu_proof.proofs.CitationEquations.{cites-line, cites-block}
use Rattle.mu_proof.proofs.ItemEquations.{is_line-block, all_in-line, all_in-block, edited_item-line, edited_item-block}
use Rattle.mu_proof.proofs.ItemInduction.{item_ind}
use Rattle.mu_flat.specs.ProofEdits.{IsOpen, PutsOpen, item_at, made, moving}
use Rattle.mu_flat.specs.declared.proof_edits.ProofEdit.{ProofEdit}
use Rattle.mu_flat.specs.declared.proof_edits.ProofEdit.TheVariants.{Insert, SetTree, SetHead, Move, ClearReason, Remove}

-- ---- any edit
module _ (change : List ℕ → List Item → List Item) (extra : List Cited) (more : (name : List ℕ) (inner : List Item) (to : Cited) → Stands to (cites (change name inner)) → Stands to extra ⊎ Stands to (cites inner)) where
  abbrev CitesMore : Item → Type 0
  CitesMore i = (to : Cited) → Stands to (item_cites (edited_item change i)) → Stands to extra ⊎ Stands to (item_cites i)

  each_cites : (items : List Item) → AllByRecursion CitesMore items → (to : Cited) → Stands to (cites (map (edited_item change) items)) → Stands to extra ⊎ Stands to (cites items)
  each_cites [] all to s = absurd s
  each_cites (i ∷ items) all to s = elim (stands_either to (item_cites (edited_item change i)) (cites (map (edited_item change) items)) s) [
    | inl t ↦ elim (all.0 to t) [ inl u ↦ inl u | inr u ↦ inr (stands_front to (item_cites i) (cites items) u) ]
    | inr t ↦ elim (each_cites items all.1 to t) [ inl u ↦ inl u | inr u ↦ inr (stands_back to (item_cites i) (cites items) u) ]
  ]

  edited_item_cites : (i : Item) → CitesMore i
  edited_item_cites =
      item_ind CitesMore (λ l t w to s. inr (subst (λ i. Stands to (item_cites i)) (edited_item-line l t w change) s)) (λ l vars trees items all to s.
      let inner : List Item = map (edited_item change) items in
      elim (more l inner to (subst (Stands to) (ap item_cites (edited_item-block l vars trees items change) ∙ cites-block l vars trees (change l inner)) s)) [
        | inl t ↦ inl t
        | inr t ↦ elim (each_cites items all to t) [ inl u ↦ inl u | inr u ↦ inr (subst (Stands to) (sym (cites-block l vars trees items)) u) ]
      ])

  all_cite : (items : List Item) → AllByRecursion CitesMore items
  all_cite [] = tt
  all_cite (i ∷ items) = (edited_item_cites i, all_cite items)

  -- where a change of any block brings in only what is extra, the edit does
  pub edited_cites : (items : List Item) (to : Cited) → Stands to (cites (edited change items)) → Stands to extra ⊎ Stands to (cites items)
  edited_cites items to s = elim (more root (map (edited_item change) items) to s) [ inl t ↦ inl t | inr t ↦ each_cites items (all_cite items) to t ]

-- ---- one more item
insert_cites : (items : List Item) (at : ℕ) (new : Item) (to : Cited) → Stands to (cites (insert items at new)) → Stands to (item_cites new) ⊎ Stands to (cites items)
insert_cites items at new to s =
    let front : List Cited = cites (take at items) in
    let back : List Cited = cites (drop at items) in
    let both : front ++ back ≡ cites items = sym (flat_map-append item_cites (take at items) (drop at items)) ∙ ap cites (take-append-drop at items) in
    elim (stands_either to front (item_cites new ++ back) (subst (Stands to) (flat_map-append item_cites (take at items) (new ∷ drop at items)) s)) [
      | inl t ↦ inr (subst (Stands to) both (stands_front to front back t))
      | inr t ↦ elim (stands_either to (item_cites new) back t) [ inl u ↦ inl u | inr u ↦ inr (subst (Stands to) both (stands_back to front back u)) ]
    ]

module _ (block : List ℕ) (before : Option (List ℕ)) (new : Item) where
  put_cites : (name : List ℕ) (inner : List Item) (to : Cited) → Stands to (cites (putting block before new name inner)) → Stands to (item_cites new) ⊎ Stands to (cites inner)
  put_cites name inner to s = elim (pointwise nat_eq name block) as (λ b. Stands to (cites (cond b (with_item inner before new) inner)) → Stands to (item_cites new) ⊎ Stands to (cites inner)) [
    | true ↦ λ t. insert_cites inner (place_of inner before) new to t
    | false ↦ λ t. inr t
  ] s

  -- with one more item, a proof cites what the item does and what it cited before
  pub inserted_cites : (items : List Item) (to : Cited) → Stands to (cites (inserted items block before new)) → Stands to (item_cites new) ⊎ Stands to (cites items)
  inserted_cites = edited_cites (putting block before new) (item_cites new) put_cites

-- an item that is open cites nothing
pub open_cites : (i : Item) → IsOpen i → (to : Cited) → Stands to (item_cites i) → ⊥
open_cites i (inl (l, t, is)) to s = subst (Stands to) (ap item_cites is ∙ cites-line l t None) s
open_cites i (inr (l, vars, trees, is)) to s = subst (Stands to) (ap item_cites is ∙ cites-block l vars trees []) s

-- ---- an altered item
-- where an alteration of the top of an item brings in only what is extra, the edit does
module _ (label : List ℕ) (change : Alteration) (extra : List Cited) (top : (y : Item-F Item) (to : Cited) → Stands to (item_cites (altered_step change y)) → Stands to extra ⊎ Stands to (item_cites (roll-Item y))) where
  changed_cites : (i : Item) (to : Cited) → Stands to (item_cites (altered_item label change i)) → Stands to extra ⊎ Stands to (item_cites i)
  changed_cites i to s = elim (has_label label i) as (λ b. Stands to (item_cites (cond b (altered_step change (out-Item i)) i)) → Stands to extra ⊎ Stands to (item_cites i)) [
    | true ↦ λ t. elim (top (out-Item i) to t) [ inl u ↦ inl u | inr u ↦ inr (subst (λ j. Stands to (item_cites j)) (roll-out-Item i) u) ]
    | false ↦ λ t. inr t
  ] s

  alter_cites : (name : List ℕ) (inner : List Item) (to : Cited) → Stands to (cites (altering label change name inner)) → Stands to extra ⊎ Stands to (cites inner)
  alter_cites name [] to s = absurd s
  alter_cites name (i ∷ inner) to s = elim (stands_either to (item_cites (altered_item label change i)) (cites (map (altered_item label change) inner)) s) [
    | inl t ↦ elim (changed_cites i to t) [ inl u ↦ inl u | inr u ↦ inr (stands_front to (item_cites i) (cites inner) u) ]
    | inr t ↦ elim (alter_cites name inner to t) [ inl u ↦ inl u | inr u ↦ inr (stands_back to (item_cites i) (cites inner) u) ]
  ]

  pub altered_cites : (items : List Item) (to : Cited) → Stands to (cites (altered items label change)) → Stands to extra ⊎ Stands to (cites items)
  altered_cites = edited_cites (altering label change) extra alter_cites

-- another expression brings nothing in
tree_top : (tree : Tree) (y : Item-F Item) (to : Cited) → Stands to (item_cites (altered_step (alteration.Tree tree) y)) → Stands to [] ⊎ Stands to (item_cites (roll-Item y))
tree_top tree (Line l before why) to s = inr (subst (Stands to) (cites-line l tree why ∙ sym (ap item_cites (item.rolls-Line l before why) ∙ cites-line l before why)) s)
tree_top tree (Block l vars trees items) to s = inr s

pub tree_cites : (label : List ℕ) (tree : Tree) (items : List Item) (to : Cited) → Stands to (cites (altered items label (alteration.Tree tree))) → Stands to (cites items)
tree_cites label tree items to s = elim (altered_cites label (alteration.Tree tree) [] (tree_top tree) items to s) [ inl t ↦ absurd t | inr t ↦ t ]

-- and neither do other variables and assumptions
head_top : (vars : List TypedVar) (assumptions : List Tree) (y : Item-F Item) (to : Cited) → Stands to (item_cites (altered_step (alteration.Head vars assumptions) y)) → Stands to [] ⊎ Stands to (item_cites (roll-Item y))
head_top vars assumptions (Line l before why) to s = inr s
head_top vars assumptions (Block l before were items) to s =
    inr (subst (Stands to) (cites-block l vars assumptions items ∙ sym (ap item_cites (item.rolls-Block l before were items) ∙ cites-block l before were items)) s)

pub head_cites : (label : List ℕ) (vars : List TypedVar) (assumptions : List Tree) (items : List Item) (to : Cited) → Stands to (cites (altered items label (alteration.Head vars assumptions))) → Stands to (cites items)
head_cites label vars assumptions items to s = elim (altered_cites label (alteration.Head vars assumptions) [] (head_top vars assumptions) items to s) [ inl t ↦ absurd t | inr t ↦ t ]

-- ---- an item less
module _ (label : List ℕ) where
  drop_cites : (name : List ℕ) (inner : List Item) (to : Cited) → Stands to (cites (dropping label name inner)) → Stands to [] ⊎ Stands to (cites inner)
  drop_cites name [] to s = absurd s
  drop_cites name (i ∷ inner) to s = elim (not (has_label label i)) as (λ b. Stands to (cites (cond b (i ∷ dropping label name inner) (dropping label name inner))) → Stands to [] ⊎ Stands to (cites (i ∷ inner))) [
    | true ↦ λ t. elim (stands_either to (item_cites i) (cites (dropping label name inner)) t) [
      | inl u ↦ inr (stands_front to (item_cites i) (cites inner) u)
      | inr u ↦ elim (drop_cites name inner to u) [ inl v ↦ inl v | inr v ↦ inr (stands_back to (item_cites i) (cites inner) v) ]
    ]
    | false ↦ λ t. elim (drop_cites name inner to t) [ inl v ↦ inl v | inr v ↦ inr (stands_back to (item_cites i) (cites inner) v) ]
  ] s

  -- without an item, a proof cites no more
  pub removed_cites : (items : List Item) (to : Cited) → Stands to (cites (removed items label)) → Stands to (cites items)
  removed_cites items to s = elim (edited_cites (dropping label) [] drop_cites items to s) [ inl t ↦ absurd t | inr t ↦ t ]

-- ---- an item in another place
-- an item in an item cites no more
abbrev CitesWithin : Item → Type 0
CitesWithin i = (j : Item) → Stands j (all_in i) → (to : Cited) → Stands to (item_cites j) → Stands to (item_cites i)

each_within : (items : List Item) → AllByRecursion CitesWithin items → (j : Item) → Stands j (all_items items) → (to : Cited) → Stands to (item_cites j) → Stands to (cites items)
each_within [] all j stands to s = absurd stands
each_within (i ∷ items) all j stands to s = elim (stands_either j (all_in i) (all_items items) stands) [
  | inl here ↦ stands_front to (item_cites i) (cites items) (all.0 j here to s)
  | inr later ↦ stands_back to (item_cites i) (cites items) (each_within items all.1 j later to s)
]

cites_within : (i : Item) → CitesWithin i
cites_within = item_ind CitesWithin
    (λ l t w j stands to s. subst (λ (k : Item). Stands to (item_cites k)) (sym (stands_one j (item.Line l t w) (subst (Stands j) (all_in-line l t w) stands))) s)
    (λ l vars trees items all j stands to s. elim (subst (Stands j) (all_in-block l vars trees items) stands) [
      | inl same ↦ subst (λ (k : Item). Stands to (item_cites k)) (sym same) s
      | inr below ↦ subst (Stands to) (sym (cites-block l vars trees items)) (each_within items all j below to s)
    ])

all_within : (items : List Item) → AllByRecursion CitesWithin items
all_within [] = tt
all_within (i ∷ items) = (cites_within i, all_within items)

found_stands : (test : Item → Bool) (items : List Item) (found : Item) → find test items ≡ Some found → Stands found items
found_stands test [] found is = let no : None ≡ Some found = is in absurd (cc)
found_stands test (i ∷ items) found is = go (test i) (found_stands test items found) is
  where
    go : (b : Bool) → (find test items ≡ Some found → Stands found items) → cond b (Some i) (find test items) ≡ Some found → Stands found (i ∷ items)
    go true rest e = inl (cc)
    go false rest e = inr (rest e)

module _ (items : List Item) (label block : List ℕ) (before : Option (List ℕ)) where
  moved_cites : (found : Option Item) → item_at items label ≡ found → (to : Cited) → Stands to (cites (moving items label block before found)) → Stands to (cites items)
  moved_cites None is to s = s
  moved_cites (Some i) is to s = elim (inserted_cites block before i (removed items label) to s) [
    | inl t ↦ each_within items (all_within items) i (found_stands (has_label label) (all_items items) i is) to t
    | inr t ↦ removed_cites label items to t
  ]

-- ---- another reason
module _ (label : List ℕ) (why : Option Why) where
  abbrev given : Item → Item
  given = altered_item label (alteration.Why why)

  reason_top : (y : Item-F Item) (to : Cited) → Stands to (item_cites (altered_step (alteration.Why why) y)) → Stands to (cited_by why) ⊎ Stands to (item_cites (roll-Item y))
  reason_top (Line l t before) to s = inl (subst (Stands to) (cites-line l t why) s)
  reason_top (Block l vars trees items) to s = inr s

  -- with another reason of a line, a proof cites what the reason does and what it cited before
  pub reason_cites : (items : List Item) (to : Cited) → Stands to (cites (altered items label (alteration.Why why))) → Stands to (cited_by why) ⊎ Stands to (cites items)
  reason_cites = altered_cites label (alteration.Why why) (cited_by why) reason_top

  -- a line that has the label gets the reason
  given_line : (l : List ℕ) (t : Tree) (w : Option Why) → has_label label (item.Line l t w) ≡ true → given (item.Line l t w) ≡ item.Line l t why
  given_line l t w has =
      cond-true (has_label label (item.Line l t w)) (altered_step (alteration.Why why) (out-Item (item.Line l t w))) (item.Line l t w) has
      ∙ ap (altered_step (alteration.Why why)) (ap out-Item (sym (item.rolls-Line l t w)) ∙ out-roll-Item (Line l t w))

  either_way : (b : Bool) (i j : Item) → j ≡ i → cond b j i ≡ i
  either_way true i j same = same
  either_way false i j same = refl

  -- and a box stays, whatever label it has
  given_box : (l : List ℕ) (vars : List TypedVar) (trees : List Tree) (items : List Item) → given (item.Block l vars trees items) ≡ item.Block l vars trees items
  given_box l vars trees items = either_way (has_label label (item.Block l vars trees items)) (item.Block l vars trees items) (altered_step (alteration.Why why) (out-Item (item.Block l vars trees items)))
      (ap (altered_step (alteration.Why why)) (ap out-Item (sym (item.rolls-Block l vars trees items)) ∙ out-roll-Item (Block l vars trees items)) ∙ item.rolls-Block l vars trees items)

  module _ (to : Cited) (s : Stands to (cited_by why)) where
    abbrev after : Item → Item
    after i = given (edited_item (altering label (alteration.Why why)) i)

    abbrev Gains : Item → Type 0
    Gains i = list_any (is_line_at label) (all_in i) ≡ true → Stands to (item_cites (after i))

    each_gains : (items : List Item) → AllByRecursion Gains items → is_line_label items label ≡ true → Stands to (cites (altered items label (alteration.Why why)))
    each_gains [] all is = absurd (false≢true is)
    each_gains (i ∷ items) all is = elim (or_cases _ _ (sym (list_any-append (is_line_at label) (all_in i) (all_items items)) ∙ is)) [
      | inl here ↦ stands_front to (item_cites (after i)) (cites (altered items label (alteration.Why why))) (all.0 here)
      | inr later ↦ stands_back to (item_cites (after i)) (cites (altered items label (alteration.Why why))) (each_gains items all.1 later)
    ]

    line_gains : (l : List ℕ) (t : Tree) (w : Option Why) → Gains (item.Line l t w)
    line_gains l t w is = elim (or_cases _ _ (sym (ap (list_any (is_line_at label)) (all_in-line l t w)) ∙ is)) [
      | inl here ↦ subst (Stands to) (sym (ap item_cites (ap given (edited_item-line l t w (altering label (alteration.Why why))) ∙ given_line l t w (and_parts _ _ here).0) ∙ cites-line l t why)) s
      | inr later ↦ absurd (false≢true later)
    ]

    box_gains : (l : List ℕ) (vars : List TypedVar) (trees : List Tree) (items : List Item) → AllByRecursion Gains items → Gains (item.Block l vars trees items)
    box_gains l vars trees items all is = elim (or_cases _ _ (sym (ap (list_any (is_line_at label)) (all_in-block l vars trees items)) ∙ is)) [
      | inl here ↦ absurd (false≢true (sym (is_line-block l vars trees items) ∙ (and_parts _ _ here).1))
      | inr below ↦ subst (Stands to)
          (sym (ap item_cites (ap given (edited_item-block l vars trees items (altering label (alteration.Why why))) ∙ given_box l vars trees (altered items label (alteration.Why why)))
          ∙ cites-block l vars trees (altered items label (alteration.Why why)))) (each_gains items all below)
    ]

    all_gain : (items : List Item) → AllByRecursion Gains items
    all_gain [] = tt
    all_gain (i ∷ items) = (item_ind Gains line_gains box_gains i, all_gain items)

  -- where a line has the label, all that the reason cites
  pub reason_there : (items : List Item) → is_line_label items label ≡ true → (to : Cited) → Stands to (cited_by why) → Stands to (cites (altered items label (alteration.Why why)))
  reason_there items is to s = each_gains to s items (all_gain to s items) is

-- ---- any edit that brings nothing in
pub made_cites : (edit : ProofEdit) → PutsOpen edit → (items : List Item) (to : Cited) → Stands to (cites (made edit items)) → Stands to (cites items)
made_cites (Insert block before new) opens items to s = elim (inserted_cites block before new items to s) [ inl t ↦ absurd (open_cites new opens to t) | inr t ↦ t ]
made_cites (SetTree label tree) opens items to s = tree_cites label tree items to s
made_cites (SetHead label vars assumptions) opens items to s = head_cites label vars assumptions items to s
made_cites (Move label block before) opens items to s = moved_cites items label block before (item_at items label) refl to s
made_cites (ClearReason label) opens items to s = elim (reason_cites label None items to s) [ inl t ↦ absurd t | inr t ↦ t ]
made_cites (Remove label) opens items to s = removed_cites label items to s
