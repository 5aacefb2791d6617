-- A verdict is the first fault that the tests find, each where its item stands, and what they find by a reference may be cited there.
use Rattle.std.proofs.Common.{◌≡◌, refl, sym, ap, ◌∙◌, ℕ, List, [], ◌∷◌, ◌++◌, map}
use Rattle.std.specs.Prelude.{Option, Some, None}
use Rattle.std.specs.Option.{option_or}
use Rattle.std.specs.List.{AllByRecursion}
use Rattle.mu_tree.specs.declared.trees.Tree.{Tree}
use Rattle.mu_tree.specs.declared.claim.TypedVar.{TypedVar}
use Rattle.mu_tree.specs.declared.why.Why.{Why}
use Rattle.mu_decl.specs.Contexts.{World}
use Rattle.mu_decl.specs.declared.declaration.Statement.{Statement}
use Rattle.mu_proof.specs.declared.items.Item.{Item}
use Rattle.mu_proof.specs.declared.items.Item.TheOpen.{Line, Block}
use Rattle.mu_proof.specs.declared.items.Item.TheFolds.{fold-roll-Item}
use Rattle.mu_proof.specs.declared.items.Item.TheVariants as item
use Rattle.mu_proof.specs.Proofs.{root}
use Rattle.mu_check.specs.declared.cause.Fault.{Fault}
use Rattle.mu_check.specs.declared.allowed.Allowed.{Allowed}
use Rattle.mu_check.specs.Environments.{within}
use Rattle.mu_check.specs.Blocks.{block_cause}
use Rattle.mu_check.specs.Verdicts.{labelled, last_line, checked, in_order, ends, ending_cause, root_cause, allowed_by, claim_fault, verdict_by}
use Rattle.mu_check.specs.Places.{Place, outermost, inside, scope_at}
use Rattle.mu_check.specs.Tests.{environment_at, Tested, found_along, items_of, tested_step, tested, found_in, first_fault, VerdictsAreByPlace, CitationsAreByPlace}
use Rattle.mu_check.proofs.CheckedEquations.{line-fault, block-fault, ending}
use Rattle.mu_proof.proofs.ItemInduction.{item_ind}
use Rattle.mu_check.proofs.Citing.{found_cited, cited_found}
use Rattle.mu_check.proofs.Walking.{labels_once, next_outermost, next_inside, entered_at}

or_nothing : {A : Type 0} (o : Option A) → option_or o None ≡ o
or_nothing None = refl
or_nothing (Some x) = refl

or_assoc : {A : Type 0} (o p q : Option A) → option_or o (option_or p q) ≡ option_or (option_or o p) q
or_assoc None p q = refl
or_assoc (Some x) p q = refl

first_fault-append : (front back : List (Option Fault)) → first_fault (front ++ back) ≡ option_or (first_fault front) (first_fault back)
first_fault-append [] back = refl
first_fault-append (found ∷ front) back = ap (option_or found) (first_fault-append front back) ∙ or_assoc found (first_fault front) (first_fault back)

first_fault-push : (front : List (Option Fault)) (last : Option Fault) → first_fault (front ++ last ∷ []) ≡ option_or (first_fault front) last
first_fault-push front last = first_fault-append front (last ∷ []) ∙ ap (option_or (first_fault front)) (or_nothing last)

module _ (w : World) (s : Statement) where
  tested-line : (l : List ℕ) (t : Tree) (y : Option Why) → tested w s (item.Line l t y) ≡ tested_step w s (Line l t y)
  unfolding tested
  tested-line l t y = ap (tested w s) (sym (item.rolls-Line l t y)) ∙ fold-roll-Item Tested (tested_step w s) (Line l t y)

  tested-block : (l : List ℕ) (vars : List TypedVar) (trees : List Tree) (items : List Item) → tested w s (item.Block l vars trees items) ≡ tested_step w s (Block l vars trees (map (tested w s) items))
  unfolding tested
  tested-block l vars trees items = ap (tested w s) (sym (item.rolls-Block l vars trees items)) ∙ fold-roll-Item Tested (tested_step w s) (Block l vars trees items)

  items_of-tested : (items : List Item) → AllByRecursion (λ i. (tested w s i).itself ≡ i) items → items_of (map (tested w s) items) ≡ items
  items_of-tested [] all = refl
  items_of-tested (i ∷ items) (here, all) = ap (λ j. j ∷ items_of (map (tested w s) items)) here ∙ ap (λ is. i ∷ is) (items_of-tested items all)

  -- an item that is tested is the item
  tested-item : (i : Item) → (tested w s i).itself ≡ i
  tested-item = item_ind (λ i. (tested w s i).itself ≡ i)
      (λ l t y. ap (λ x. x.itself) (tested-line l t y))
      (λ l vars trees items all. ap (λ x. x.itself) (tested-block l vars trees items) ∙ ap (item.Block l vars trees) (items_of-tested items all))

  all_items : (items : List Item) → items_of (map (tested w s) items) ≡ items
  all_items [] = refl
  all_items (i ∷ items) = ap (λ j. j ∷ items_of (map (tested w s) items)) (tested-item i) ∙ ap (λ is. i ∷ is) (all_items items)

  abbrev a : Allowed
  a = allowed_by w s

  -- at each place the tests of an item find the fault that the walk finds there first
  abbrev Agrees : Item → Type 0
  Agrees i = (place : Place) → first_fault ((tested w s i).found place) ≡ (checked w a i).fault (environment_at s place)

  along : (frame : List Item → Place) → ((items : List Item) (i : Item) → (checked w a i).after (environment_at s (frame items)) ≡ environment_at s (frame (items ++ i ∷ [])))
      → (items : List Item) → AllByRecursion Agrees items → (front : List Item) → first_fault (found_along frame front (map (tested w s) items)) ≡ in_order (map (checked w a) items) (environment_at s (frame front))
  along frame next [] all front = refl
  along frame next (i ∷ items) (here, all) front =
      first_fault-append ((tested w s i).found (frame front)) (found_along frame (front ++ (tested w s i).itself ∷ []) (map (tested w s) items))
      ∙ ap (λ o. option_or o (first_fault (found_along frame (front ++ (tested w s i).itself ∷ []) (map (tested w s) items)))) (here (frame front))
      ∙ ap (λ j. option_or ((checked w a i).fault (environment_at s (frame front))) (first_fault (found_along frame (front ++ j ∷ []) (map (tested w s) items)))) (tested-item i)
      ∙ ap (option_or ((checked w a i).fault (environment_at s (frame front)))) (along frame next items all (front ++ i ∷ []) ∙ ap (in_order (map (checked w a) items)) (sym (next front i)))

  inner : (place : Place) (l : List ℕ) (vars : List TypedVar) (trees : List Tree) (items : List Item) → AllByRecursion Agrees items
      → first_fault (found_along (inside place l vars trees) [] (map (tested w s) items)) ≡ in_order (map (checked w a) items) (within l vars trees (environment_at s place))
  inner place l vars trees items all = along (inside place l vars trees) (next_inside w a s place l vars trees) items all [] ∙ ap (in_order (map (checked w a) items)) (sym (entered_at w a s place l vars trees))

  same_ending : (items : List Item) → last_line (items_of (map (tested w s) items)) ≡ ends (map (checked w a) items)
  same_ending items = ap last_line (all_items items) ∙ sym (ending w a items)

  line_agrees : (l : List ℕ) (t : Tree) (y : Option Why) → Agrees (item.Line l t y)
  line_agrees l t y place = ap (λ x. first_fault (x.found place)) (tested-line l t y) ∙ or_nothing _ ∙ sym (line-fault w a l t y (environment_at s place))

  block_agrees : (l : List ℕ) (vars : List TypedVar) (trees : List Tree) (items : List Item) → AllByRecursion Agrees items → Agrees (item.Block l vars trees items)
  block_agrees l vars trees items all place =
      ap (λ x. first_fault (x.found place)) (tested-block l vars trees items)
      ∙ ap (option_or (labelled l (block_cause w a (scope_at place) vars trees)))
      (first_fault-push (found_along (inside place l vars trees) [] (map (tested w s) items)) (labelled l (ending_cause (last_line (items_of (map (tested w s) items)))))
      ∙ ap (λ o. option_or o (labelled l (ending_cause (last_line (items_of (map (tested w s) items)))))) (inner place l vars trees items all)
      ∙ ap (λ o. option_or (in_order (map (checked w a) items) (within l vars trees (environment_at s place))) (labelled l (ending_cause o))) (same_ending items))
      ∙ sym (block-fault w a l vars trees items (environment_at s place))

  agrees : (i : Item) → Agrees i
  agrees = item_ind Agrees line_agrees block_agrees

  all_agree : (items : List Item) → AllByRecursion Agrees items
  all_agree [] = tt
  all_agree (i ∷ items) = (agrees i, all_agree items)

  whole : (proof : List Item) → first_fault (found_in w s proof) ≡ claim_fault w a s.claim proof
  whole proof =
      first_fault-push (found_along outermost [] (map (tested w s) proof)) (labelled root (root_cause s.claim.conclusion (last_line proof)))
      ∙ ap (λ o. option_or o (labelled root (root_cause s.claim.conclusion (last_line proof)))) (along outermost (next_outermost w a s) proof (all_agree proof) [])
      ∙ ap (λ o. option_or (in_order (map (checked w a) proof) (environment_at s (outermost []))) (labelled root (root_cause s.claim.conclusion o))) (sym (ending w a proof))

pub verdicts_are_by_place : VerdictsAreByPlace
unfolding VerdictsAreByPlace
verdicts_are_by_place w r s proof there = ap (verdict_by w proof) there ∙ sym (whole w s proof)

pub citations_are_by_place : CitationsAreByPlace
unfolding CitationsAreByPlace
citations_are_by_place s proof place i x f apart at = (found_cited s place x f, cited_found s place (labels_once proof apart place i at) x f)
