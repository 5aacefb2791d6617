-- The tests of a proof, each made where its item stands. A verdict carries along what may be cited; here nothing is carried along.
use Rattle.std.specs.Prelude.{◌≡◌, ℕ, List, [], ◌∷◌, ◌++◌, map, Option, Some, None}
use Rattle.std.specs.Option.{option_or}
use Rattle.std.specs.List.{flat_map}
use Rattle.std.specs.FinMap as finite
use Rattle.mu_tree.specs.declared.trees.Tree.{Tree}
use Rattle.mu_tree.specs.declared.claim.TypedVar.{TypedVar}
use Rattle.mu_tree.specs.declared.why.Ref.{Ref}
use Rattle.mu_decl.specs.Contexts.{World}
use Rattle.mu_decl.specs.Claims.{names_of}
use Rattle.mu_decl.specs.declared.declaration.Statement.{Statement}
use Rattle.mu_proof.specs.declared.items.Item.{Item}
use Rattle.mu_proof.specs.declared.items.Item.TheOpen.{Item-F, Line, Block}
use Rattle.mu_proof.specs.declared.items.Item.TheFolds.{fold-Item}
use Rattle.mu_proof.specs.declared.items.Item.TheViews.{out-Item}
use Rattle.mu_proof.specs.declared.items.Item.TheVariants as item
use Rattle.mu_proof.specs.Proofs.{root}
use Rattle.mu_check.specs.declared.cause.Fault.{Fault}
use Rattle.mu_check.specs.declared.fact.Fact.{Fact}
use Rattle.mu_check.specs.declared.environments.KnownItem.{KnownItem}
use Rattle.mu_check.specs.declared.environments.KnownBlock.{KnownBlock}
use Rattle.mu_check.specs.declared.environments.Environment.{Environment}
use Rattle.mu_check.specs.Facts.{plain_fact, closed, hypothesis_fact, assumptions_of}
use Rattle.mu_check.specs.Environments.{gives}
use Rattle.mu_check.specs.Justifications.{line_cause}
use Rattle.mu_check.specs.Blocks.{block_cause}
use Rattle.mu_check.specs.Verdicts.{labelled, last_line, ending_cause, root_cause, allowed_by, verdict}
use Rattle.mu_check.specs.Places.{Place, outermost, inside, scope_at, IsAt, MayCite, HasDistinctLabels}

-- a block under its label, if it ends with a line
abbrev pub known_block : List (List ℕ) → List ℕ → List TypedVar → List Tree → Option Tree → List KnownItem
known_block scope l vars trees None = []
known_block scope l vars trees (Some t) = record { label = l; gives = closed scope vars trees t } ∷ []

-- the top of an item, under its label
abbrev pub known_step : List (List ℕ) → Item-F Item → List KnownItem
known_step scope (Line l t y) = record { label = l; gives = plain_fact scope t } ∷ []
known_step scope (Block l vars trees items) = known_block scope l vars trees (last_line items)

-- what an item gives where these variables are in scope, under its label: nothing where it is a block that doesn't end with a line
unfoldable pub known : List (List ℕ) → Item → List KnownItem
known scope i = known_step scope (out-Item i)

-- the items before a place, directly in the block around it or in one further out
abbrev pub items_at : Place → List KnownItem
items_at (outermost items) = flat_map (known []) items
items_at (inside around l vars trees items) = items_at around ++ flat_map (known (scope_at around ++ names_of vars)) items

-- the blocks around a place, the outermost first
abbrev pub blocks_at : Place → List KnownBlock
blocks_at (outermost items) = []
blocks_at (inside around l vars trees items) = blocks_at around ++ record { label = l; assumptions = assumptions_of (scope_at around) vars trees } ∷ []

-- what may be cited at a place of a proof of a rule, and the variables in scope there
abbrev pub environment_at : Statement → Place → Environment
environment_at s place = record { scope = scope_at place; hyps = map hypothesis_fact s.claim.hyps; blocks = blocks_at place; items = items_at place }

-- an item, and what the tests of it and of the items in it find where it stands, in order
pub record Tested : Type 0 where
  pub itself : Item
  pub found : Place → List (Option Fault)

-- what the tests of items find that stand one after another in one block, or directly in the proof, behind some others
abbrev pub found_along : (List Item → Place) → List Item → List Tested → List (Option Fault)
found_along frame front [] = []
found_along frame front (i ∷ later) = i.found (frame front) ++ found_along frame (front ++ i.itself ∷ []) later

-- some items without what is found
abbrev pub items_of : List Tested → List Item
items_of all = map (λ i. i.itself) all

-- one item: a line is tested once, and a block before the items in it and after them
abbrev pub tested_step : World → Statement → Item-F Tested → Tested
tested_step w s (Line l t y) = record {
  itself = item.Line l t y;
  found = λ place. labelled l (line_cause w (allowed_by w s) (environment_at s place) t y) ∷ [];
}
tested_step w s (Block l vars trees inner) = record {
  itself = item.Block l vars trees (items_of inner);
  found = λ place. labelled l (block_cause w (allowed_by w s) (scope_at place) vars trees) ∷ found_along (inside place l vars trees) [] inner ++ labelled l (ending_cause (last_line (items_of inner))) ∷ [];
}

-- an item, tested
unfoldable pub tested : World → Statement → Item → Tested
tested w s = fold-Item Tested (tested_step w s)

-- what the tests of a proof of a rule find: of its items, in order, and at last of the whole proof
abbrev pub found_in : World → Statement → List Item → List (Option Fault)
found_in w s proof = found_along outermost [] (map (tested w s) proof) ++ labelled root (root_cause s.claim.conclusion (last_line proof)) ∷ []

-- the first fault among what some tests find
abbrev pub first_fault : List (Option Fault) → Option Fault
first_fault [] = None
first_fault (found ∷ later) = option_or found (first_fault later)

-- a verdict is the first fault that the tests find, each where its item stands
unfoldable pub VerdictsAreByPlace : Type 0
VerdictsAreByPlace = (w : World) (r : List ℕ) (s : Statement) (proof : List Item) → finite.get w.rules r ≡ Some s → verdict w r proof ≡ first_fault (found_in w s proof)

-- by a reference a test finds a fact exactly where it may be cited at the test's place and gives that fact, where no label stands twice
unfoldable pub CitationsAreByPlace : Type 0
CitationsAreByPlace = (s : Statement) (proof : List Item) (place : Place) (i : Item) (x : Ref) (f : Fact) → HasDistinctLabels proof → IsAt proof place i → (gives (environment_at s place) x ≡ Some f → MayCite s place x f) × (MayCite s place x f → gives (environment_at s place) x ≡ Some f)
