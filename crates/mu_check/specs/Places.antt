-- Where the items of a proof are, and what may be cited there.
use Rattle.std.specs.Prelude.{◌≡◌, ℕ, List, [], ◌∷◌, ◌++◌, map, Option, Some}
use Rattle.std.specs.Bool.{nat_eq}
use Rattle.std.specs.List.{Contains, IsDistinct}
use Rattle.std.specs.Cmp.Lexicographic.{pointwise}
use Rattle.mu_tree.specs.declared.trees.Tree.{Tree}
use Rattle.mu_tree.specs.declared.claim.TypedVar.{TypedVar}
use Rattle.mu_tree.specs.declared.claim.Hyp.{Hyp}
use Rattle.mu_tree.specs.declared.why.Ref.{Ref}
use Rattle.mu_tree.specs.declared.why.Ref.TheVariants as reference
use Rattle.mu_tree.specs.declared.why.Why.{Why}
use Rattle.mu_decl.specs.Claims.{names_of}
use Rattle.mu_decl.specs.declared.declaration.Statement.{Statement}
use Rattle.mu_proof.specs.declared.items.Item.{Item}
use Rattle.mu_proof.specs.declared.items.Item.TheVariants as item
use Rattle.mu_proof.specs.Items.{label_of, all_items}
use Rattle.mu_check.specs.declared.fact.Fact.{Fact}
use Rattle.mu_check.specs.Facts.{plain_fact, closed, hypothesis_fact, assumptions_of}
use Rattle.mu_check.specs.Environments.{nth}

-- a place in a proof, behind some items: directly in the proof, or directly in a block that stands at a place around it
pub data Place : Type 0 where
  outermost : (items : List Item) → Place
  inside : (around : Place) (l : List ℕ) (vars : List TypedVar) (trees : List Tree) (items : List Item) → Place

-- the items before a place that stand directly in the same block, or directly in the proof
abbrev pub before : Place → List Item
before (outermost items) = items
before (inside around l vars trees items) = items

-- the variables in scope at a place: those of the blocks around it, the outermost block's first
abbrev pub scope_at : Place → List (List ℕ)
scope_at (outermost items) = []
scope_at (inside around l vars trees items) = scope_at around ++ names_of vars

-- an item of a proof is at a place
pub data IsAt (proof : List Item) : Place → Item → Type 0 where
  in_proof : (items : List Item) (i : Item) (later : List Item)
      → proof ≡ items ++ i ∷ later
      → IsAt proof (outermost items) i
  in_block : (around : Place) (l : List ℕ) (vars : List TypedVar) (trees : List Tree) (items : List Item) (i : Item) (later : List Item)
      → IsAt proof around (item.Block l vars trees (items ++ i ∷ later))
      → IsAt proof (inside around l vars trees items) i

-- the last of some items is a line of a tree
abbrev pub EndsWith : List Item → Tree → Type 0
EndsWith items t = (front : List Item) × (l : List ℕ) × (y : Option Why) × (items ≡ front ++ item.Line l t y ∷ [])

-- what an item establishes, under its label, for what comes after it: a line its tree, and a block that ends with a line the
-- sequent of that line, in which its assumptions are discharged and its variables are bound
pub data Establishes (scope : List (List ℕ)) : Item → List ℕ → Fact → Type 0 where
  line : (l : List ℕ) (t : Tree) (y : Option Why)
      → Establishes scope (item.Line l t y) l (plain_fact scope t)
  block : (l : List ℕ) (vars : List TypedVar) (trees : List Tree) (items : List Item) (t : Tree)
      → EndsWith items t
      → Establishes scope (item.Block l vars trees items) l (closed scope vars trees t)

-- a reference may be cited at a place of a proof of a rule, and gives a fact
pub data MayCite (s : Statement) : Place → Ref → Fact → Type 0 where
  -- a hypothesis of the rule, by its number from 1
  hypothesis : (items : List Item) (n : ℕ) (h : Hyp)
      → nth s.claim.hyps n ≡ Some h
      → MayCite s (outermost items) (reference.Hypothesis n) (hypothesis_fact h)
  -- an assumption of the block around the place, by its number from 1: the typings of its variables, then what is stored
  assumption : (around : Place) (l : List ℕ) (vars : List TypedVar) (trees : List Tree) (items : List Item) (k : ℕ) (f : Fact)
      → nth (assumptions_of (scope_at around) vars trees) k ≡ Some f
      → MayCite s (inside around l vars trees items) (reference.Assumption l k) f
  -- an item before the place
  earlier : (place : Place) (i : Item) (l : List ℕ) (f : Fact)
      → Contains (before place) i
      → Establishes (scope_at place) i l f
      → MayCite s place (reference.Item l) f
  -- what may be cited where a block stands may be cited in it
  outer : (around : Place) (l : List ℕ) (vars : List TypedVar) (trees : List Tree) (items : List Item) (x : Ref) (f : Fact)
      → MayCite s around x f
      → MayCite s (inside around l vars trees items) x f

-- no label stands twice in a proof, in whatever blocks
abbrev pub HasDistinctLabels : List Item → Type 0
HasDistinctLabels proof = IsDistinct (pointwise nat_eq) (map label_of (all_items proof))
