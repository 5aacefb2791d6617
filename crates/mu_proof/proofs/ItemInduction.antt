-- Induction over items, variant by variant.
use Rattle.std.proofs.Common.{ℕ, List, [], ◌∷◌, map, sym, subst}
use Rattle.std.specs.Prelude.{Option}
use Rattle.std.specs.List.{AllByRecursion}
use Rattle.mu_tree.specs.declared.trees.Tree.{Tree}
use Rattle.mu_tree.specs.declared.claim.TypedVar.{TypedVar}
use Rattle.mu_tree.specs.declared.why.Why.{Why}
use Rattle.mu_proof.specs.declared.items.Item.{Item}
use Rattle.mu_proof.specs.declared.items.Item.TheOpen.{Item-F, Line, Block}
use Rattle.mu_proof.specs.declared.items.Item.TheFolds.{ind-Item}
use Rattle.mu_proof.specs.declared.items.Item.TheViews.{roll-Item}
use Rattle.mu_proof.specs.declared.items.Item.TheVariants as item

abbrev With : (Item → Type 0) → Type 0
With P = (i : Item) × P i

pub item_ind : (P : Item → Type 0) → ((l : List ℕ) (t : Tree) (y : Option Why) → P (item.Line l t y)) → ((l : List ℕ) (vars : List TypedVar) (trees : List Tree) (items : List Item) → AllByRecursion P items → P (item.Block l vars trees items)) → (i : Item) → P i
item_ind P line block = ind-Item P (λ x y is. subst (λ z. P (roll-Item z)) is (go y))
  where
    all : (es : List (With P)) → AllByRecursion P (map (λ e. e.0) es)
    all [] = tt
    all (e ∷ es) = (e.1, all es)

    layer : Item-F (With P) → Item-F Item
    layer (Line l t y) = Line l t y
    layer (Block l vars trees es) = Block l vars trees (map (λ e. e.0) es)

    go : (y : Item-F (With P)) → P (roll-Item (layer y))
    go (Line l t y) = subst P (sym (item.rolls-Line l t y)) (line l t y)
    go (Block l vars trees es) = subst P (sym (item.rolls-Block l vars trees (map (λ e. e.0) es))) (block l vars trees (map (λ e. e.0) es) (all es))

-- an item is a line or a block
pub item_cases : (P : Item → Type 0) → ((l : List ℕ) (t : Tree) (y : Option Why) → P (item.Line l t y)) → ((l : List ℕ) (vars : List TypedVar) (trees : List Tree) (items : List Item) → P (item.Block l vars trees items)) → (i : Item) → P i
item_cases P line block = item_ind P line (λ l vars trees items _. block l vars trees items)
