-- What is summed over an item and all items in it.
use Rattle.std.proofs.Common.{arith, ◌≡◌, refl, sym, ◌∙◌, ap, zero-add, ◌+◌, List, [], ◌∷◌, ℕ, length, sum_by}
use Rattle.std.specs.Prelude.{Option}
use Rattle.std.specs.List.{flat_map}
use Rattle.std.proofs.lemmas.List.Sums.{sum_by-cons, sum_by-append}
use Rattle.mu_tree.specs.declared.trees.Tree.{Tree}
use Rattle.mu_tree.specs.declared.claim.TypedVar.{TypedVar}
use Rattle.mu_tree.specs.declared.why.Why.{Why}
use Rattle.mu_proof.specs.declared.items.Item.{Item}
use Rattle.mu_proof.specs.declared.items.Item.TheVariants as item
use Rattle.mu_proof.specs.Items.{all_in, all_items}
use Rattle.mu_proof.proofs.ItemEquations.{all_in-line, all_in-block}

-- how much an item weighs with all in it
abbrev pub weight : (Item → ℕ) → Item → ℕ
weight f i = sum_by f (all_in i)

sum_by-flat_map : {X Y : Type 0} (f : Y → ℕ) (g : X → List Y) (xs : List X) → sum_by f (flat_map g xs) ≡ sum_by (λ x. sum_by f (g x)) xs
sum_by-flat_map f g [] = refl
sum_by-flat_map f g (x ∷ xs) = sum_by-append f (g x) (flat_map g xs) ∙ ap (λ n. sum_by f (g x) + n) (sum_by-flat_map f g xs) ∙ sym (sum_by-cons (λ y. sum_by f (g y)) x xs)

module _ (f : Item → ℕ) where
  pub weight-line : (l : List ℕ) (t : Tree) (w : Option Why) → weight f (item.Line l t w) ≡ f (item.Line l t w)
  weight-line l t w = ap (sum_by f) (all_in-line l t w) ∙ zero-add (f (item.Line l t w))

  pub weight-block : (l : List ℕ) (vars : List TypedVar) (trees : List Tree) (items : List Item) → weight f (item.Block l vars trees items) ≡ f (item.Block l vars trees items) + sum_by f (all_items items)
  weight-block l vars trees items = ap (sum_by f) (all_in-block l vars trees items) ∙ sum_by-cons f (item.Block l vars trees items) (all_items items)

  -- items weigh what each does with all in it
  pub weights : (items : List Item) → sum_by f (all_items items) ≡ sum_by (weight f) items
  weights items = sum_by-flat_map f all_in items

-- how many there are is a weight of 1 for each
pub length-sum_by : {X : Type 0} (xs : List X) → length xs ≡ sum_by (λ _. 1) xs
length-sum_by [] = refl
length-sum_by (x ∷ xs) = omega (arith, length-sum_by xs, sum_by-cons (λ _. 1) x xs)

pub ruleset weight_equations = (weight-line, weight-block)
