-- The last item, where that is a line.
use Rattle.std.proofs.Common.{arith, ◌≡◌, ◌-◌, refl, sym, ap, ◌∙◌, ℕ, suc, List, [], ◌∷◌, ◌++◌, length}
use Rattle.std.specs.Prelude.{Option, Some, None, option_and_then, slice_get}
use Rattle.std.proofs.lemmas.List.{length-append}
use Rattle.mu_tree.specs.declared.trees.Tree.{Tree}
use Rattle.mu_tree.specs.declared.why.Why.{Why}
use Rattle.mu_proof.specs.declared.items.Item.{Item}
use Rattle.mu_proof.specs.declared.items.Item.TheVariants as item
use Rattle.mu_check.specs.Verdicts.{line_tree, last_line}
use Rattle.mu_check.specs.Places.{EndsWith}
use Rattle.mu_check.proofs.CheckedEquations.{tree-line, tree-block}
use Rattle.mu_proof.proofs.ItemInduction.{item_cases}

last_split : {A : Type 0} (x : A) (xs : List A) → (front : List A) × (last : A) × (x ∷ xs ≡ front ++ last ∷ [])
last_split x [] = ([], x, refl)
last_split x (y ∷ ys) = let split = last_split y ys in (x ∷ split.0, split.1, ap (λ zs. x ∷ zs) split.2)

last_there : {A : Type 0} (front : List A) (x : A) → slice_get (front ++ x ∷ []) (length (front ++ x ∷ []) - 1) ≡ Some x
last_there [] x = refl
last_there (y ∷ front) x =
    let further : length (y ∷ (front ++ x ∷ [])) - 1 ≡ suc (length (front ++ x ∷ []) - 1) = omega (arith, length-append front (x ∷ [])) in
    ap (slice_get (y ∷ (front ++ x ∷ []))) further ∙ last_there front x

last_line-append : (front : List Item) (i : Item) → last_line (front ++ i ∷ []) ≡ line_tree i
last_line-append front i = ap (option_and_then line_tree) (last_there front i)

is_line_of : (i : Item) (t : Tree) → line_tree i ≡ Some t → (l : List ℕ) × (y : Option Why) × (i ≡ item.Line l t y)
is_line_of = item_cases (λ i. (t : Tree) → line_tree i ≡ Some t → (l : List ℕ) × (y : Option Why) × (i ≡ item.Line l t y))
    (λ l u y t e. let same : Some u ≡ Some t = sym (tree-line l u y) ∙ e in (l, y, ap (λ v. item.Line l v y) (one u t same)))
    (λ l vars trees items t e. absurd (none t (sym (tree-block l vars trees items) ∙ e)))
  where
    one : (u t : Tree) → Some u ≡ Some t → u ≡ t
    one u t e = cc

    none : (t : Tree) → None ≡ Some t → ⊥
    none t e = cc

pub ends_with_last : (items : List Item) (t : Tree) → last_line items ≡ Some t → EndsWith items t
ends_with_last [] t e = absurd (cc)
ends_with_last (i ∷ items) t e =
    let split = last_split i items in
    let line = is_line_of split.1 t (sym (last_line-append split.0 split.1) ∙ ap last_line (sym split.2) ∙ e) in
    (split.0, line.0, line.1, split.2 ∙ ap (λ j. split.0 ++ j ∷ []) line.2)

pub last_of_ending : (items : List Item) (t : Tree) → EndsWith items t → last_line items ≡ Some t
last_of_ending items t (front, l, y, e) = ap last_line e ∙ last_line-append front (item.Line l t y) ∙ tree-line l t y
