-- Induction over trees, variant by variant.
use Rattle.std.proofs.Common.{ℕ, List, [], ◌∷◌, map, sym, subst}
use Rattle.std.specs.List.{AllByRecursion}
use Rattle.mu_tree.specs.declared.trees.Tree.{Tree}
use Rattle.mu_tree.specs.declared.trees.Tree.TheOpen.{Tree-F, App, Meta, Bind}
use Rattle.mu_tree.specs.declared.trees.Tree.TheFolds.{ind-Tree}
use Rattle.mu_tree.specs.declared.trees.Tree.TheViews.{roll-Tree}
use Rattle.mu_tree.specs.declared.trees.Tree.TheVariants as tree

abbrev With : (Tree → Type 0) → Type 0
With P = (t : Tree) × P t

pub tree_ind : (P : Tree → Type 0) → ((n : List ℕ) (ts : List Tree) → AllByRecursion P ts → P (tree.App n ts)) → ((m : List ℕ) (ts : List Tree) → AllByRecursion P ts → P (tree.Meta m ts)) → ((b v : List ℕ) (domain body : Tree) → P domain → P body → P (tree.Bind b v domain body)) → (t : Tree) → P t
tree_ind P app meta bind = ind-Tree P (λ x y is. subst (λ z. P (roll-Tree z)) is (go y))
  where
    all : (es : List (With P)) → AllByRecursion P (map (λ e. e.0) es)
    all [] = tt
    all (e ∷ es) = (e.1, all es)

    layer : Tree-F (With P) → Tree-F Tree
    layer (App n es) = App n (map (λ e. e.0) es)
    layer (Meta m es) = Meta m (map (λ e. e.0) es)
    layer (Bind b v domain body) = Bind b v domain.0 body.0

    go : (y : Tree-F (With P)) → P (roll-Tree (layer y))
    go (App n es) = subst P (sym (tree.rolls-App n (map (λ e. e.0) es))) (app n (map (λ e. e.0) es) (all es))
    go (Meta m es) = subst P (sym (tree.rolls-Meta m (map (λ e. e.0) es))) (meta m (map (λ e. e.0) es) (all es))
    go (Bind b v domain body) = subst P (sym (tree.rolls-Bind b v domain.0 body.0)) (bind b v domain.0 body.0 domain.1 body.1)
