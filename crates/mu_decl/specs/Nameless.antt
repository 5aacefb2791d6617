-- Trees without the names of bound variables.
use Rattle.std.specs.Prelude.{ℕ, cond, List, [], ◌∷◌, ◌++◌, map, reverse, position, Option, Some, None, nat_eq}
use Rattle.std.specs.Cmp.Lexicographic.{pointwise}
use Rattle.mu_tree.specs.Names.{is_among}
use Rattle.mu_tree.specs.declared.trees.Tree.{Tree}
use Rattle.mu_tree.specs.declared.trees.Tree.TheOpen.{Tree-F, App, Meta, Bind}
use Rattle.mu_tree.specs.declared.trees.Tree.TheFolds.{fold-Tree}
use Rattle.mu_decl.specs.declared.bare.Bare.{Bare}
use Rattle.mu_decl.specs.declared.bare.Bare.TheVariants as bare

-- how many binders stand between a name and the binder of it, under binders of the names `bound`, the last one innermost
unfoldable pub place : List (List ℕ) → List ℕ → Option ℕ
place bound n = position (λ m. pointwise nat_eq m n) (reverse bound)

-- a name without arguments, by its place: a bound variable, a variable in scope or a constant
abbrev pub leaf_at : List (List ℕ) → List ℕ → Option ℕ → Bare
leaf_at scope n (Some index) = bare.Index index
leaf_at scope n None = cond (is_among scope n) (bare.Var n) (bare.App n [])

-- a name without arguments
abbrev pub leaf : List (List ℕ) → List (List ℕ) → List ℕ → Bare
leaf scope bound n = leaf_at scope n (place bound n)

-- a name with its arguments, which is a constant where it has some
abbrev pub applied : List (List ℕ) → List (List ℕ) → List ℕ → List Bare → Bare
applied scope bound n [] = leaf scope bound n
applied scope bound n (argument ∷ arguments) = bare.App n (argument ∷ arguments)

-- one node, with what each part is under the names that are bound where it stands
abbrev pub nameless_step : List (List ℕ) → Tree-F (List (List ℕ) → Bare) → List (List ℕ) → Bare
nameless_step scope (App n arguments) = λ bound. applied scope bound n (map (λ argument. argument bound) arguments)
nameless_step scope (Meta m arguments) = λ bound. bare.Meta m (map (λ argument. argument bound) arguments)
nameless_step scope (Bind b v domain body) = λ bound. bare.Bind b (domain bound) (body (bound ++ v ∷ []))

-- the nameless tree of a tree under binders of the names `bound`, the last one innermost
unfoldable pub nameless : List (List ℕ) → List (List ℕ) → Tree → Bare
nameless scope bound t = fold-Tree (List (List ℕ) → Bare) (nameless_step scope) t bound
