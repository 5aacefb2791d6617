-- Which constants a tree has, and which a definition leads to.
use Rattle.std.specs.Prelude.{◌≡◌, ℕ, cond, List, [], ◌∷◌, ◌++◌, map}
use Rattle.mu_tree.specs.Names.{is_among}
use Rattle.mu_tree.specs.Trees.{joined}
use Rattle.mu_tree.specs.declared.claim.Definition.{Definition}
use Rattle.mu_tree.specs.declared.trees.Tree.{Tree}
use Rattle.mu_tree.specs.declared.trees.Tree.TheOpen.{Tree-F, App, Meta, Bind}
use Rattle.mu_tree.specs.declared.trees.Tree.TheFolds.{fold-Tree}
use Rattle.mu_decl.specs.declared.bare.Bare.{Bare}
use Rattle.mu_decl.specs.declared.bare.Bare.TheOpen as layer
use Rattle.mu_decl.specs.declared.bare.Bare.TheFolds.{fold-Bare}
use Rattle.mu_decl.specs.Nameless.{nameless}

-- the constant that a name with these arguments is: none where it has no arguments and is a variable in scope, and else its own
abbrev pub constant_of : {A : Type 0} → List (List ℕ) → List ℕ → List A → List (List ℕ)
constant_of scope n [] = cond (is_among scope n) [] (n ∷ [])
constant_of scope n (argument ∷ arguments) = n ∷ []

-- a node's constant before those of its parts, each part in the scope in which it stands
abbrev pub constants_step : Tree-F (List (List ℕ) → List (List ℕ)) → List (List ℕ) → List (List ℕ)
constants_step (App n arguments) = λ scope. constant_of scope n arguments ++ joined (map (λ argument. argument scope) arguments)
constants_step (Meta m arguments) = λ scope. joined (map (λ argument. argument scope) arguments)
constants_step (Bind b v domain body) = λ scope. b ∷ domain scope ++ body (scope ++ v ∷ [])

-- the constants of a tree from left to right, where the names in scope are variables
unfoldable pub constants_in : List (List ℕ) → Tree → List (List ℕ)
constants_in scope t = fold-Tree (List (List ℕ) → List (List ℕ)) constants_step t scope

-- what a definition leads to: the constants of its body, in which its parameters are variables
abbrev pub used_by : Definition → List (List ℕ)
used_by d = constants_in d.params d.body

-- a nameless node's constant before those of its parts
abbrev pub bare_constants_step : layer.Bare-F (List (List ℕ)) → List (List ℕ)
bare_constants_step (layer.Var x) = []
bare_constants_step (layer.Index i) = []
bare_constants_step (layer.App c rest) = c ∷ joined rest
bare_constants_step (layer.Meta m rest) = joined rest
bare_constants_step (layer.Bind b domain body) = b ∷ domain ++ body

-- the constants of a nameless tree, applied ones and binders, from left to right
unfoldable pub bare_constants : Bare → List (List ℕ)
bare_constants = fold-Bare (List (List ℕ)) bare_constants_step

-- a definition leads to the constants of the nameless tree that is put in for its constant
unfoldable pub UsesAreConstants : Type 0
UsesAreConstants = (d : Definition) → used_by d ≡ bare_constants (nameless [] d.params d.body)
