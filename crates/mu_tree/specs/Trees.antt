-- What is read off trees.
use Rattle.std.specs.Prelude.{ℕ, ◌+◌, max, List, [], ◌∷◌, ◌++◌, sum, cond}
use Rattle.std.specs.List.{fold, flat_map}
use Rattle.mu_tree.specs.Names.{is_among}
use Rattle.mu_tree.specs.declared.trees.Tree.{Tree}
use Rattle.mu_tree.specs.declared.trees.Tree.TheOpen.{Tree-F, App, Meta, Bind}
use Rattle.mu_tree.specs.declared.trees.Tree.TheFolds.{fold-Tree}

-- the greatest of some depths, 0 where there are none
abbrev pub deepest : List ℕ → ℕ
deepest = fold max 0

-- one for each node
abbrev pub size_step : Tree-F ℕ → ℕ
size_step (App name sizes) = sum sizes + 1
size_step (Meta name sizes) = sum sizes + 1
size_step (Bind binder var dom body) = dom + body + 1

-- how many nodes a tree has
abbrev pub size : Tree → ℕ
size = fold-Tree ℕ size_step

-- one more than the deepest child
abbrev pub depth_step : Tree-F ℕ → ℕ
depth_step (App name depths) = deepest depths + 1
depth_step (Meta name depths) = deepest depths + 1
depth_step (Bind binder var dom body) = max dom body + 1

-- how many nodes the longest way down has
abbrev pub depth : Tree → ℕ
depth = fold-Tree ℕ depth_step

-- some lists of names, one after another
abbrev pub joined : List (List (List ℕ)) → List (List ℕ)
joined = flat_map (λ names. names)

-- a node's names before those of its children
abbrev pub occurrences_step : Tree-F (List (List ℕ)) → List (List ℕ)
occurrences_step (App name rest) = name ∷ joined rest
occurrences_step (Meta name rest) = joined rest
occurrences_step (Bind binder var dom body) = binder ∷ var ∷ dom ++ body

-- the names of applications, binders and bound variables, from left to right
abbrev pub occurrences : Tree → List (List ℕ)
occurrences = fold-Tree (List (List ℕ)) occurrences_step

-- a name at the end, unless it is there
abbrev pub add_name : List (List ℕ) → List ℕ → List (List ℕ)
add_name known name = cond (is_among known name) known (known ++ name ∷ [])

-- the names of a tree in order of first occurrence, without repeats
abbrev pub names : Tree → List (List ℕ)
names tree = fold add_name [] (occurrences tree)
