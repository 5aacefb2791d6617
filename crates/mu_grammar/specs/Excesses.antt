-- Which limits trees pass, and when the code's value is what the spelled one stands for.
use Rattle.std.specs.Prelude.{◌≡◌, Bool, false, ◌||◌, nat_lt, List, [], ◌∷◌, ◌++◌}
use Rattle.std.specs.List.{list_any}
use Rattle.mu_tree.specs.declared.trees.Tree.{Tree}
use Rattle.mu_grammar.specs.declared.excess.Excess.{Excess}
use Rattle.mu_grammar.specs.Writings.{Writing, nodes, deep, tree_of, Kept}

-- more nodes than a tree may have
abbrev pub is_large : Writing → Bool
is_large w = nat_lt 4096 (nodes w)

-- a longer way down than a tree may have
abbrev pub is_deep : Writing → Bool
is_deep w = nat_lt 200 (deep w)

-- which limits some of the trees pass
abbrev pub excess_of : List Writing → Excess
excess_of ws = record { nodes = list_any is_large ws; depth = list_any is_deep ws }

-- no limit is passed
abbrev pub no_excess : Excess
no_excess = record { nodes = false; depth = false }

-- the limits that were passed before, and those that these trees pass
abbrev pub raised : List Writing → Excess → Excess
raised [] e = e
raised (w ∷ ws) e = raised ws (record { nodes = e.nodes || is_large w; depth = e.depth || is_deep w })

-- the trees in each of the values, together
abbrev pub in_each : {A : Type 0} → (A → List Writing) → List A → List Writing
in_each trees [] = []
in_each trees (x ∷ xs) = trees x ++ in_each trees xs

-- the tree itself
abbrev pub one_tree : Writing → List Writing
one_tree w = w ∷ []

-- y stands for x, and the limits that the trees in x pass were raised
abbrev pub Raising : {A B : Type 0} → (A → B → Type 0) → (A → List Writing) → Excess → Excess → A → B → Type 0
Raising S trees before now x y = S x y × (now ≡ raised (trees x) before)

-- within its limits, a tree is the one that is written
abbrev pub StandsTree : Writing → Tree → Type 0
StandsTree w t = Kept w → t ≡ tree_of w
