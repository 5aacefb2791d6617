-- The counts of a writing are those of its tree.
use Rattle.std.proofs.Common.{◌≡◌, ℕ, ◌+◌, max, List, [], ◌∷◌, refl, ap, sym, ◌∙◌, arith, map, sum}
use Rattle.std.specs.List.{fold}
use Rattle.mu_tree.specs.Trees.{size, size_step, depth, depth_step, deepest}
use Rattle.mu_tree.specs.declared.trees.Tree.{Tree}
use Rattle.mu_tree.specs.declared.trees.Tree.TheVariants as tree
use Rattle.mu_tree.specs.declared.trees.Tree.TheOpen.{App, Meta, Bind}
use Rattle.mu_tree.specs.declared.trees.Tree.TheFolds.{fold-roll-Tree}
use Rattle.mu_grammar.specs.declared.symbol.Word.{Word}
use Rattle.mu_grammar.specs.declared.symbol.Word.TheVariants as word
use Rattle.mu_grammar.specs.declared.symbol.Mark.TheVariants.{Not}
use Rattle.mu_grammar.specs.Ops.{constant_of}
use Rattle.mu_grammar.specs.Writings.{Writing, Writings, leaf, apply, bind, paren, neg, bin, one, more, made, tree_of, trees_of, nodes, nodes_of, deep, deep_of}

pub size-app : (name : List ℕ) (ts : List Tree) → size (tree.App name ts) ≡ sum (map size ts) + 1
size-app name ts = ap size (sym (tree.rolls-App name ts)) ∙ fold-roll-Tree ℕ size_step (App name ts)

pub size-meta : (name : List ℕ) (ts : List Tree) → size (tree.Meta name ts) ≡ sum (map size ts) + 1
size-meta name ts = ap size (sym (tree.rolls-Meta name ts)) ∙ fold-roll-Tree ℕ size_step (Meta name ts)

pub depth-app : (name : List ℕ) (ts : List Tree) → depth (tree.App name ts) ≡ deepest (map depth ts) + 1
depth-app name ts = ap depth (sym (tree.rolls-App name ts)) ∙ fold-roll-Tree ℕ depth_step (App name ts)

pub depth-meta : (name : List ℕ) (ts : List Tree) → depth (tree.Meta name ts) ≡ deepest (map depth ts) + 1
depth-meta name ts = ap depth (sym (tree.rolls-Meta name ts)) ∙ fold-roll-Tree ℕ depth_step (Meta name ts)

pub size-bind : (name v : List ℕ) (d b : Tree) → size (tree.Bind name v d b) ≡ size d + size b + 1
size-bind name v d b = ap size (sym (tree.rolls-Bind name v d b)) ∙ fold-roll-Tree ℕ size_step (Bind name v d b)

pub depth-bind : (name v : List ℕ) (d b : Tree) → depth (tree.Bind name v d b) ≡ max (depth d) (depth b) + 1
depth-bind name v d b = ap depth (sym (tree.rolls-Bind name v d b)) ∙ fold-roll-Tree ℕ depth_step (Bind name v d b)

size-made : (head : Word) (name : List ℕ) (ts : List Tree) → size (made head name ts) ≡ sum (map size ts) + 1
size-made word.Meta name ts = size-meta name ts
size-made word.Plain name ts = size-app name ts
size-made word.Dotted name ts = size-app name ts
size-made word.True name ts = size-app name ts
size-made word.Place name ts = size-app name ts

depth-made : (head : Word) (name : List ℕ) (ts : List Tree) → depth (made head name ts) ≡ deepest (map depth ts) + 1
depth-made word.Meta name ts = depth-meta name ts
depth-made word.Plain name ts = depth-app name ts
depth-made word.Dotted name ts = depth-app name ts
depth-made word.True name ts = depth-app name ts
depth-made word.Place name ts = depth-app name ts

sum_from : (a : ℕ) (ns : List ℕ) → fold ◌+◌ a ns ≡ a + sum ns
sum_from a [] = omega arith
sum_from a (n ∷ ns) = let i = sum_from (a + n) ns in let j = sum_from (0 + n) ns in omega arith

sum-more : (n : ℕ) (ns : List ℕ) → sum (n ∷ ns) ≡ n + sum ns
sum-more n ns = let i = sum_from (0 + n) ns in omega arith

max_from : (a : ℕ) (ds : List ℕ) → fold max a ds ≡ max a (deepest ds)
max_from a [] = grind arith
max_from a (d ∷ ds) = let i = max_from (max a d) ds in let j = max_from (max 0 d) ds in grind arith

pub deepest-more : (d : ℕ) (ds : List ℕ) → deepest (d ∷ ds) ≡ max d (deepest ds)
deepest-more d ds = let i = max_from (max 0 d) ds in grind arith

mutual
  pub size-tree : (w : Writing) → size (tree_of w) ≡ nodes w
  size-tree (leaf head name) = size-made head name [] ∙ omega arith
  size-tree (apply head name ws) = size-made head name (trees_of ws) ∙ ap (λ n. n + 1) (size-trees ws)
  size-tree (bind head name v d b) = size-bind name v (tree_of d) (tree_of b) ∙ (let i = size-tree d in let j = size-tree b in omega arith)
  size-tree (paren w) = size-tree w
  size-tree (neg w) = size-app (constant_of Not) (tree_of w ∷ []) ∙ (let i = size-tree w in let s = sum-more (size (tree_of w)) [] in omega arith)
  size-tree (bin item o a b) =
      size-app (constant_of o.mark) (tree_of a ∷ tree_of b ∷ [])
      ∙ (let i = size-tree a in let j = size-tree b in let s = sum-more (size (tree_of a)) (size (tree_of b) ∷ []) in let t = sum-more (size (tree_of b)) [] in omega arith)

  pub size-trees : (ws : Writings) → sum (map size (trees_of ws)) ≡ nodes_of ws
  size-trees (one w) = sum-more (size (tree_of w)) [] ∙ (let i = size-tree w in omega arith)
  size-trees (more w ws) = sum-more (size (tree_of w)) (map size (trees_of ws)) ∙ (let i = size-tree w in let j = size-trees ws in omega arith)

mutual
  pub depth-tree : (w : Writing) → depth (tree_of w) ≡ deep w
  depth-tree (leaf head name) = depth-made head name [] ∙ refl
  depth-tree (apply head name ws) = depth-made head name (trees_of ws) ∙ ap (λ n. n + 1) (depth-trees ws)
  depth-tree (bind head name v d b) = depth-bind name v (tree_of d) (tree_of b) ∙ (let i = depth-tree d in let j = depth-tree b in grind arith)
  depth-tree (paren w) = depth-tree w
  depth-tree (neg w) = depth-app (constant_of Not) (tree_of w ∷ []) ∙ (let i = depth-tree w in let s = deepest-more (depth (tree_of w)) [] in grind arith)
  depth-tree (bin item o a b) =
      depth-app (constant_of o.mark) (tree_of a ∷ tree_of b ∷ [])
      ∙ (let i = depth-tree a in let j = depth-tree b in let s = deepest-more (depth (tree_of a)) (depth (tree_of b) ∷ []) in let t = deepest-more (depth (tree_of b)) [] in grind arith)

  pub depth-trees : (ws : Writings) → deepest (map depth (trees_of ws)) ≡ deep_of ws
  depth-trees (one w) = deepest-more (depth (tree_of w)) [] ∙ (let i = depth-tree w in grind arith)
  depth-trees (more w ws) = deepest-more (depth (tree_of w)) (map depth (trees_of ws)) ∙ (let i = depth-tree w in let j = depth-trees ws in grind arith)
