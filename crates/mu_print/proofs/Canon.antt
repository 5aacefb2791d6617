-- The canonical writing of a tree stands for it, and fits.
use Rattle.std.proofs.Common.{◌≡◌, ℕ, ◌+◌, ◌-◌, ◌*◌, ◌<◌, ◌≤◌, max, Bool, true, false, cond, List, [], ◌∷◌, ◌&&◌, Option, Some, None, map, refl, ap, sym, ◌∙◌, subst, arith, nat_eq}
use Rattle.std.specs.Prelude.{if◌then◌else◌, nat_le}
use Rattle.std.specs.List.{AllByRecursion}
use Rattle.std.specs.Str.{bytes_eq}
use Rattle.std.proofs.lemmas.Bool.Decides.{nat_tests}
use Rattle.mu_tree.specs.declared.trees.Tree.{Tree}
use Rattle.mu_tree.specs.declared.trees.Tree.TheOpen.{App, Meta, Bind}
use Rattle.mu_tree.specs.declared.trees.Tree.TheFolds.{fold-Tree, fold-roll-Tree}
use Rattle.mu_tree.specs.declared.trees.Tree.TheVariants as tree
use Rattle.mu_tree.specs.Trees.{size, depth, deepest}
use Rattle.mu_grammar.specs.declared.ops.Op.{Op}
use Rattle.mu_grammar.specs.declared.symbol.Word.{Word}
use Rattle.mu_grammar.specs.declared.symbol.Word.TheVariants as head
use Rattle.mu_grammar.specs.declared.symbol.Mark.{Mark}
use Rattle.mu_grammar.specs.declared.symbol.Mark.TheVariants.{And, Or, Not, Iff, Imp, Eq, Colon}
use Rattle.mu_grammar.specs.Lexemes.{mark, name_word}
use Rattle.mu_grammar.specs.Ops.{binary, constant_of, is_negation, operator_at, operator_named, prefix_level, atom_level}
use Rattle.mu_grammar.specs.Writings.{Writing, Writings, leaf, apply, bind, paren, neg, bin, one, more, level, made, tree_of, trees_of, is_head, is_binder, Fits, FitsAll, tokens, IsTree, nodes, deep}
use Rattle.mu_grammar.proofs.Measures.{size-tree, depth-tree, depth-app, depth-meta, depth-bind, deepest-more}
use Rattle.mu_print.specs.Canonical.{at_least, together, headed, with_one, with_two, applied, canonical_step, canonical}
use Rattle.mu_tree.proofs.TreeInduction.{tree_ind}

pub canonical-app : (name : List ℕ) (ts : List Tree) → canonical (tree.App name ts) ≡ applied name (map canonical ts)
unfolding canonical
canonical-app name ts = ap (fold-Tree Writing canonical_step) (sym (tree.rolls-App name ts)) ∙ fold-roll-Tree Writing canonical_step (App name ts)

pub canonical-meta : (name : List ℕ) (ts : List Tree) → canonical (tree.Meta name ts) ≡ headed head.Meta name (map canonical ts)
unfolding canonical
canonical-meta name ts = ap (fold-Tree Writing canonical_step) (sym (tree.rolls-Meta name ts)) ∙ fold-roll-Tree Writing canonical_step (Meta name ts)

pub canonical-bind : (name v : List ℕ) (d b : Tree) → canonical (tree.Bind name v d b) ≡ bind (name_word name) name v (canonical d) (canonical b)
unfolding canonical
canonical-bind name v d b = ap (fold-Tree Writing canonical_step) (sym (tree.rolls-Bind name v d b)) ∙ fold-roll-Tree Writing canonical_step (Bind name v d b)

-- parentheses leave the tree as it is
same_tree : (least : ℕ) (w : Writing) → tree_of (at_least least w) ≡ tree_of w
same_tree least w = by (nat_le least (level w))
  where
    by : (b : Bool) → tree_of (if b then w else paren w) ≡ tree_of w
    by true = refl
    by false = refl

trees-together : (w : Writing) (ws : List Writing) → trees_of (together w ws) ≡ tree_of w ∷ map tree_of ws
trees-together w [] = refl
trees-together w (v ∷ vs) = ap (λ l. tree_of w ∷ l) (trees-together v vs)

-- what holds of each word that a name may be holds of a name's
name_one : (b c : Bool) (P : Word → Type 0) → P head.True → P head.Plain → P head.Dotted → P (if b then head.True else (if c then head.Plain else head.Dotted))
name_one true c P x y z = x
name_one false true P x y z = y
name_one false false P x y z = z

pub name_case : (name : List ℕ) (P : Word → Type 0) → P head.True → P head.Plain → P head.Dotted → P (name_word name)
name_case name P = name_one _ _ P

pub made_name : (name : List ℕ) (ts : List Tree) → made (name_word name) name ts ≡ tree.App name ts
made_name name ts = name_case name (λ w. made w name ts ≡ tree.App name ts) refl refl refl

pub name_head : (name : List ℕ) → is_head (name_word name) ≡ true
name_head name = name_case name (λ w. is_head w ≡ true) refl refl refl

pub name_binder : (name : List ℕ) → is_binder (name_word name) ≡ true
name_binder name = name_case name (λ w. is_binder w ≡ true) refl refl refl

-- texts that are tested equal
pub texts_same : (x y : List ℕ) → bytes_eq x y ≡ true → x ≡ y
texts_same [] [] e = refl
texts_same (a ∷ x) [] e = cc
texts_same [] (b ∷ y) e = cc
texts_same (a ∷ x) (b ∷ y) e = both (nat_eq a b) (bytes_eq x y) refl refl e (λ i. texts_same x y i)
  where
    both : (p q : Bool) → nat_eq a b ≡ p → bytes_eq x y ≡ q → (p && q) ≡ true → (bytes_eq x y ≡ true → x ≡ y) → a ∷ x ≡ b ∷ y
    both true true e f g h = let i : a ≡ b = grind (arith, nat_tests) in let j : x ≡ y = h f in cc
    both true false e f g h = cc
    both false q e f g h = cc

-- what is known of the operator that a constant stands for
pub record Row (name : List ℕ) (o : Op) : Type 0 where
  pub is_row : binary (mark o.mark) ≡ Some o
  pub constant : constant_of o.mark ≡ name
  pub left : o.left ≤ atom_level
  pub right : o.right ≤ atom_level
  pub opens : o.opens ≤ 1

this_row : (name : List ℕ) (x o : Op) → Row name x → Some x ≡ Some o → Row name o
this_row name x o row e = let same : x ≡ o = cc in subst (Row name) same row

pick_row : (sign : Mark) (b : Bool) (name : List ℕ) (others : Option Mark) → (b ≡ true → (o : Op) → operator_at (Some sign) ≡ Some o → Row name o) → ((o : Op) → operator_at others ≡ Some o → Row name o)
    → (o : Op) → operator_at (cond b (Some sign) others) ≡ Some o → Row name o
pick_row sign true name others here later o e = here refl o e
pick_row sign false name others here later o e = later o e

no_row : (name : List ℕ) (o : Op) → operator_at None ≡ Some o → Row name o
no_row name o e = cc

pub rows_of : (name : List ℕ) (o : Op) → operator_named name ≡ Some o → Row name o
rows_of name =
    pick_row Iff (bytes_eq (constant_of Iff) name) name _ (λ e o. this_row name _ o (record { is_row = refl; constant = texts_same (constant_of Iff) name e; left = omega arith; right = omega arith; opens = omega arith }))
    (pick_row Imp (bytes_eq (constant_of Imp) name) name _ (λ e o. this_row name _ o (record { is_row = refl; constant = texts_same (constant_of Imp) name e; left = omega arith; right = omega arith; opens = omega arith }))
    (pick_row Or (bytes_eq (constant_of Or) name) name _ (λ e o. this_row name _ o (record { is_row = refl; constant = texts_same (constant_of Or) name e; left = omega arith; right = omega arith; opens = omega arith }))
    (pick_row And (bytes_eq (constant_of And) name) name _ (λ e o. this_row name _ o (record { is_row = refl; constant = texts_same (constant_of And) name e; left = omega arith; right = omega arith; opens = omega arith }))
    (pick_row Eq (bytes_eq (constant_of Eq) name) name _ (λ e o. this_row name _ o (record { is_row = refl; constant = texts_same (constant_of Eq) name e; left = omega arith; right = omega arith; opens = omega arith }))
    (pick_row Colon (bytes_eq (constant_of Colon) name) name _ (λ e o. this_row name _ o (record { is_row = refl; constant = texts_same (constant_of Colon) name e; left = omega arith; right = omega arith; opens = omega arith }))
    (no_row name))))))

two_trees : (name : List ℕ) (a b : Writing) (r : Option Op) → ((o : Op) → r ≡ Some o → Row name o) → tree_of (with_two name a b r) ≡ tree.App name (tree_of a ∷ tree_of b ∷ [])
two_trees name a b None h = made_name name (tree_of a ∷ tree_of b ∷ [])
two_trees name a b (Some o) h =
    let r : Row name o = h o refl in
    ap (λ k. tree.App k (tree_of (at_least o.left a) ∷ tree_of (at_least o.right b) ∷ [])) r.constant
    ∙ (ap (λ t. tree.App name (t ∷ tree_of (at_least o.right b) ∷ [])) (same_tree o.left a) ∙ ap (λ t. tree.App name (tree_of a ∷ t ∷ [])) (same_tree o.right b))

one_tree : (name : List ℕ) (a : Writing) (b : Bool) → is_negation name ≡ b → tree_of (with_one name a b) ≡ tree.App name (tree_of a ∷ [])
one_tree name a true e = ap (λ t. tree.App (constant_of Not) (t ∷ [])) (same_tree prefix_level a) ∙ ap (λ k. tree.App k (tree_of a ∷ [])) (texts_same (constant_of Not) name e)
one_tree name a false e = made_name name (tree_of a ∷ [])

tree-headed : (w : Word) (name : List ℕ) (ws : List Writing) → tree_of (headed w name ws) ≡ made w name (map tree_of ws)
tree-headed w name [] = refl
tree-headed w name (a ∷ ws) = ap (made w name) (trees-together a ws)

tree-applied : (name : List ℕ) (ws : List Writing) → tree_of (applied name ws) ≡ tree.App name (map tree_of ws)
tree-applied name [] = made_name name []
tree-applied name (a ∷ []) = one_tree name a (is_negation name) refl
tree-applied name (a ∷ b ∷ []) = two_trees name a b (operator_named name) (rows_of name)
tree-applied name (a ∷ b ∷ c ∷ ws) = tree-headed (name_word name) name (a ∷ b ∷ c ∷ ws) ∙ made_name name (tree_of a ∷ tree_of b ∷ tree_of c ∷ map tree_of ws)

again : (ts : List Tree) → AllByRecursion (λ t. tree_of (canonical t) ≡ t) ts → map tree_of (map canonical ts) ≡ ts
again [] h = refl
again (t ∷ ts) h = ap (λ u. u ∷ map tree_of (map canonical ts)) h.0 ∙ ap (λ l. t ∷ l) (again ts h.1)

-- the canonical writing is one of the tree
pub tree-canonical : (t : Tree) → tree_of (canonical t) ≡ t
tree-canonical =
    tree_ind (λ t. tree_of (canonical t) ≡ t)
    (λ name ts h. ap tree_of (canonical-app name ts) ∙ (tree-applied name (map canonical ts) ∙ ap (tree.App name) (again ts h)))
    (λ name ts h. ap tree_of (canonical-meta name ts) ∙ (tree-headed head.Meta name (map canonical ts) ∙ ap (tree.Meta name) (again ts h)))
    (λ name v d b h i. ap tree_of (canonical-bind name v d b) ∙ (made_bind name v (canonical d) (canonical b) ∙ (ap (λ t. tree.Bind name v t (tree_of (canonical b))) h ∙ ap (tree.Bind name v d) i)))
  where
    made_bind : (name v : List ℕ) (d b : Writing) → tree_of (bind (name_word name) name v d b) ≡ tree.Bind name v (tree_of d) (tree_of b)
    made_bind name v d b = refl

-- it has as many nodes as the tree
pub nodes-canonical : (t : Tree) → nodes (canonical t) ≡ size t
nodes-canonical t = sym (size-tree (canonical t)) ∙ ap size (tree-canonical t)

-- and as long a longest way down
pub deep-canonical : (t : Tree) → deep (canonical t) ≡ depth t
deep-canonical t = sym (depth-tree (canonical t)) ∙ ap depth (tree-canonical t)

-- what fits fits where more levels may be open
mutual
  pub Fits-more : (w : Writing) (n m : ℕ) → n ≤ m → Fits n w → Fits m w
  Fits-more (leaf w name) n m h f = f
  Fits-more (apply w name ws) n m h f = (f.0, (let i : 0 < n = f.1 in omega arith), FitsAll-more ws (n - 1) (m - 1) (omega arith) f.2)
  Fits-more (bind w name v d b) n m h f = (f.0, (let i : 0 < n = f.1 in omega arith), Fits-more d (n - 1) (m - 1) (omega arith) f.2, Fits-more b (n - 1) (m - 1) (omega arith) f.3)
  Fits-more (paren w) n m h f = (omega arith, Fits-more w (n - 1) (m - 1) (omega arith) f.1)
  Fits-more (neg w) n m h f = (omega arith, f.1, Fits-more w (n - 1) (m - 1) (omega arith) f.2)
  Fits-more (bin item o a b) n m h f = (f.0, f.1, Fits-more a n m h f.2, (let i : o.opens ≤ n = f.3 in omega arith), f.4, Fits-more b (n - o.opens) (m - o.opens) (omega arith) f.5)

  pub FitsAll-more : (ws : Writings) (n m : ℕ) → n ≤ m → FitsAll n ws → FitsAll m ws
  FitsAll-more (one w) n m h f = Fits-more w n m h f
  FitsAll-more (more w ws) n m h f = (Fits-more w n m h f.0, FitsAll-more ws n m h f.1)

abbrev Lifted : ℕ → ℕ → Writing → Type 0
Lifted least n w = Fits n w × (least ≤ level w)

at_least_fits : (least k n : ℕ) (w : Writing) → k + 1 ≤ n → least ≤ atom_level → Fits k w → Lifted least n (at_least least w)
at_least_fits least k n w h i f = by (nat_le least (level w)) refl
  where
    by : (b : Bool) → nat_le least (level w) ≡ b → Lifted least n (if b then w else paren w)
    by true e = (Fits-more w k n (omega arith) f, grind (arith, nat_tests))
    by false e = ((omega arith, Fits-more w k (n - 1) (omega arith) f), i)

abbrev Each : ℕ → List Writing → Type 0
Each k [] = Unit {0}
Each k (w ∷ ws) = Fits k w × Each k ws

together_fits : (k n : ℕ) (w : Writing) (ws : List Writing) → k ≤ n → Fits k w → Each k ws → FitsAll n (together w ws)
together_fits k n w [] h f g = Fits-more w k n h f
together_fits k n w (v ∷ vs) h f g = (Fits-more w k n h f, together_fits k n v vs h g.0 g.1)

two_fit : (k : ℕ) (name : List ℕ) (a b : Writing) (r : Option Op) → ((o : Op) → r ≡ Some o → Row name o) → Fits k a → Fits k b → Fits (k + 2) (with_two name a b r)
two_fit k name a b None h f g = (name_head name, omega arith, (Fits-more a k (k + 2 - 1) (omega arith) f, Fits-more b k (k + 2 - 1) (omega arith) g))
two_fit k name a b (Some o) h f g =
    let w : Row name o = h o refl in
    let i : o.opens ≤ 1 = w.opens in
    let p : Lifted o.left (k + 2) (at_least o.left a) = at_least_fits o.left k (k + 2) a (omega arith) w.left f in
    let q : Lifted o.right (k + 2 - o.opens) (at_least o.right b) = at_least_fits o.right k (k + 2 - o.opens) b (omega arith) w.right g in
    (w.is_row, p.1, p.0, omega arith, q.1, q.0)

one_fits : (k : ℕ) (name : List ℕ) (a : Writing) (b : Bool) → Fits k a → Fits (k + 2) (with_one name a b)
one_fits k name a true f =
    let p : Lifted prefix_level (k + 2 - 1) (at_least prefix_level a) = at_least_fits prefix_level k (k + 2 - 1) a (omega arith) (omega arith) f in
    (omega arith, p.1, p.0)
one_fits k name a false f = (name_head name, omega arith, Fits-more a k (k + 2 - 1) (omega arith) f)

headed_fits : (k : ℕ) (w : Word) (name : List ℕ) (ws : List Writing) → is_head w ≡ true → Each k ws → Fits (k + 2) (headed w name ws)
headed_fits k w name [] h f = h
headed_fits k w name (a ∷ ws) h f = (h, omega arith, together_fits k (k + 2 - 1) a ws (omega arith) f.0 f.1)

applied_fits : (k : ℕ) (name : List ℕ) (ws : List Writing) → Each k ws → Fits (k + 2) (applied name ws)
applied_fits k name [] f = name_head name
applied_fits k name (a ∷ []) f = one_fits k name a (is_negation name) f.0
applied_fits k name (a ∷ b ∷ []) f = two_fit k name a b (operator_named name) (rows_of name) f.0 f.1.0
applied_fits k name (a ∷ b ∷ c ∷ ws) f = headed_fits k (name_word name) name (a ∷ b ∷ c ∷ ws) (name_head name) f

each_fits : (ts : List Tree) (k : ℕ) → 2 * deepest (map depth ts) ≤ k → AllByRecursion (λ t. Fits (2 * depth t) (canonical t)) ts → Each k (map canonical ts)
each_fits [] k h f = tt
each_fits (t ∷ ts) k h f =
    let e : deepest (depth t ∷ map depth ts) ≡ max (depth t) (deepest (map depth ts)) = deepest-more (depth t) (map depth ts) in
    let i : 2 * depth t ≤ k = grind arith in
    let j : 2 * deepest (map depth ts) ≤ k = grind arith in
    (Fits-more (canonical t) (2 * depth t) k i f.0, each_fits ts k j f.1)

-- two levels of nesting for each level of the tree are enough
pub canonical_fits : (t : Tree) → Fits (2 * depth t) (canonical t)
canonical_fits =
    tree_ind (λ t. Fits (2 * depth t) (canonical t))
    (λ name ts h.
    let k : ℕ = 2 * deepest (map depth ts) in
    at (tree.App name ts) k (applied name (map canonical ts)) (let e : depth (tree.App name ts) ≡ deepest (map depth ts) + 1 = depth-app name ts in omega arith) (canonical-app name ts)
    (applied_fits k name (map canonical ts) (each_fits ts k (omega arith) h)))
    (λ name ts h.
    let k : ℕ = 2 * deepest (map depth ts) in
    at (tree.Meta name ts) k (headed head.Meta name (map canonical ts)) (let e : depth (tree.Meta name ts) ≡ deepest (map depth ts) + 1 = depth-meta name ts in omega arith) (canonical-meta name ts)
    (headed_fits k head.Meta name (map canonical ts) refl (each_fits ts k (omega arith) h)))
    (λ name v d b h i.
    let k : ℕ = 2 * max (depth d) (depth b) in
    let p : depth d ≤ max (depth d) (depth b) = grind (arith) in
    let q : depth b ≤ max (depth d) (depth b) = grind (arith) in
    at (tree.Bind name v d b) k (bind (name_word name) name v (canonical d) (canonical b)) (let e : depth (tree.Bind name v d b) ≡ max (depth d) (depth b) + 1 = depth-bind name v d b in omega arith) (canonical-bind name v d b)
    (name_binder name, omega arith, Fits-more (canonical d) (2 * depth d) (k + 2 - 1) (omega arith) h, Fits-more (canonical b) (2 * depth b) (k + 2 - 1) (omega arith) i))
  where
    at : (t : Tree) (k : ℕ) (w : Writing) → 2 * depth t ≡ k + 2 → canonical t ≡ w → Fits (k + 2) w → Fits (2 * depth t) (canonical t)
    at t k w e f g = subst (λ (i : ℕ). Fits i (canonical t)) (sym e) (subst (λ (v : Writing). Fits (k + 2) v) (sym f) g)

-- 400 levels are enough where the tree has at most 200
pub canonical_is_tree : (t : Tree) → depth t ≤ 200 → IsTree 400 (tokens (canonical t)) (canonical t)
canonical_is_tree t h = (Fits-more (canonical t) (2 * depth t) 400 (omega arith) (canonical_fits t), refl)
