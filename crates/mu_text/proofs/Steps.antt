-- One step of the machine, by the token that comes first.
use Rattle.std.proofs.Common.{◌≡◌, ℕ, ◌+◌, ◌-◌, ◌<◌, ◌≤◌, max, List, [], ◌∷◌, ◌++◌, length, Option, Some, None, Bool, true, false, ◌&&◌, refl, ap, sym, ◌∙◌, subst, append_assoc, arith}
use Rattle.std.specs.Prelude.{nat_le}
use Rattle.mu_tree.specs.Names.{IsName}
use Rattle.mu_tree.specs.declared.trees.Tree.{Tree}
use Rattle.mu_tree.specs.declared.trees.Tree.TheVariants as tree
use Rattle.mu_grammar.specs.declared.symbol.Word.{Word}
use Rattle.mu_grammar.specs.declared.symbol.Word.TheVariants.{Plain, Dotted, True, Meta, Place}
use Rattle.mu_grammar.specs.declared.symbol.Mark.{Mark}
use Rattle.mu_grammar.specs.declared.symbol.Mark.TheVariants.{And, Or, Not, Iff, Imp, Eq, Colon, Open, Close, OpenBracket, CloseBracket, OpenBrace, CloseBrace, Comma, Semicolon, Dot, Becomes, Bar, Turnstile, Arrow, Wrong}
use Rattle.mu_grammar.specs.declared.way.Beginning.TheVariants as begins
use Rattle.mu_grammar.specs.declared.way.Opening.TheVariants as opens
use Rattle.mu_grammar.specs.declared.way.Ending.TheVariants as ends
use Rattle.mu_grammar.specs.declared.ops.Op.{Op}
use Rattle.mu_text.specs.declared.operand.Operand.{Operand}
use Rattle.mu_text.specs.declared.operand.Several.{Several}
use Rattle.mu_grammar.specs.Lexemes.{Lexeme, word, mark, bytes_of, sort_of, first_sort, first_bytes, after_first}
use Rattle.mu_grammar.specs.Ops.{binary, constant_of, prefix_level}
use Rattle.mu_grammar.specs.Writings.{Writing, Writings, leaf, apply, bind, paren, neg, bin, one, more, level, made, nodes, nodes_of, deep, deep_of, Short, ShortAll, tree_of, trees_of}
use Rattle.mu_grammar.specs.Parts.{stopped}
use Rattle.mu_grammar.specs.Machine.{Stack, right, negated, inside, given, domain, body, fill, want, named, binding, typing, have, Next, stop, step, after, after_name, close, close_given, run, ending, begin, beginning_of, opening_of, ending_of}
use Rattle.std.specs.Prelude.{Result, Ok, Err}
use Rattle.mu_grammar.specs.declared.fault.PartFault.{PartFault}
use Rattle.mu_grammar.specs.declared.fault.PartFault.TheVariants.{Mismatch, NoMemory}
use Rattle.mu_text.specs.Reads.{capped, Stands, StandsAll, Built, Enclosing, Added, Goes, Gives, Ends, OperatorFirst, Reads, Stops, Expects, ExpectsVar}
use Rattle.mu_text.proofs.Complete.{run_go, run_same, opened, leb_yes, taken, arguments_run, binder_run, ends_run, goes_on_run}
use Rattle.mu_text.proofs.Viable.{le_from, at_paren, at_not, at_comma}

-- the writings before, the last one first
abbrev pub back_nodes : List Writing → ℕ
back_nodes [] = 0
back_nodes (w ∷ vs) = back_nodes vs + nodes w

abbrev pub back_deep : List Writing → ℕ
back_deep [] = 0
back_deep (w ∷ vs) = max (back_deep vs) (deep w)

abbrev pub ShortBack : List Writing → Type 0
ShortBack [] = Unit {0}
ShortBack (w ∷ vs) = ShortBack vs × Short w

abbrev pub trees_back : List Writing → List Tree
trees_back [] = []
trees_back (w ∷ vs) = trees_back vs ++ (tree_of w ∷ [])

pub record StandsBack (vs : List Writing) (o : Several) : Type 0 where
  pub size_is : o.size ≡ capped (back_nodes vs)
  pub depth_is : o.depth ≡ capped (back_deep vs)
  pub trees_are : ShortBack vs → back_nodes vs ≤ 4096 → back_deep vs ≤ 200 → trees_back vs ≡ o.trees

-- what the first token is, by what it does
pub first_is : (ts : List Lexeme) (T : Lexeme) → first_sort ts ≡ Some (sort_of T) → (S : Lexeme) × (ts ≡ S ∷ after_first ts) × (sort_of S ≡ sort_of T)
first_is [] T e = cc
first_is (S ∷ r) T e = (S, refl, cc)

pub first_paren : (ts : List Lexeme) → beginning_of (first_sort ts) ≡ begins.Paren → ts ≡ mark Open ∷ after_first ts
first_paren [] e = cc
first_paren (T ∷ r) e = ap (λ S. S ∷ r) (at_paren T e)

pub first_not : (ts : List Lexeme) → beginning_of (first_sort ts) ≡ begins.Negation → ts ≡ mark Not ∷ after_first ts
first_not [] e = cc
first_not (T ∷ r) e = ap (λ S. S ∷ r) (at_not T e)

-- the counts of a made tree
add_capped : (a b x y : ℕ) → x ≡ capped a → y ≡ capped b → capped (x + y + 1) ≡ capped (a + b + 1)
add_capped a b x y e f = grind (arith)

max_capped : (a b x y : ℕ) → x ≡ capped a → y ≡ capped b → capped (max x y + 1) ≡ capped (max a b + 1)
max_capped a b x y e f = grind (arith)

next_capped : (a x : ℕ) → x ≡ capped a → capped (x + 1) ≡ capped (a + 1)
next_capped a x e = grind (arith)

below : (a x h : ℕ) → x ≡ capped a → a ≤ h → h ≤ 4096 → x ≤ h
below a x h e f g = grind (arith)

sums_at : (a b x y h : ℕ) → x ≡ capped a → y ≡ capped b → a + b ≤ h → h ≤ 4096 → x + y ≤ h
sums_at a b x y h e f g i = grind (arith)

sums : (a b x y : ℕ) → x ≡ capped a → y ≡ capped b → a + b + 1 ≤ 4096 → x + y + 1 ≤ 4096
sums a b x y e f g = let i : x + y ≤ 4095 = sums_at a b x y 4095 e f (omega arith) (omega arith) in omega arith

depths : (a b x y : ℕ) → x ≡ capped a → y ≡ capped b → max a b + 1 ≤ 200 → max x y + 1 ≤ 200
depths a b x y e f g = grind (arith)

adds : (a b x y : ℕ) → x ≡ capped a → y ≡ capped b → capped (x + y) ≡ capped (a + b)
adds a b x y e f = grind (arith)

maxes : (a b x y : ℕ) → x ≡ capped a → y ≡ capped b → capped (max x y) ≡ capped (max a b)
maxes a b x y e f = grind (arith)

max_assoc : (a b c : ℕ) → max a (max b c) ≡ max (max a b) c
max_assoc a b c = grind (arith)

stands_leaf : (s : Word) (x n : List ℕ) (o : Operand) → (IsName x → n ≡ x) → Built (made s n []) 7 1 1 o → Stands (leaf s x) o
stands_leaf s x n o f b = record {
  level_is = sym b.level_is;
  size_is = b.size_is;
  depth_is = b.depth_is;
  tree_is = λ k. ap (λ y. made s y []) (sym (f k.0)) ∙ sym (b.tree_is (omega arith) (omega arith));
}

stands_paren : (w : Writing) (o p : Operand) → Stands w o → Enclosing o p → Stands (paren w) p
stands_paren w o p s e = record { level_is = sym e.level_is; size_is = e.size_is ∙ s.size_is; depth_is = e.depth_is ∙ s.depth_is; tree_is = λ k. s.tree_is k ∙ sym e.tree_is }

pub stands_neg : (w : Writing) (o made_of : Operand) (n : List ℕ) → Stands w o → n ≡ constant_of Not → Built (tree.App n (o.tree ∷ [])) 5 (o.size + 1) (o.depth + 1) made_of → Stands (neg w) made_of
stands_neg w o p n s e b = record {
  level_is = sym b.level_is;
  size_is = b.size_is ∙ next_capped (nodes w) o.size s.size_is;
  depth_is = b.depth_is ∙ next_capped (deep w) o.depth s.depth_is;
  tree_is = λ k.
      let i : nodes w + 1 ≤ 4096 = k.1 in
      let j : deep w + 1 ≤ 200 = k.2 in
      let t : tree_of w ≡ o.tree = s.tree_is (k.0, omega arith, omega arith) in
      let x : o.size ≤ 4095 = below (nodes w) o.size 4095 s.size_is (omega arith) (omega arith) in
      let y : o.depth ≤ 199 = below (deep w) o.depth 199 s.depth_is (omega arith) (omega arith) in
      ap (λ u. tree.App (constant_of Not) (u ∷ [])) t ∙ (ap (λ c. tree.App c (o.tree ∷ [])) (sym e) ∙ sym (b.tree_is (omega arith) (omega arith)));
}

pub stands_bin : (S : Lexeme) (op : Op) (a b : Writing) (o p r : Operand) (n : List ℕ) → Stands a o → Stands b p → (IsName (constant_of op.mark) → n ≡ constant_of op.mark) → IsName (constant_of op.mark)
    → Built (tree.App n (o.tree ∷ p.tree ∷ [])) op.level (o.size + p.size + 1) (max o.depth p.depth + 1) r → Stands (bin S op a b) r
stands_bin S op a b o p r n s t f kept c = record {
  level_is = sym c.level_is;
  size_is = c.size_is ∙ add_capped (nodes a) (nodes b) o.size p.size s.size_is t.size_is;
  depth_is = c.depth_is ∙ max_capped (deep a) (deep b) o.depth p.depth s.depth_is t.depth_is;
  tree_is = λ k.
      let i : nodes a + nodes b + 1 ≤ 4096 = k.1 in
      let j : max (deep a) (deep b) + 1 ≤ 200 = k.2 in
      let e : tree_of a ≡ o.tree = s.tree_is (k.0.0, omega arith, grind (arith)) in
      let g : tree_of b ≡ p.tree = t.tree_is (k.0.1, omega arith, grind (arith)) in
      let x : o.size + p.size + 1 ≤ 4096 = sums (nodes a) (nodes b) o.size p.size s.size_is t.size_is i in
      let y : max o.depth p.depth + 1 ≤ 200 = depths (deep a) (deep b) o.depth p.depth s.depth_is t.depth_is j in
      ap (λ u. tree.App (constant_of op.mark) (u ∷ tree_of b ∷ [])) e ∙ (ap (λ u. tree.App (constant_of op.mark) (o.tree ∷ u ∷ [])) g
      ∙ (ap (λ d. tree.App d (o.tree ∷ p.tree ∷ [])) (sym (f kept)) ∙ sym (c.tree_is x y)));
}

pub stands_bind : (s : Word) (x v m u : List ℕ) (a b : Writing) (o p r : Operand) → Stands a o → Stands b p → (IsName x → m ≡ x) → (IsName v → u ≡ v)
    → Built (tree.Bind m u o.tree p.tree) 7 (o.size + p.size + 1) (max o.depth p.depth + 1) r → Stands (bind s x v a b) r
stands_bind s x v m u a b o p r h t f g c = record {
  level_is = sym c.level_is;
  size_is = c.size_is ∙ add_capped (nodes a) (nodes b) o.size p.size h.size_is t.size_is;
  depth_is = c.depth_is ∙ max_capped (deep a) (deep b) o.depth p.depth h.depth_is t.depth_is;
  tree_is = λ k.
      let i : nodes a + nodes b + 1 ≤ 4096 = k.1 in
      let j : max (deep a) (deep b) + 1 ≤ 200 = k.2 in
      let e : tree_of a ≡ o.tree = h.tree_is (k.0.2, omega arith, grind (arith)) in
      let d : tree_of b ≡ p.tree = t.tree_is (k.0.3, omega arith, grind (arith)) in
      let y : o.size + p.size + 1 ≤ 4096 = sums (nodes a) (nodes b) o.size p.size h.size_is t.size_is i in
      let z : max o.depth p.depth + 1 ≤ 200 = depths (deep a) (deep b) o.depth p.depth h.depth_is t.depth_is j in
      ap (λ w. tree.Bind x v w (tree_of b)) e ∙ (ap (λ w. tree.Bind x v o.tree w) d
      ∙ (ap (λ w. tree.Bind w v o.tree p.tree) (sym (f k.0.0)) ∙ (ap (λ w. tree.Bind m w o.tree p.tree) (sym (g k.0.1)) ∙ sym (c.tree_is y z))));
}

pub stands_apply : (s : Word) (x n : List ℕ) (ws : Writings) (o : Several) (r : Operand) → StandsAll ws o → (IsName x → n ≡ x)
    → Built (made s n o.trees) 7 (o.size + 1) (o.depth + 1) r → Stands (apply s x ws) r
stands_apply s x n ws o r h f c = record {
  level_is = sym c.level_is;
  size_is = c.size_is ∙ next_capped (nodes_of ws) o.size h.size_is;
  depth_is = c.depth_is ∙ next_capped (deep_of ws) o.depth h.depth_is;
  tree_is = λ k.
      let i : nodes_of ws + 1 ≤ 4096 = k.1 in
      let j : deep_of ws + 1 ≤ 200 = k.2 in
      let e : trees_of ws ≡ o.trees = h.trees_are (k.0.1, omega arith, omega arith) in
      let y : o.size ≤ 4095 = below (nodes_of ws) o.size 4095 h.size_is (omega arith) (omega arith) in
      let z : o.depth ≤ 199 = below (deep_of ws) o.depth 199 h.depth_is (omega arith) (omega arith) in
      ap (made s x) e ∙ (ap (λ w. made s w o.trees) (sym (f k.0.0)) ∙ sym (c.tree_is (omega arith) (omega arith)));
}

pub stands_more : (vs : List Writing) (w : Writing) (o p : Several) (t : Operand) → StandsBack vs o → Stands w t → Added o t p → StandsBack (w ∷ vs) p
stands_more vs w o p t h s a = record {
  size_is = a.size_is ∙ adds (back_nodes vs) (nodes w) o.size t.size h.size_is s.size_is;
  depth_is = a.depth_is ∙ maxes (back_deep vs) (deep w) o.depth t.depth h.depth_is s.depth_is;
  trees_are = λ k i j.
      let e : trees_back vs ≡ o.trees = h.trees_are k.0 (omega arith) (grind (arith)) in
      let f : tree_of w ≡ t.tree = s.tree_is (k.1, omega arith, grind (arith)) in
      let y : o.size + t.size ≤ 4096 = sums_at (back_nodes vs) (nodes w) o.size t.size 4096 h.size_is s.size_is i (omega arith) in
      ap (λ us. us ++ (tree_of w ∷ [])) e ∙ (ap (λ u. o.trees ++ (u ∷ [])) f ∙ sym (a.trees_are y));
}

nodes-fill : (vs : List Writing) (ws : Writings) → nodes_of (fill vs ws) ≡ back_nodes vs + nodes_of ws
nodes-fill [] ws = omega arith
nodes-fill (v ∷ vs) ws = nodes-fill vs (more v ws) ∙ omega arith

deep-fill : (vs : List Writing) (ws : Writings) → deep_of (fill vs ws) ≡ max (back_deep vs) (deep_of ws)
deep-fill [] ws = grind (arith)
deep-fill (v ∷ vs) ws = deep-fill vs (more v ws) ∙ max_assoc (back_deep vs) (deep v) (deep_of ws)

short-fill : (vs : List Writing) (ws : Writings) → ShortAll (fill vs ws) → ShortBack vs × ShortAll ws
short-fill [] ws h = (tt, h)
short-fill (v ∷ vs) ws h = let i : ShortBack vs × ShortAll (more v ws) = short-fill vs (more v ws) h in ((i.0, i.1.0), i.1.1)

pub trees-fill : (vs : List Writing) (ws : Writings) → trees_of (fill vs ws) ≡ trees_back vs ++ trees_of ws
trees-fill [] ws = refl
trees-fill (v ∷ vs) ws = trees-fill vs (more v ws) ∙ simp append_assoc

pub stands_all : (vs : List Writing) (w : Writing) (o : Several) → StandsBack (w ∷ vs) o → StandsAll (fill vs (one w)) o
stands_all vs w o h = record {
  size_is = h.size_is ∙ ap capped (sym (nodes-fill vs (one w)));
  depth_is = h.depth_is ∙ ap capped (sym (deep-fill vs (one w)));
  trees_are = λ k.
      let s : ShortBack vs × Short w = short-fill vs (one w) k.0 in
      trees-fill vs (one w) ∙ h.trees_are (s.0, s.1) (subst (λ (i : ℕ). i ≤ 4096) (nodes-fill vs (one w)) k.1) (subst (λ (i : ℕ). i ≤ 200) (deep-fill vs (one w)) k.2);
}

both_no : (m i l j : ℕ) → (m ≤ i → j ≤ l → ⊥) → (nat_le m i && nat_le j l) ≡ false
both_no m i l j h = split (nat_le m i) (nat_le j l) (λ e f. h (le_from m i e) (le_from j l f))
  where
    split : (a b : Bool) → (a ≡ true → b ≡ true → ⊥) → (a && b) ≡ false
    split true true g = absurd (g refl refl)
    split true false g = refl
    split false b g = refl

pub not_offered : (n m : ℕ) (w : Writing) (k : Stack) (T : Lexeme) (other : Next) (o : Option Op) → ((p : Op) → o ≡ Some p → m ≤ p.level → p.left ≤ level w → ⊥) → after n m w k T other o ≡ other
not_offered n m w k T other None h = refl
not_offered n m w k T other (Some p) h = rw (both_no m p.level (level w) p.left (h p refl)) refl

-- a tree after which nothing goes on at the level m is handed to what waits for it
pub ends_right : (S : Lexeme) (o : Op) (a b : Writing) (n m n' : ℕ) (k : Stack) (r : List Lexeme) → Ends o.right (level b) r
    → run (have n' o.right b (right S o a n m k)) r ≡ run (have n m (bin S o a b) k) r
ends_right S o a b n m n' k [] h = refl
ends_right S o a b n m n' k (T ∷ r) h =
    run_same (have n' o.right b (right S o a n m k)) (have n m (bin S o a b) k) T r
    (not_offered n' o.right b (right S o a n m k) T (close (right S o a n m k) b T) (binary T) h)

pub ends_negated : (b : Writing) (n m n' : ℕ) (k : Stack) (r : List Lexeme) → Ends prefix_level (level b) r
    → run (have n' prefix_level b (negated n m k)) r ≡ run (have n m (neg b) k) r
ends_negated b n m n' k [] h = refl
ends_negated b n m n' k (T ∷ r) h =
    run_same (have n' prefix_level b (negated n m k)) (have n m (neg b) k) T r
    (not_offered n' prefix_level b (negated n m k) T (close (negated n m k) b T) (binary T) h)

ends_level : (m l : ℕ) (w : Writing) (r : List Lexeme) → level w ≡ l → Ends m l r → Ends m (level w) r
ends_level m l w r e h = rw e h

pub operation_grows : (n m : ℕ) (o : Op) (old mid new : List Lexeme) (a : Writing) (b : Operand) (r : Operand) (left : Operand) (name : List ℕ)
    → OperatorFirst old o → m ≤ o.level → o.left ≤ left.level → o.opens ≤ n → Stands a left → mid ≡ after_first old
    → Goes (want (n - o.opens) o.right) (have (n - o.opens) o.right) mid new b → Ends o.right b.level new
    → (IsName (constant_of o.mark) → name ≡ constant_of o.mark) → IsName (constant_of o.mark)
    → Built (tree.App name (left.tree ∷ b.tree ∷ [])) o.level (left.size + b.size + 1) (max left.depth b.depth + 1) r
    → Goes (have n m a) (have n m) old new r
operation_grows n m o [] mid new a b r left name f h i z s j w u e kept c = cc
operation_grows n m o (S ∷ q) mid new a b r left name f h i z s j w u e kept c = record {
  writing = bin S o a w.writing;
  stands = stands_bin S o a w.writing left b r name s w.stands e kept c;
  goes = λ k. run_go (have n m a k) S q (want (n - o.opens) o.right (right S o a n m k))
      (rw f (taken n m a k S (close k a S) o h (let g : level a ≡ left.level = s.level_is in omega arith) z))
      ∙ (ap (run (want (n - o.opens) o.right (right S o a n m k))) (sym j) ∙ (w.goes (right S o a n m k)
      ∙ ends_right S o a w.writing n m (n - o.opens) k new (ends_level o.right b.level w.writing new w.stands.level_is u)));
}

-- reading may start where another mode leads to
pub from_head : (n m : ℕ) (s : Word) (x : List ℕ) (old mid new : List Lexeme) (o : Operand) → beginning_of (first_sort old) ≡ begins.Head s → x ≡ first_bytes old → mid ≡ after_first old
    → Goes (named s x n m) (have n m) mid new o → Goes (want n m) (have n m) old new o
from_head n m s x old mid new o e f j g = record {
  writing = g.writing;
  stands = g.stands;
  goes = λ k. head_goes n m s x old mid k e f j ∙ g.goes k;
}
  where
    head_goes : (n m : ℕ) (s : Word) (x : List ℕ) (old mid : List Lexeme) (k : Stack) → beginning_of (first_sort old) ≡ begins.Head s → x ≡ first_bytes old → mid ≡ after_first old
        → run (want n m k) old ≡ run (named s x n m k) mid
    head_goes n m s x [] mid k e f j = cc
    head_goes n m s x (T ∷ r) mid k e f j =
        run_go (want n m k) T r (named s (bytes_of T) n m k) (ap (begin n m k (bytes_of T)) e) ∙ (ap (λ y. run (named s y n m k) r) (sym f) ∙ ap (run (named s x n m k)) (sym j))

pub head_stops : (n m : ℕ) (s : Word) (x : List ℕ) (old mid new : List Lexeme) → beginning_of (first_sort old) ≡ begins.Head s → x ≡ first_bytes old → mid ≡ after_first old
    → ((k : Stack) → run (named s x n m k) mid ≡ stopped new) → (k : Stack) → run (want n m k) old ≡ stopped new
head_stops n m s x [] mid new e f j h k = cc
head_stops n m s x (T ∷ r) mid new e f j h k =
    run_go (want n m k) T r (named s (bytes_of T) n m k) (ap (begin n m k (bytes_of T)) e) ∙ (ap (λ y. run (named s y n m k) r) (sym f) ∙ (ap (run (named s x n m k)) (sym j) ∙ h k))

paren_goes : (n m : ℕ) (old mid : List Lexeme) (k : Stack) → 0 < n → beginning_of (first_sort old) ≡ begins.Paren → mid ≡ after_first old
    → run (want n m k) old ≡ run (want (n - 1) 0 (inside n m k)) mid
paren_goes n m old mid k z e j =
    ap (run (want n m k)) (first_paren old e)
    ∙ (run_go (want n m k) (mark Open) (after_first old) (want (n - 1) 0 (inside n m k)) (opened 1 n (want (n - 1) 0 (inside n m k)) (omega arith)) ∙ ap (run (want (n - 1) 0 (inside n m k))) (sym j))

pub in_parens : (n m : ℕ) (old mid after new : List Lexeme) (o p : Operand) → 0 < n → beginning_of (first_sort old) ≡ begins.Paren → mid ≡ after_first old
    → Goes (want (n - 1) 0) (have (n - 1) 0) mid after o → after ≡ mark Close ∷ new → Enclosing o p → Goes (want n m) (have n m) old new p
in_parens n m old mid after new o p z e j w i f = record {
  writing = paren w.writing;
  stands = stands_paren w.writing o p w.stands f;
  goes = λ k. paren_goes n m old mid k z e j ∙ (w.goes (inside n m k) ∙ ap (run (have (n - 1) 0 w.writing (inside n m k))) i);
}

unwanted : (n' : ℕ) (w : Writing) (k : Stack) (T : Lexeme) (r : List Lexeme) → Ends 0 (level w) (T ∷ r) → close k w T ≡ stop → run (have n' 0 w k) (T ∷ r) ≡ stopped (T ∷ r)
unwanted n' w k T r h e =
    let f : step (have n' 0 w k) T ≡ stop = not_offered n' 0 w k T (close k w T) (binary T) h ∙ e in
    rw (f, run) refl

-- what waits in a bracket stops at a token that it does not want
pub inside_stops : (n m n' : ℕ) (w : Writing) (k : Stack) (r : List Lexeme) → Ends 0 (level w) r → ((q : List Lexeme) → r ≡ mark Close ∷ q → ⊥) → run (have n' 0 w (inside n m k)) r ≡ stopped r
inside_stops n m n' w k [] h g = refl
inside_stops n m n' w k (mark Close ∷ r) h g = absurd (g r refl)
inside_stops n m n' w k (T ∷ r) h g = unwanted n' w (inside n m k) T r h refl

pub domain_stops : (s : Word) (x v : List ℕ) (n m n' : ℕ) (w : Writing) (k : Stack) (r : List Lexeme) → Ends 0 (level w) r → ((q : List Lexeme) → r ≡ mark Dot ∷ q → ⊥) → run (have n' 0 w (domain s x v n m k)) r ≡ stopped r
domain_stops s x v n m n' w k [] h g = refl
domain_stops s x v n m n' w k (mark Dot ∷ r) h g = absurd (g r refl)
domain_stops s x v n m n' w k (T ∷ r) h g = unwanted n' w (domain s x v n m k) T r h refl

pub body_stops : (s : Word) (x v : List ℕ) (d : Writing) (n m n' : ℕ) (w : Writing) (k : Stack) (r : List Lexeme) → Ends 0 (level w) r → ((q : List Lexeme) → r ≡ mark CloseBrace ∷ q → ⊥) → run (have n' 0 w (body s x v d n m k)) r ≡ stopped r
body_stops s x v d n m n' w k [] h g = refl
body_stops s x v d n m n' w k (mark CloseBrace ∷ r) h g = absurd (g r refl)
body_stops s x v d n m n' w k (T ∷ r) h g = unwanted n' w (body s x v d n m k) T r h refl

-- after the close of the tree that was read, when a mark is wanted and not there
pub paren_unclosed : (n m : ℕ) (old mid after : List Lexeme) (o : Operand) → 0 < n → beginning_of (first_sort old) ≡ begins.Paren → mid ≡ after_first old
    → Goes (want (n - 1) 0) (have (n - 1) 0) mid after o → Ends 0 o.level after → ((q : List Lexeme) → after ≡ mark Close ∷ q → ⊥) → (k : Stack) → run (want n m k) old ≡ stopped after
paren_unclosed n m old mid after o z e j w u g k =
    paren_goes n m old mid k z e j ∙ (w.goes (inside n m k) ∙ inside_stops n m (n - 1) w.writing k after (ends_level 0 o.level w.writing after w.stands.level_is u) g)

not_goes : (n m : ℕ) (old mid : List Lexeme) (k : Stack) → 0 < n → m ≤ prefix_level → beginning_of (first_sort old) ≡ begins.Negation → mid ≡ after_first old
    → run (want n m k) old ≡ run (want (n - 1) prefix_level (negated n m k)) mid
not_goes n m old mid k z h e j =
    ap (run (want n m k)) (first_not old e)
    ∙ (run_go (want n m k) (mark Not) (after_first old) (want (n - 1) prefix_level (negated n m k)) (rw (leb_yes m prefix_level h) (opened 1 n (want (n - 1) prefix_level (negated n m k)) (omega arith)))
    ∙ ap (run (want (n - 1) prefix_level (negated n m k))) (sym j))

pub negation_goes : (n m : ℕ) (old mid new : List Lexeme) (o r : Operand) (name : List ℕ) → 0 < n → m ≤ prefix_level → beginning_of (first_sort old) ≡ begins.Negation → mid ≡ after_first old
    → Goes (want (n - 1) prefix_level) (have (n - 1) prefix_level) mid new o → Ends prefix_level o.level new → name ≡ constant_of Not
    → Built (tree.App name (o.tree ∷ [])) 5 (o.size + 1) (o.depth + 1) r → Goes (want n m) (have n m) old new r
negation_goes n m old mid new o r name z h e j w u f c = record {
  writing = neg w.writing;
  stands = stands_neg w.writing o r name w.stands f c;
  goes = λ k. not_goes n m old mid k z h e j ∙ (w.goes (negated n m k) ∙ ends_negated w.writing n m (n - 1) k new (ends_level prefix_level o.level w.writing new w.stands.level_is u));
}

-- after the name of an atom
name_free : (s : Word) (x : List ℕ) (n m : ℕ) (k : Stack) (old : List Lexeme) → opening_of s (first_sort old) ≡ opens.Nothing → run (named s x n m k) old ≡ run (have n m (leaf s x) k) old
name_free s x n m k [] e = refl
name_free s x n m k (T ∷ r) e = run_same (named s x n m k) (have n m (leaf s x) k) T r (ap (after_name s x n m k T) e)

pub name_alone : (s : Word) (x name : List ℕ) (n m : ℕ) (old : List Lexeme) (o : Operand) → opening_of s (first_sort old) ≡ opens.Nothing → (IsName x → name ≡ x)
    → Built (made s name []) 7 1 1 o → Goes (named s x n m) (have n m) old old o
name_alone s x name n m old o e f b = record { writing = leaf s x; stands = stands_leaf s x name o f b; goes = λ k. name_free s x n m k old e }

opening_goes : (s : Word) (x : List ℕ) (n m : ℕ) (k : Stack) (old mid : List Lexeme) → 0 < n → opening_of s (first_sort old) ≡ opens.Arguments → mid ≡ after_first old
    → run (named s x n m k) old ≡ run (want (n - 1) 0 (given s x [] n m k)) mid
opening_goes s x n m k [] mid z e j = cc_none s e
  where
    cc_none : (s : Word) → opening_of s None ≡ opens.Arguments → run (named s x n m k) [] ≡ run (want (n - 1) 0 (given s x [] n m k)) mid
    cc_none Place e = cc
    cc_none Meta e = cc
    cc_none Plain e = cc
    cc_none Dotted e = cc
    cc_none True e = cc
opening_goes s x n m k (T ∷ r) mid z e j = arguments_run s x n m k T r e z ∙ ap (run (want (n - 1) 0 (given s x [] n m k))) (sym j)

pub with_arguments : (s : Word) (x name : List ℕ) (n m : ℕ) (old mid new : List Lexeme) (o : Several) (r : Operand) → 0 < n → opening_of s (first_sort old) ≡ opens.Arguments → mid ≡ after_first old
    → Gives s x n m mid new o → (IsName x → name ≡ x) → Built (made s name o.trees) 7 (o.size + 1) (o.depth + 1) r → Goes (named s x n m) (have n m) old new r
with_arguments s x name n m old mid new o r z e j g f c = record {
  writing = apply s x g.writings;
  stands = stands_apply s x name g.writings o r g.stands f c;
  goes = λ k. opening_goes s x n m k old mid z e j ∙ g.goes k;
}

pub arguments_stop : (s : Word) (x : List ℕ) (n m : ℕ) (old mid new : List Lexeme) → 0 < n → opening_of s (first_sort old) ≡ opens.Arguments → mid ≡ after_first old
    → ((k : Stack) → run (want (n - 1) 0 (given s x [] n m k)) mid ≡ stopped new) → (k : Stack) → run (named s x n m k) old ≡ stopped new
arguments_stop s x n m old mid new z e j h k = opening_goes s x n m k old mid z e j ∙ h k

brace_goes : (s : Word) (x : List ℕ) (n m : ℕ) (k : Stack) (old mid : List Lexeme) → 0 < n → opening_of s (first_sort old) ≡ opens.Binder → mid ≡ after_first old
    → run (named s x n m k) old ≡ run (binding s x n m k) mid
brace_goes s x n m k [] mid z e j = cc_none s e
  where
    cc_none : (s : Word) → opening_of s None ≡ opens.Binder → run (named s x n m k) [] ≡ run (binding s x n m k) mid
    cc_none Place e = cc
    cc_none Meta e = cc
    cc_none Plain e = cc
    cc_none Dotted e = cc
    cc_none True e = cc
brace_goes s x n m k (T ∷ r) mid z e j = binder_run s x n m k T r e z ∙ ap (run (binding s x n m k)) (sym j)

pub with_binder : (s : Word) (x : List ℕ) (n m : ℕ) (old mid new : List Lexeme) (r : Operand) → 0 < n → opening_of s (first_sort old) ≡ opens.Binder → mid ≡ after_first old
    → Goes (binding s x n m) (have n m) mid new r → Goes (named s x n m) (have n m) old new r
with_binder s x n m old mid new r z e j g = record { writing = g.writing; stands = g.stands; goes = λ k. brace_goes s x n m k old mid z e j ∙ g.goes k }

pub binder_stops : (s : Word) (x : List ℕ) (n m : ℕ) (old mid new : List Lexeme) → 0 < n → opening_of s (first_sort old) ≡ opens.Binder → mid ≡ after_first old
    → ((k : Stack) → run (binding s x n m k) mid ≡ stopped new) → (k : Stack) → run (named s x n m k) old ≡ stopped new
binder_stops s x n m old mid new z e j h k = brace_goes s x n m k old mid z e j ∙ h k

-- the parts of a binder, one after another
pub binder_front : (s : Word) (x v : List ℕ) (n m : ℕ) (r0 r1 r2 : List Lexeme) (k : Stack) → r0 ≡ word Plain v ∷ r1 → r1 ≡ mark Colon ∷ r2
    → run (binding s x n m k) r0 ≡ run (want (n - 1) 0 (domain s x v n m k)) r2
binder_front s x v n m r0 r1 r2 k e f =
    ap (run (binding s x n m k)) e ∙ (run_go (binding s x n m k) (word Plain v) r1 (typing s x v n m k) refl
    ∙ (ap (run (typing s x v n m k)) f ∙ run_go (typing s x v n m k) (mark Colon) r2 (want (n - 1) 0 (domain s x v n m k)) refl))

pub binder_middle : (s : Word) (x v : List ℕ) (n m : ℕ) (r2 r3 r4 : List Lexeme) (o : Operand) (k : Stack) → (w : Goes (want (n - 1) 0) (have (n - 1) 0) r2 r3 o) → r3 ≡ mark Dot ∷ r4
    → run (want (n - 1) 0 (domain s x v n m k)) r2 ≡ run (want (n - 1) 0 (body s x v w.writing n m k)) r4
binder_middle s x v n m r2 r3 r4 o k w e = w.goes (domain s x v n m k) ∙ ap (run (have (n - 1) 0 w.writing (domain s x v n m k))) e

pub binder_reads : (s : Word) (x v bn vn : List ℕ) (n m : ℕ) (r0 r1 r2 r3 r4 r5 r6 : List Lexeme) (o p r : Operand) → r0 ≡ word Plain v ∷ r1 → r1 ≡ mark Colon ∷ r2
    → Goes (want (n - 1) 0) (have (n - 1) 0) r2 r3 o → r3 ≡ mark Dot ∷ r4 → Goes (want (n - 1) 0) (have (n - 1) 0) r4 r5 p → r5 ≡ mark CloseBrace ∷ r6
    → (IsName x → bn ≡ x) → (IsName v → vn ≡ v) → Built (tree.Bind bn vn o.tree p.tree) 7 (o.size + p.size + 1) (max o.depth p.depth + 1) r
    → Goes (binding s x n m) (have n m) r0 r6 r
binder_reads s x v bn vn n m r0 r1 r2 r3 r4 r5 r6 o p r e f w g u h i j c = record {
  writing = bind s x v w.writing u.writing;
  stands = stands_bind s x v bn vn w.writing u.writing o p r w.stands u.stands i j c;
  goes = λ k. binder_front s x v n m r0 r1 r2 k e f ∙ (binder_middle s x v n m r2 r3 r4 o k w g
      ∙ (u.goes (body s x v w.writing n m k) ∙ ap (run (have (n - 1) 0 u.writing (body s x v w.writing n m k))) h));
}

pub no_var : (s : Word) (x : List ℕ) (n m : ℕ) (r : List Lexeme) → ((v : List ℕ) (q : List Lexeme) → r ≡ word Plain v ∷ q → ⊥) → (k : Stack) → run (binding s x n m k) r ≡ stopped r
no_var s x n m [] h k = refl
no_var s x n m (word Plain v ∷ q) h k = absurd (h v q refl)
no_var s x n m (T ∷ q) h k = refl

pub no_colon : (s : Word) (x v : List ℕ) (n m : ℕ) (r0 r1 : List Lexeme) → r0 ≡ word Plain v ∷ r1 → ((q : List Lexeme) → r1 ≡ mark Colon ∷ q → ⊥) → (k : Stack) → run (binding s x n m k) r0 ≡ stopped r1
no_colon s x v n m r0 r1 e h k =
    ap (run (binding s x n m k)) e ∙ (run_go (binding s x n m k) (word Plain v) r1 (typing s x v n m k) refl ∙ stops r1 h)
  where
    stops : (r : List Lexeme) → ((q : List Lexeme) → r ≡ mark Colon ∷ q → ⊥) → run (typing s x v n m k) r ≡ stopped r
    stops [] g = refl
    stops (mark Colon ∷ q) g = absurd (g q refl)
    stops (T ∷ q) g = refl

pub no_dot : (s : Word) (x v : List ℕ) (n m : ℕ) (r0 r1 r2 r3 : List Lexeme) (o : Operand) → r0 ≡ word Plain v ∷ r1 → r1 ≡ mark Colon ∷ r2
    → Goes (want (n - 1) 0) (have (n - 1) 0) r2 r3 o → Ends 0 o.level r3 → ((q : List Lexeme) → r3 ≡ mark Dot ∷ q → ⊥) → (k : Stack) → run (binding s x n m k) r0 ≡ stopped r3
no_dot s x v n m r0 r1 r2 r3 o e f w u h k =
    binder_front s x v n m r0 r1 r2 k e f ∙ (w.goes (domain s x v n m k) ∙ domain_stops s x v n m (n - 1) w.writing k r3 (ends_level 0 o.level w.writing r3 w.stands.level_is u) h)

pub no_brace : (s : Word) (x v : List ℕ) (n m : ℕ) (r0 r1 r2 r3 r4 r5 : List Lexeme) (o p : Operand) → r0 ≡ word Plain v ∷ r1 → r1 ≡ mark Colon ∷ r2
    → Goes (want (n - 1) 0) (have (n - 1) 0) r2 r3 o → r3 ≡ mark Dot ∷ r4 → Goes (want (n - 1) 0) (have (n - 1) 0) r4 r5 p → Ends 0 p.level r5 → ((q : List Lexeme) → r5 ≡ mark CloseBrace ∷ q → ⊥)
    → (k : Stack) → run (binding s x n m k) r0 ≡ stopped r5
no_brace s x v n m r0 r1 r2 r3 r4 r5 o p e f w g u i h k =
    binder_front s x v n m r0 r1 r2 k e f ∙ (binder_middle s x v n m r2 r3 r4 o k w g
    ∙ (u.goes (body s x v w.writing n m k) ∙ body_stops s x v w.writing n m (n - 1) u.writing k r5 (ends_level 0 p.level u.writing r5 u.stands.level_is i) h))

-- arguments
ending_plain : (s : Word) (T : Lexeme) (e : Mark) → T ≡ mark e → binary (mark e) ≡ None → binary T ≡ None
ending_plain s T e t h = ap binary t ∙ h

goes_on_first : (s : Word) (x : List ℕ) (vs : List Writing) (n m : ℕ) (w : Writing) (k : Stack) (ts : List Lexeme) → ending_of s (first_sort ts) ≡ ends.GoesOn
    → run (have (n - 1) 0 w (given s x vs n m k)) ts ≡ run (want (n - 1) 0 (given s x (w ∷ vs) n m k)) (after_first ts)
goes_on_first s x vs n m w k [] e = absurd (nothing s e)
  where
    nothing : (s : Word) → ending_of s None ≡ ends.GoesOn → ⊥
    nothing Place e = cc
    nothing Meta e = cc
    nothing Plain e = cc
    nothing Dotted e = cc
    nothing True e = cc
goes_on_first s x vs n m w k (T ∷ r) e = goes_on_run s x vs n m (n - 1) w k T r e (ending_plain s T Comma (at_comma s T e) refl)

abbrev pub Back : Word → List ℕ → ℕ → ℕ → List Lexeme → List Lexeme → Several → Type 0
Back s x n m old mid o = (vs : List Writing) × StandsBack vs o × ((k : Stack) → run (want (n - 1) 0 (given s x [] n m k)) old ≡ run (want (n - 1) 0 (given s x vs n m k)) mid)

pub more_arguments : (s : Word) (x : List ℕ) (n m : ℕ) (old mid after new : List Lexeme) (o p : Several) (t : Operand) → Back s x n m old mid o → Goes (want (n - 1) 0) (have (n - 1) 0) mid after t → Added o t p
    → ending_of s (first_sort after) ≡ ends.GoesOn → new ≡ after_first after → Back s x n m old new p
more_arguments s x n m old mid after new o p t b w a e j = (
  w.writing ∷ b.0,
  stands_more b.0 w.writing o p t b.1 w.stands a,
  λ k. b.2 k ∙ (w.goes (given s x b.0 n m k) ∙ (goes_on_first s x b.0 n m w.writing k after e ∙ ap (run (want (n - 1) 0 (given s x (w.writing ∷ b.0) n m k))) (sym j))),
)

-- a closing bracket is no operator
closing_plain : (s : Word) (T : Lexeme) → ending s T ≡ ends.Closes → binary T ≡ None
closing_plain Meta (word t x) e = refl
closing_plain Meta (mark CloseBracket) e = refl
closing_plain Meta (mark _) e = cc
closing_plain _ (word t x) e = refl
closing_plain _ (mark Close) e = refl
closing_plain _ (mark _) e = cc

closes_first : (s : Word) (x : List ℕ) (vs : List Writing) (n m : ℕ) (w : Writing) (k : Stack) (ts : List Lexeme) → ending_of s (first_sort ts) ≡ ends.Closes
    → run (have (n - 1) 0 w (given s x vs n m k)) ts ≡ run (have n m (apply s x (fill vs (one w))) k) (after_first ts)
closes_first s x vs n m w k [] e = absurd (nothing s e)
  where
    nothing : (s : Word) → ending_of s None ≡ ends.Closes → ⊥
    nothing Place e = cc
    nothing Meta e = cc
    nothing Plain e = cc
    nothing Dotted e = cc
    nothing True e = cc
closes_first s x vs n m w k (T ∷ r) e = ends_run s x vs n m (n - 1) w k T r e (closing_plain s T e)

pub last_argument : (s : Word) (x : List ℕ) (n m : ℕ) (old mid after new : List Lexeme) (o p : Several) (t : Operand) → Back s x n m old mid o → Goes (want (n - 1) 0) (have (n - 1) 0) mid after t → Added o t p
    → ending_of s (first_sort after) ≡ ends.Closes → new ≡ after_first after → Gives s x n m old new p
last_argument s x n m old mid after new o p t b w a e j = record {
  writings = fill b.0 (one w.writing);
  stands = stands_all b.0 w.writing p (stands_more b.0 w.writing o p t b.1 w.stands a);
  goes = λ k. b.2 k ∙ (w.goes (given s x b.0 n m k) ∙ (closes_first s x b.0 n m w.writing k after e ∙ ap (run (have n m (apply s x (fill b.0 (one w.writing))) k)) (sym j)));
}

given_stops : (s : Word) (x : List ℕ) (vs : List Writing) (n m n' : ℕ) (w : Writing) (k : Stack) (r : List Lexeme) → Ends 0 (level w) r → ending_of s (first_sort r) ≡ ends.Nothing
    → run (have n' 0 w (given s x vs n m k)) r ≡ stopped r
given_stops s x vs n m n' w k [] h e = refl
given_stops s x vs n m n' w k (T ∷ r) h e =
    let f : step (have n' 0 w (given s x vs n m k)) T ≡ stop =
    not_offered n' 0 w (given s x vs n m k) T (close (given s x vs n m k) w T) (binary T) h ∙ ap (close_given s x vs n m w k) e in
    rw (f, run) refl

pub argument_unended : (s : Word) (x : List ℕ) (n m : ℕ) (old mid after : List Lexeme) (o : Several) (t : Operand) → Back s x n m old mid o → Goes (want (n - 1) 0) (have (n - 1) 0) mid after t
    → Ends 0 t.level after → ending_of s (first_sort after) ≡ ends.Nothing → (k : Stack) → run (want (n - 1) 0 (given s x [] n m k)) old ≡ stopped after
argument_unended s x n m old mid after o t b w u e k =
    b.2 k ∙ (w.goes (given s x b.0 n m k) ∙ given_stops s x b.0 n m (n - 1) w.writing k after (ends_level 0 t.level w.writing after w.stands.level_is u) e)

pub argument_stops : (s : Word) (x : List ℕ) (n m : ℕ) (old mid new : List Lexeme) (o : Several) → Back s x n m old mid o → ((k : Stack) → run (want (n - 1) 0 k) mid ≡ stopped new)
    → (k : Stack) → run (want (n - 1) 0 (given s x [] n m k)) old ≡ stopped new
argument_stops s x n m old mid new o b h k = b.2 k ∙ h (given s x b.0 n m k)

-- by what was answered
pub by_head : (n m : ℕ) (s : Word) (x : List ℕ) (old mid new : List Lexeme) (r : Result Operand PartFault) → beginning_of (first_sort old) ≡ begins.Head s → x ≡ first_bytes old → mid ≡ after_first old
    → Reads (named s x n m) (have n m) mid r new → Reads (want n m) (have n m) old r new
by_head n m s x old mid new (Ok o) e f j g = from_head n m s x old mid new o e f j g
by_head n m s x old mid new (Err Mismatch) e f j g = head_stops n m s x old mid new e f j g
by_head n m s x old mid new (Err NoMemory) e f j g = tt

pub by_brace : (s : Word) (x : List ℕ) (n m : ℕ) (old mid new : List Lexeme) (r : Result Operand PartFault) → 0 < n → opening_of s (first_sort old) ≡ opens.Binder → mid ≡ after_first old
    → Reads (binding s x n m) (have n m) mid r new → Reads (named s x n m) (have n m) old r new
by_brace s x n m old mid new (Ok o) z e j g = with_binder s x n m old mid new o z e j g
by_brace s x n m old mid new (Err Mismatch) z e j g = binder_stops s x n m old mid new z e j g
by_brace s x n m old mid new (Err NoMemory) z e j g = tt

pub err_var : (s : Word) (x : List ℕ) (n m : ℕ) (r0 new : List Lexeme) (e : PartFault) → ExpectsVar r0 (Err e) new → Stops (binding s x n m) r0 new e
err_var s x n m r0 new NoMemory h = tt
err_var s x n m r0 new Mismatch h = λ k. no_var s x n m r0 h.1 k ∙ ap stopped (sym h.0)

pub err_colon : (s : Word) (x v : List ℕ) (n m : ℕ) (r0 r1 new : List Lexeme) (e : PartFault) → r0 ≡ word Plain v ∷ r1 → Expects Colon r1 (Err e) new → Stops (binding s x n m) r0 new e
err_colon s x v n m r0 r1 new NoMemory i h = tt
err_colon s x v n m r0 r1 new Mismatch i h = λ k. no_colon s x v n m r0 r1 i h.1 k ∙ ap stopped (sym h.0)

pub err_dot : (s : Word) (x v : List ℕ) (n m : ℕ) (r0 r1 r2 r3 new : List Lexeme) (o : Operand) (e : PartFault) → r0 ≡ word Plain v ∷ r1 → r1 ≡ mark Colon ∷ r2
    → Goes (want (n - 1) 0) (have (n - 1) 0) r2 r3 o → Ends 0 o.level r3 → Expects Dot r3 (Err e) new → Stops (binding s x n m) r0 new e
err_dot s x v n m r0 r1 r2 r3 new o NoMemory i j w u h = tt
err_dot s x v n m r0 r1 r2 r3 new o Mismatch i j w u h = λ k. no_dot s x v n m r0 r1 r2 r3 o i j w u h.1 k ∙ ap stopped (sym h.0)

pub err_brace : (s : Word) (x v : List ℕ) (n m : ℕ) (r0 r1 r2 r3 r4 r5 new : List Lexeme) (o p : Operand) (e : PartFault) → r0 ≡ word Plain v ∷ r1 → r1 ≡ mark Colon ∷ r2
    → Goes (want (n - 1) 0) (have (n - 1) 0) r2 r3 o → r3 ≡ mark Dot ∷ r4 → Goes (want (n - 1) 0) (have (n - 1) 0) r4 r5 p → Ends 0 p.level r5 → Expects CloseBrace r5 (Err e) new → Stops (binding s x n m) r0 new e
err_brace s x v n m r0 r1 r2 r3 r4 r5 new o p NoMemory i j w g u l h = tt
err_brace s x v n m r0 r1 r2 r3 r4 r5 new o p Mismatch i j w g u l h = λ k. no_brace s x v n m r0 r1 r2 r3 r4 r5 o p i j w g u l h.1 k ∙ ap stopped (sym h.0)

pub err_close : (n m : ℕ) (old mid after new : List Lexeme) (o : Operand) (e : PartFault) → 0 < n → beginning_of (first_sort old) ≡ begins.Paren → mid ≡ after_first old
    → Goes (want (n - 1) 0) (have (n - 1) 0) mid after o → Ends 0 o.level after → Expects Close after (Err e) new → Stops (want n m) old new e
err_close n m old mid after new o NoMemory z i j w u h = tt
err_close n m old mid after new o Mismatch z i j w u h = λ k. paren_unclosed n m old mid after o z i j w u h.1 k ∙ ap stopped (sym h.0)

pub err_arguments : (s : Word) (x : List ℕ) (n m : ℕ) (old mid new : List Lexeme) (e : PartFault) → 0 < n → opening_of s (first_sort old) ≡ opens.Arguments → mid ≡ after_first old
    → Stops (λ k. want (n - 1) 0 (given s x [] n m k)) mid new e → Stops (named s x n m) old new e
err_arguments s x n m old mid new NoMemory z i j h = tt
err_arguments s x n m old mid new Mismatch z i j h = arguments_stop s x n m old mid new z i j h

pub err_argument : (s : Word) (x : List ℕ) (n m : ℕ) (old mid new : List Lexeme) (o : Several) (e : PartFault) → Back s x n m old mid o → Stops (want (n - 1) 0) mid new e
    → Stops (λ k. want (n - 1) 0 (given s x [] n m k)) old new e
err_argument s x n m old mid new o NoMemory b h = tt
err_argument s x n m old mid new o Mismatch b h = argument_stops s x n m old mid new o b h

-- the operators' constants are names
pub kept_constant : (m : Mark) → IsName (constant_of m)
kept_constant And = record { spelled = refl; short = refl }
kept_constant Or = record { spelled = refl; short = refl }
kept_constant Not = record { spelled = refl; short = refl }
kept_constant Iff = record { spelled = refl; short = refl }
kept_constant Imp = record { spelled = refl; short = refl }
kept_constant Eq = record { spelled = refl; short = refl }
kept_constant Colon = record { spelled = refl; short = refl }
kept_constant Open = record { spelled = refl; short = refl }
kept_constant Close = record { spelled = refl; short = refl }
kept_constant OpenBracket = record { spelled = refl; short = refl }
kept_constant CloseBracket = record { spelled = refl; short = refl }
kept_constant OpenBrace = record { spelled = refl; short = refl }
kept_constant CloseBrace = record { spelled = refl; short = refl }
kept_constant Comma = record { spelled = refl; short = refl }
kept_constant Semicolon = record { spelled = refl; short = refl }
kept_constant Dot = record { spelled = refl; short = refl }
kept_constant Becomes = record { spelled = refl; short = refl }
kept_constant Bar = record { spelled = refl; short = refl }
kept_constant Turnstile = record { spelled = refl; short = refl }
kept_constant Arrow = record { spelled = refl; short = refl }
kept_constant Wrong = record { spelled = refl; short = refl }

pub kept_not : IsName (constant_of Not)
kept_not = record { spelled = refl; short = refl }

pub after_shorter : (ts new : List Lexeme) → new ≡ after_first ts → length new ≤ length ts
after_shorter [] new e = let i : length new ≡ 0 = ap length e in omega arith
after_shorter (T ∷ r) new e = let i : length new ≡ length r = ap length e in omega arith
