-- Whatever is written within the limits is read to its end.
use Rattle.std.proofs.Common.{◌≡◌, ℕ, ◌+◌, ◌-◌, ◌<◌, ◌≤◌, List, [], ◌∷◌, ◌++◌, Option, Some, None, Bool, true, false, ◌⊎◌, refl, ap, ◌∙◌, subst, append_assoc, arith, inl, inr}
use Rattle.std.specs.Prelude.{nat_le}
use Rattle.std.proofs.lemmas.Bool.Decides.{nat_tests}
use Rattle.mu_grammar.specs.declared.symbol.Word.{Word}
use Rattle.mu_grammar.specs.declared.symbol.Word.TheVariants.{Plain, Dotted, True, Meta, Place}
use Rattle.mu_grammar.specs.declared.symbol.Mark.{Mark}
use Rattle.mu_grammar.specs.declared.symbol.Mark.TheVariants.{And, Or, Not, Iff, Imp, Eq, Colon, Open, Close, OpenBracket, CloseBracket, OpenBrace, CloseBrace, Comma, Dot}
use Rattle.mu_grammar.specs.declared.way.Beginning.TheVariants as begins
use Rattle.mu_grammar.specs.declared.way.Opening.TheVariants as opens
use Rattle.mu_grammar.specs.declared.way.Ending.TheVariants as ends
use Rattle.mu_grammar.specs.declared.ops.Op.{Op}
use Rattle.mu_tables.specs.declared.ops.Side.TheVariants.{Neither, Left, Right}
use Rattle.mu_grammar.specs.Lexemes.{Lexeme, word, mark}
use Rattle.mu_grammar.specs.Ops.{row, binary, prefix_level, atom_level}
use Rattle.mu_grammar.specs.Writings.{Writing, Writings, leaf, apply, bind, paren, neg, bin, one, more, level, tokens, tokens_of, Fits, FitsAll, is_head, is_binder, opener, closer}
use Rattle.mu_grammar.specs.Machine.{Stack, right, negated, inside, given, domain, body, fill, Mode, want, named, binding, have, Next, go, open_levels, after, close, close_given, beginning, opening, ending, begin, after_name, step, run}

-- what every row of the table keeps
pub record Shape (p : Op) : Type 0 where
  pub low : p.level ≤ p.left
  pub side : (p.left ≡ p.level + 1) ⊎ ((p.left ≡ p.level) × (3 ≤ p.level) × (p.level ≤ 4))
  pub side_right : (p.right ≡ p.level + 1) ⊎ ((p.right ≡ p.level) × (p.level ≡ 2))
  pub within : p.level ≤ 6
  pub nested : (p.right ≡ p.level + 1) ⊎ (p.opens ≡ 1)
  pub least : 1 ≤ p.level
  pub few : p.opens ≤ 1

shape_at : (q p : Op) → Some q ≡ Some p → Shape q → Shape p
shape_at q p e s = let e' : q ≡ p = cc in subst Shape e' s

pub shape : (T : Lexeme) (p : Op) → binary T ≡ Some p → Shape p
shape (mark Iff) p e = shape_at (row Iff 1 Neither) p e (record { low = omega arith; side = inl refl; side_right = inl refl; within = omega arith; nested = inl refl; least = omega arith; few = omega arith })
shape (mark Imp) p e = shape_at (row Imp 2 Right) p e (record { low = omega arith; side = inl refl; side_right = inr (refl, refl); within = omega arith; nested = inr refl; least = omega arith; few = omega arith })
shape (mark Or) p e = shape_at (row Or 3 Left) p e (record { low = omega arith; side = inr (refl, omega arith, omega arith); side_right = inl refl; within = omega arith; nested = inl refl; least = omega arith; few = omega arith })
shape (mark And) p e = shape_at (row And 4 Left) p e (record { low = omega arith; side = inr (refl, omega arith, omega arith); side_right = inl refl; within = omega arith; nested = inl refl; least = omega arith; few = omega arith })
shape (mark Eq) p e = shape_at (row Eq 6 Neither) p e (record { low = omega arith; side = inl refl; side_right = inl refl; within = omega arith; nested = inl refl; least = omega arith; few = omega arith })
shape (mark Colon) p e = shape_at (row Colon 6 Neither) p e (record { low = omega arith; side = inl refl; side_right = inl refl; within = omega arith; nested = inl refl; least = omega arith; few = omega arith })
shape (word s x) p e = cc
shape (mark _) p e = cc

-- an operator that may take what o makes is no part of o's right operand
pub passes : (o p : Op) → Shape o → Shape p → p.left ≤ o.level → p.level < o.right
passes o p s t h = grind (arith, s.side_right, t.side, t.low)

pub passes_not : (p : Op) → Shape p → p.left ≤ prefix_level → p.level < prefix_level
passes_not p t h = grind (arith, t.side, t.low)

-- the tokens that a name takes
abbrev pub Free : Lexeme → Type 0
Free T = (s : Word) → opening s T ≡ opens.Nothing

pub record MayFollow (l : ℕ) (T : Lexeme) : Type 0 where
  pub free : Free T
  pub operator : (p : Op) → binary T ≡ Some p → p.left ≤ l

abbrev pub FollowsAt : ℕ → List Lexeme → Type 0
FollowsAt l [] = Unit {0}
FollowsAt l (T ∷ r) = MayFollow l T

leb_no : (a b : ℕ) → b < a → nat_le a b ≡ false
leb_no a b h = grind (arith, nat_tests)

pub leb_yes : (a b : ℕ) → a ≤ b → nat_le a b ≡ true
leb_yes a b h = grind (arith, nat_tests)

pub not_taken : (n m : ℕ) (w : Writing) (k : Stack) (T : Lexeme) (other : Next) (o : Option Op) → ((p : Op) → o ≡ Some p → p.level < m) → after n m w k T other o ≡ other
not_taken n m w k T other None h = refl
not_taken n m w k T other (Some p) h = rw (leb_no m p.level (h p refl)) refl

pub taken : (n m : ℕ) (w : Writing) (k : Stack) (T : Lexeme) (other : Next) (p : Op) → m ≤ p.level → p.left ≤ level w → p.opens ≤ n
    → after n m w k T other (Some p) ≡ go (want (n - p.opens) p.right (right T p w n m k))
taken n m w k T other p h i j = rw (leb_yes m p.level h, leb_yes p.left (level w) i, leb_yes p.opens n j) refl

pub run_go : (s : Mode) (T : Lexeme) (r : List Lexeme) (s' : Mode) → step s T ≡ go s' → run s (T ∷ r) ≡ run s' r
run_go s T r s' e = rw (e, run) refl

pub run_same : (s s' : Mode) (T : Lexeme) (r : List Lexeme) → step s T ≡ step s' T → run s (T ∷ r) ≡ run s' (T ∷ r)
run_same s s' T r e = rw (e, run) refl

pub named_run : (s : Word) (x : List ℕ) (n m : ℕ) (k : Stack) (r : List Lexeme) → FollowsAt atom_level r → run (named s x n m k) r ≡ run (have n m (leaf s x) k) r
named_run s x n m k [] h = refl
named_run s x n m k (T ∷ r) h = run_same (named s x n m k) (have n m (leaf s x) k) T r (ap (after_name s x n m k T) (h.free s))

-- what cannot continue inside is handed on
pub right_run : (S : Lexeme) (o : Op) (a b : Writing) (n m n' : ℕ) (k : Stack) (r : List Lexeme) → Shape o → FollowsAt o.level r
    → run (have n' o.right b (right S o a n m k)) r ≡ run (have n m (bin S o a b) k) r
right_run S o a b n m n' k [] s h = refl
right_run S o a b n m n' k (T ∷ r) s h =
    run_same (have n' o.right b (right S o a n m k)) (have n m (bin S o a b) k) T r
    (not_taken n' o.right b (right S o a n m k) T (close (right S o a n m k) b T) (binary T) (λ p e. passes o p s (shape T p e) (h.operator p e)))

pub negated_run : (b : Writing) (n m n' : ℕ) (k : Stack) (r : List Lexeme) → FollowsAt prefix_level r
    → run (have n' prefix_level b (negated n m k)) r ≡ run (have n m (neg b) k) r
negated_run b n m n' k [] h = refl
negated_run b n m n' k (T ∷ r) h =
    run_same (have n' prefix_level b (negated n m k)) (have n m (neg b) k) T r
    (not_taken n' prefix_level b (negated n m k) T (close (negated n m k) b T) (binary T) (λ p e. passes_not p (shape T p e) (h.operator p e)))

pub follows-more : (l l' : ℕ) (r : List Lexeme) → l ≤ l' → FollowsAt l r → FollowsAt l' r
follows-more l l' [] h f = tt
follows-more l l' (T ∷ r) h f = record { free = f.free; operator = λ p e. let i : p.left ≤ l = f.operator p e in omega arith }

-- an operator is no bracket
abbrev pub no_bracket : Mark → Bool
no_bracket Open = false
no_bracket OpenBracket = false
no_bracket OpenBrace = false
no_bracket _ = true

pub free_mark : (m : Mark) → no_bracket m ≡ true → Free (mark m)
free_mark Open e s = cc
free_mark OpenBracket e s = cc
free_mark OpenBrace e s = cc
free_mark _ e Plain = refl
free_mark _ e Dotted = refl
free_mark _ e True = refl
free_mark _ e Meta = refl
free_mark _ e Place = refl

operator_mark : (m : Mark) (p : Op) → binary (mark m) ≡ Some p → no_bracket m ≡ true
operator_mark Open p e = cc
operator_mark OpenBracket p e = cc
operator_mark OpenBrace p e = cc
operator_mark _ p e = refl

pub operator_free : (T : Lexeme) (p : Op) → binary T ≡ Some p → Free T
operator_free (word s x) p e = cc
operator_free (mark m) p e = free_mark m (operator_mark m p e)

pub operator_follows : (T : Lexeme) (p : Op) (l : ℕ) → binary T ≡ Some p → p.left ≤ l → MayFollow l T
operator_follows T p l e h =
    record { free = operator_free T p e; operator = λ q f. let same : p ≡ q = cc in subst (λ (v : Op). v.left ≤ l) same h }

-- a mark that is neither bracket nor operator
pub plain_follows : (m : Mark) (l : ℕ) → no_bracket m ≡ true → binary (mark m) ≡ None → MayFollow l (mark m)
plain_follows m l e f = record { free = free_mark m e; operator = λ p g. cc }

pub closer_follows : (s : Word) (l : ℕ) → MayFollow l (closer s)
closer_follows Meta l = plain_follows CloseBracket l refl refl
closer_follows Plain l = plain_follows Close l refl refl
closer_follows Dotted l = plain_follows Close l refl refl
closer_follows True l = plain_follows Close l refl refl
closer_follows Place l = plain_follows Close l refl refl

pub opened : (i n : ℕ) (s : Mode) → i ≤ n → open_levels i n s ≡ go s
opened i n s h = rw (leb_yes i n h) refl

pub opener_opens : (s : Word) → is_head s ≡ true → opening s (opener s) ≡ opens.Arguments
opener_opens Place e = cc
opener_opens Plain e = refl
opener_opens Dotted e = refl
opener_opens True e = refl
opener_opens Meta e = refl

pub brace_binds : (s : Word) → is_binder s ≡ true → opening s (mark OpenBrace) ≡ opens.Binder
brace_binds Place e = cc
brace_binds Meta e = cc
brace_binds Plain e = refl
brace_binds Dotted e = refl
brace_binds True e = refl

pub binder_head : (s : Word) → is_binder s ≡ true → is_head s ≡ true
binder_head Place e = cc
binder_head Meta e = cc
binder_head _ e = refl

pub closer_closes : (s : Word) → ending s (closer s) ≡ ends.Closes
closer_closes Place = refl
closer_closes Meta = refl
closer_closes Plain = refl
closer_closes Dotted = refl
closer_closes True = refl

pub comma_goes_on : (s : Word) → ending s (mark Comma) ≡ ends.GoesOn
comma_goes_on Place = refl
comma_goes_on Meta = refl
comma_goes_on Plain = refl
comma_goes_on Dotted = refl
comma_goes_on True = refl

pub head_begins : (s : Word) (x : List ℕ) → is_head s ≡ true → beginning (word s x) ≡ begins.Head s
head_begins Place x e = cc
head_begins Plain x e = refl
head_begins Dotted x e = refl
head_begins True x e = refl
head_begins Meta x e = refl

-- a name is read
pub name_run : (s : Word) (x : List ℕ) (n m : ℕ) (k : Stack) (r : List Lexeme) → is_head s ≡ true → run (want n m k) (word s x ∷ r) ≡ run (named s x n m k) r
name_run s x n m k r h = run_go (want n m k) (word s x) r (named s x n m k) (ap (begin n m k x) (head_begins s x h))

pub arguments_run : (s : Word) (x : List ℕ) (n m : ℕ) (k : Stack) (T : Lexeme) (r : List Lexeme) → opening s T ≡ opens.Arguments → 0 < n
    → run (named s x n m k) (T ∷ r) ≡ run (want (n - 1) 0 (given s x [] n m k)) r
arguments_run s x n m k T r e z =
    run_go (named s x n m k) T r (want (n - 1) 0 (given s x [] n m k)) (ap (after_name s x n m k T) e ∙ opened 1 n (want (n - 1) 0 (given s x [] n m k)) (omega arith))

pub binder_run : (s : Word) (x : List ℕ) (n m : ℕ) (k : Stack) (T : Lexeme) (r : List Lexeme) → opening s T ≡ opens.Binder → 0 < n
    → run (named s x n m k) (T ∷ r) ≡ run (binding s x n m k) r
binder_run s x n m k T r e z = run_go (named s x n m k) T r (binding s x n m k) (ap (after_name s x n m k T) e ∙ opened 1 n (binding s x n m k) (omega arith))

pub ends_run : (s : Word) (x : List ℕ) (vs : List Writing) (n m n' : ℕ) (w : Writing) (k : Stack) (T : Lexeme) (r : List Lexeme) → ending s T ≡ ends.Closes → binary T ≡ None
    → run (have n' 0 w (given s x vs n m k)) (T ∷ r) ≡ run (have n m (apply s x (fill vs (one w))) k) r
ends_run s x vs n m n' w k T r e f =
    run_go (have n' 0 w (given s x vs n m k)) T r (have n m (apply s x (fill vs (one w))) k)
    (ap (after n' 0 w (given s x vs n m k) T (close (given s x vs n m k) w T)) f ∙ ap (close_given s x vs n m w k) e)

pub goes_on_run : (s : Word) (x : List ℕ) (vs : List Writing) (n m n' : ℕ) (w : Writing) (k : Stack) (T : Lexeme) (r : List Lexeme) → ending s T ≡ ends.GoesOn → binary T ≡ None
    → run (have n' 0 w (given s x vs n m k)) (T ∷ r) ≡ run (want (n - 1) 0 (given s x (w ∷ vs) n m k)) r
goes_on_run s x vs n m n' w k T r e f =
    run_go (have n' 0 w (given s x vs n m k)) T r (want (n - 1) 0 (given s x (w ∷ vs) n m k))
    (ap (after n' 0 w (given s x vs n m k) T (close (given s x vs n m k) w T)) f ∙ ap (close_given s x vs n m w k) e)

closer_plain : (s : Word) → binary (closer s) ≡ None
closer_plain Place = refl
closer_plain Meta = refl
closer_plain Plain = refl
closer_plain Dotted = refl
closer_plain True = refl

mutual
  pub reads : (w : Writing) (n m : ℕ) (k : Stack) (r : List Lexeme) → Fits n w → m ≤ level w → FollowsAt (level w) r
      → run (want n m k) (tokens w ++ r) ≡ run (have n m w k) r
  reads (leaf s x) n m k r f h g = name_run s x n m k r f ∙ named_run s x n m k r g
  reads (apply s x ws) n m k r f h g =
      name_run s x n m k (opener s ∷ ((tokens_of ws ++ closer s ∷ []) ++ r)) f.0
      ∙ (arguments_run s x n m k (opener s) ((tokens_of ws ++ closer s ∷ []) ++ r) (opener_opens s f.0) f.1
      ∙ (ap (run (want (n - 1) 0 (given s x [] n m k))) (append_assoc (tokens_of ws) (closer s ∷ []) r) ∙ reads_all ws s x n m [] k r f.2 f.1))
  reads (bind s x v d b) n m k r f h g =
      let inner : List Lexeme = tokens b ++ mark CloseBrace ∷ [] in
      name_run s x n m k (mark OpenBrace ∷ word Plain v ∷ mark Colon ∷ ((tokens d ++ (mark Dot ∷ inner)) ++ r)) (binder_head s f.0)
      ∙ (binder_run s x n m k (mark OpenBrace) (word Plain v ∷ mark Colon ∷ ((tokens d ++ (mark Dot ∷ inner)) ++ r)) (brace_binds s f.0) f.1
      ∙ (ap (run (want (n - 1) 0 (domain s x v n m k))) (append_assoc (tokens d) (mark Dot ∷ inner) r)
      ∙ (reads d (n - 1) 0 (domain s x v n m k) (mark Dot ∷ (inner ++ r)) f.2 (omega arith) (plain_follows Dot (level d) refl refl)
      ∙ (ap (run (want (n - 1) 0 (body s x v d n m k))) (append_assoc (tokens b) (mark CloseBrace ∷ []) r)
      ∙ reads b (n - 1) 0 (body s x v d n m k) (mark CloseBrace ∷ r) f.3 (omega arith) (plain_follows CloseBrace (level b) refl refl)))))
  reads (paren w) n m k r f h g =
      run_go (want n m k) (mark Open) ((tokens w ++ mark Close ∷ []) ++ r) (want (n - 1) 0 (inside n m k)) (opened 1 n (want (n - 1) 0 (inside n m k)) (omega arith))
      ∙ (ap (run (want (n - 1) 0 (inside n m k))) (append_assoc (tokens w) (mark Close ∷ []) r) ∙ reads w (n - 1) 0 (inside n m k) (mark Close ∷ r) f.1 (omega arith) (plain_follows Close (level w) refl refl))
  reads (neg w) n m k r f h g =
      run_go (want n m k) (mark Not) (tokens w ++ r) (want (n - 1) prefix_level (negated n m k))
      (rw (leb_yes m prefix_level h) (opened 1 n (want (n - 1) prefix_level (negated n m k)) (omega arith)))
      ∙ (reads w (n - 1) prefix_level (negated n m k) r f.2 f.1 (follows-more prefix_level (level w) r f.1 g) ∙ negated_run w n m (n - 1) k r g)
  reads (bin T o a b) n m k r f h g =
      let s : Shape o = shape T o f.0 in
      let up : o.level ≤ level b = (let i : o.right ≤ level b = f.4 in grind (arith, s.side_right)) in
      let into : Mode = want (n - o.opens) o.right (right T o a n m k) in
      let found_it : step (have n m a k) T ≡ go into =
      (rw (f.0) (taken n m a k T (close k a T) o h f.1 f.3)) in
      ap (run (want n m k)) (append_assoc (tokens a) (T ∷ tokens b) r)
      ∙ (reads a n m k (T ∷ (tokens b ++ r)) f.2 (let i : o.left ≤ level a = f.1 in let j : m ≤ o.level = h in omega (arith, s.low)) (operator_follows T o (level a) f.0 f.1)
      ∙ (run_go (have n m a k) T (tokens b ++ r) into found_it
      ∙ (reads b (n - o.opens) o.right (right T o a n m k) r f.5 f.4 (follows-more o.level (level b) r up g)
      ∙ right_run T o a b n m (n - o.opens) k r s g)))

  pub reads_all : (ws : Writings) (s : Word) (x : List ℕ) (n m : ℕ) (vs : List Writing) (k : Stack) (r : List Lexeme) → FitsAll (n - 1) ws → 0 < n
      → run (want (n - 1) 0 (given s x vs n m k)) (tokens_of ws ++ (closer s ∷ r)) ≡ run (have n m (apply s x (fill vs ws)) k) r
  reads_all (one w) s x n m vs k r f z =
      reads w (n - 1) 0 (given s x vs n m k) (closer s ∷ r) f (omega arith) (closer_follows s (level w))
      ∙ ends_run s x vs n m (n - 1) w k (closer s) r (closer_closes s) (closer_plain s)
  reads_all (more w ws) s x n m vs k r f z =
      ap (run (want (n - 1) 0 (given s x vs n m k))) (append_assoc (tokens w) (mark Comma ∷ tokens_of ws) (closer s ∷ r))
      ∙ (reads w (n - 1) 0 (given s x vs n m k) (mark Comma ∷ (tokens_of ws ++ (closer s ∷ r))) f.0 (omega arith) (plain_follows Comma (level w) refl refl)
      ∙ (goes_on_run s x vs n m (n - 1) w k (mark Comma) (tokens_of ws ++ (closer s ∷ r)) (comma_goes_on s) refl
      ∙ reads_all ws s x n m (w ∷ vs) k r f.1 z))

-- what may follow a tree alone
abbrev pub Follows : List Lexeme → Type 0
Follows rest = FollowsAt 0 rest

pub free_word : (other : Word) (name : List ℕ) → Free (word other name)
free_word other name Plain = refl
free_word other name Dotted = refl
free_word other name True = refl
free_word other name Meta = refl
free_word other name Place = refl
