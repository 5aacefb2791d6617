-- What is read was written so, and reading stops at the first token with which no writing begins.
use Rattle.std.proofs.Common.{◌≡◌, ℕ, ◌-◌, ◌<◌, ◌≤◌, List, [], ◌∷◌, ◌++◌, Option, Some, None, Bool, true, false, ◌&&◌, refl, ap, sym, ◌∙◌, subst, append_assoc, append-nil, arith}
use Rattle.std.specs.Prelude.{nat_le, if◌then◌else◌}
use Rattle.std.proofs.lemmas.Bool.Decides.{nat_tests}
use Rattle.mu_grammar.specs.declared.symbol.Word.{Word}
use Rattle.mu_grammar.specs.declared.symbol.Word.TheVariants.{Plain, Dotted, True, Meta, Place}
use Rattle.mu_grammar.specs.declared.symbol.Mark.TheVariants.{Not, Colon, Open, Close, OpenBracket, CloseBracket, OpenBrace, CloseBrace, Comma, Dot}
use Rattle.mu_grammar.specs.declared.way.Beginning.{Beginning}
use Rattle.mu_grammar.specs.declared.way.Beginning.TheVariants as begins
use Rattle.mu_grammar.specs.declared.way.Opening.{Opening}
use Rattle.mu_grammar.specs.declared.way.Opening.TheVariants as opens
use Rattle.mu_grammar.specs.declared.way.Ending.{Ending}
use Rattle.mu_grammar.specs.declared.way.Ending.TheVariants as ends
use Rattle.mu_grammar.specs.declared.ops.Op.{Op}
use Rattle.mu_grammar.specs.Lexemes.{Lexeme, word, mark, bytes_of}
use Rattle.mu_grammar.specs.Ops.{binary, prefix_level, atom_level}
use Rattle.mu_grammar.specs.Writings.{Writing, Writings, leaf, apply, bind, paren, neg, bin, one, more, level, tokens, tokens_of, Fits, FitsAll, IsTree, is_head, is_binder, opener, closer}
use Rattle.mu_grammar.specs.Parts.{Begins, Out, found, stopped}
use Rattle.mu_grammar.specs.Machine.{Stack, top, right, negated, inside, given, domain, body, fill, Mode, want, named, binding, typing, have, Next, go, done, stop, open_levels, after, close_given, close, after_tree, begin, after_name, beginning, opening, ending, step, finish, ended, at_end, run}
use Rattle.mu_text.proofs.Complete.{Shape, shape, run_go}

-- the tokens of the arguments before, each with its comma
abbrev pub earlier : List Writing → List Lexeme
earlier [] = []
earlier (w ∷ vs) = earlier vs ++ (tokens w ++ (mark Comma ∷ []))

-- the tokens that have been read
abbrev pub before : Stack → List Lexeme
before top = []
before (right S o a n m k) = before k ++ (tokens a ++ (S ∷ []))
before (negated n m k) = before k ++ (mark Not ∷ [])
before (inside n m k) = before k ++ (mark Open ∷ [])
before (given s x vs n m k) = before k ++ (word s x ∷ opener s ∷ earlier vs)
before (domain s x v n m k) = before k ++ (word s x ∷ mark OpenBrace ∷ word Plain v ∷ mark Colon ∷ [])
before (body s x v d n m k) = before k ++ (word s x ∷ mark OpenBrace ∷ word Plain v ∷ mark Colon ∷ (tokens d ++ (mark Dot ∷ [])))

-- any writing
abbrev pub some : Writing
some = leaf Plain (97 ∷ [])

-- the fewest tokens that end it
abbrev pub behind : Stack → List Lexeme
behind top = []
behind (right S o a n m k) = behind k
behind (negated n m k) = behind k
behind (inside n m k) = mark Close ∷ behind k
behind (given s x vs n m k) = closer s ∷ behind k
behind (domain s x v n m k) = mark Dot ∷ word Plain (97 ∷ []) ∷ mark CloseBrace ∷ behind k
behind (body s x v d n m k) = mark CloseBrace ∷ behind k

abbrev pub plug : Stack → Writing → Writing
plug top w = w
plug (right S o a n m k) w = plug k (bin S o a w)
plug (negated n m k) w = plug k (neg w)
plug (inside n m k) w = plug k (paren w)
plug (given s x vs n m k) w = plug k (apply s x (fill vs (one w)))
plug (domain s x v n m k) w = plug k (bind s x v w some)
plug (body s x v d n m k) w = plug k (bind s x v d w)

abbrev pub FitsEach : ℕ → List Writing → Type 0
FitsEach n [] = Unit {0}
FitsEach n (w ∷ vs) = Fits n w × FitsEach n vs

abbrev pub Valid : ℕ → ℕ → ℕ → Stack → Type 0
Valid N n m top = (n ≡ N) × (m ≡ 0)
Valid N n m (right S o a n0 m0 k) = (binary S ≡ Some o) × (o.left ≤ level a) × Fits n0 a × (m0 ≤ o.level) × (o.opens ≤ n0) × (n ≡ n0 - o.opens) × (m ≡ o.right) × Valid N n0 m0 k
Valid N n m (negated n0 m0 k) = (m0 ≤ prefix_level) × (0 < n0) × (n ≡ n0 - 1) × (m ≡ prefix_level) × Valid N n0 m0 k
Valid N n m (inside n0 m0 k) = (m0 ≤ atom_level) × (0 < n0) × (n ≡ n0 - 1) × (m ≡ 0) × Valid N n0 m0 k
Valid N n m (given s x vs n0 m0 k) = (is_head s ≡ true) × (m0 ≤ atom_level) × (0 < n0) × (n ≡ n0 - 1) × (m ≡ 0) × FitsEach (n0 - 1) vs × Valid N n0 m0 k
Valid N n m (domain s x v n0 m0 k) = (is_binder s ≡ true) × (m0 ≤ atom_level) × (0 < n0) × (n ≡ n0 - 1) × (m ≡ 0) × Valid N n0 m0 k
Valid N n m (body s x v d n0 m0 k) = (is_binder s ≡ true) × (m0 ≤ atom_level) × (0 < n0) × (n ≡ n0 - 1) × (m ≡ 0) × Fits (n0 - 1) d × Valid N n0 m0 k

abbrev pub Good : ℕ → Mode → Type 0
Good N (want n m k) = (m ≤ atom_level) × Valid N n m k
Good N (named s x n m k) = (is_head s ≡ true) × (m ≤ atom_level) × Valid N n m k
Good N (binding s x n m k) = (is_binder s ≡ true) × (0 < n) × (m ≤ atom_level) × Valid N n m k
Good N (typing s x v n m k) = (is_binder s ≡ true) × (0 < n) × (m ≤ atom_level) × Valid N n m k
Good N (have n m w k) = (m ≤ level w) × Fits n w × Valid N n m k

abbrev pub seen : Mode → List Lexeme
seen (want n m k) = before k
seen (named s x n m k) = before k ++ (word s x ∷ [])
seen (binding s x n m k) = before k ++ (word s x ∷ mark OpenBrace ∷ [])
seen (typing s x v n m k) = before k ++ (word s x ∷ mark OpenBrace ∷ word Plain v ∷ [])
seen (have n m w k) = before k ++ tokens w

abbrev pub GoodNext : ℕ → List Lexeme → Lexeme → Next → Type 0
GoodNext N front T (go s) = Good N s × (seen s ≡ front ++ (T ∷ []))
GoodNext N front T (done w) = Fits N w × (tokens w ≡ front)
GoodNext N front T stop = Unit {0}

tokens-fill : (vs : List Writing) (ws : Writings) → tokens_of (fill vs ws) ≡ earlier vs ++ tokens_of ws
tokens-fill [] ws = refl
tokens-fill (v ∷ vs) ws = tokens-fill vs (more v ws) ∙ simp append_assoc

fits-fill : (n : ℕ) (vs : List Writing) (ws : Writings) → FitsEach n vs → FitsAll n ws → FitsAll n (fill vs ws)
fits-fill n [] ws f g = g
fits-fill n (v ∷ vs) ws f g = fits-fill n vs (more v ws) f.1 (f.0, g)

pub tokens-plug : (k : Stack) (w : Writing) → tokens (plug k w) ≡ before k ++ (tokens w ++ behind k)
tokens-plug top w = sym (append-nil (tokens w))
tokens-plug (right S o a n m k) w = tokens-plug k (bin S o a w) ∙ simp append_assoc
tokens-plug (negated n m k) w = tokens-plug k (neg w) ∙ simp append_assoc
tokens-plug (inside n m k) w = tokens-plug k (paren w) ∙ simp append_assoc
tokens-plug (given s x vs n m k) w = tokens-plug k (apply s x (fill vs (one w))) ∙ (rw (tokens-fill vs (one w)) (simp append_assoc))
tokens-plug (domain s x v n m k) w = tokens-plug k (bind s x v w some) ∙ simp append_assoc
tokens-plug (body s x v d n m k) w = tokens-plug k (bind s x v d w) ∙ simp append_assoc

move : (i j : ℕ) (w : Writing) → i ≡ j → Fits i w → Fits j w
move i j w e f = subst (λ (h : ℕ). Fits h w) e f

pub fits-plug : (N n m : ℕ) (k : Stack) (w : Writing) → Valid N n m k → Fits n w → m ≤ level w → Fits N (plug k w)
fits-plug N n m top w v f h = move n N w v.0 f
fits-plug N n m (right S o a n0 m0 k) w v f h =
    fits-plug N n0 m0 k (bin S o a w) v.7 (v.0, v.1, v.2, v.4, (let e : m ≡ o.right = v.6 in omega arith), move n (n0 - o.opens) w v.5 f) v.3
fits-plug N n m (negated n0 m0 k) w v f h =
    fits-plug N n0 m0 k (neg w) v.4 (v.1, (let e : m ≡ prefix_level = v.3 in omega arith), move n (n0 - 1) w v.2 f) v.0
fits-plug N n m (inside n0 m0 k) w v f h = fits-plug N n0 m0 k (paren w) v.4 (v.1, move n (n0 - 1) w v.2 f) v.0
fits-plug N n m (given s x vs n0 m0 k) w v f h =
    fits-plug N n0 m0 k (apply s x (fill vs (one w))) v.6 (v.0, v.2, fits-fill (n0 - 1) vs (one w) v.5 (move n (n0 - 1) w v.3 f)) v.1
fits-plug N n m (domain s x v n0 m0 k) w u f h = fits-plug N n0 m0 k (bind s x v w some) u.5 (u.0, u.2, move n (n0 - 1) w u.3 f, refl) u.1
fits-plug N n m (body s x v d n0 m0 k) w u f h = fits-plug N n0 m0 k (bind s x v d w) u.6 (u.0, u.2, u.5, move n (n0 - 1) w u.3 f) u.1

-- what has been read so far begins some writing
pub alive : (N : ℕ) (s : Mode) → Good N s → Begins (IsTree N) (seen s)
alive N (want n m k) g = (word Plain (97 ∷ []) ∷ behind k, plug k some, (fits-plug N n m k some g.1 refl g.0, tokens-plug k some))
alive N (named s x n m k) g = (behind k, plug k (leaf s x), (fits-plug N n m k (leaf s x) g.2 g.0 g.1, tokens-plug k (leaf s x) ∙ simp append_assoc))
alive N (binding s x n m k) g =
    let w : Writing = bind s x (97 ∷ []) some some in (
      word Plain (97 ∷ []) ∷ mark Colon ∷ word Plain (97 ∷ []) ∷ mark Dot ∷ word Plain (97 ∷ []) ∷ mark CloseBrace ∷ behind k,
      plug k w,
      (fits-plug N n m k w g.3 (g.0, g.1, refl, refl) g.2, tokens-plug k w ∙ simp append_assoc),
    )
alive N (typing s x v n m k) g =
    let w : Writing = bind s x v some some in (
      mark Colon ∷ word Plain (97 ∷ []) ∷ mark Dot ∷ word Plain (97 ∷ []) ∷ mark CloseBrace ∷ behind k,
      plug k w,
      (fits-plug N n m k w g.3 (g.0, g.1, refl, refl) g.2, tokens-plug k w ∙ simp append_assoc),
    )
alive N (have n m w k) g = (behind k, plug k w, (fits-plug N n m k w g.2 g.1 g.0, tokens-plug k w ∙ simp append_assoc))

pick : (b : Bool) (P : Next → Type 0) (x y : Next) → (b ≡ true → P x) → (b ≡ false → P y) → P (if b then x else y)
pick true P x y f g = f refl
pick false P x y f g = g refl

pub le_from : (a b : ℕ) → nat_le a b ≡ true → a ≤ b
le_from a b e = grind (arith, nat_tests)

and_left : (a b : Bool) → (a && b) ≡ true → a ≡ true
and_left true b e = refl
and_left false b e = e

and_right : (a b : Bool) → (a && b) ≡ true → b ≡ true
and_right true b e = e
and_right false b e = cc

open_good : (N : ℕ) (front : List Lexeme) (T : Lexeme) (i n : ℕ) (s : Mode) → (i ≤ n → GoodNext N front T (go s)) → GoodNext N front T (open_levels i n s)
open_good N front T i n s h = pick (nat_le i n) (GoodNext N front T) (go s) stop (λ e. h (le_from i n e)) (λ e. tt)

after_good : (N n m : ℕ) (w : Writing) (k : Stack) (T : Lexeme) (other : Next) → m ≤ level w → Fits n w → Valid N n m k
    → GoodNext N (before k ++ tokens w) T other → (o : Option Op) → binary T ≡ o → GoodNext N (before k ++ tokens w) T (after n m w k T other o)
after_good N n m w k T other h f v g None e = g
after_good N n m w k T other h f v g (Some p) e =
    pick (nat_le m p.level && nat_le p.left (level w)) (GoodNext N (before k ++ tokens w) T) (open_levels p.opens n (want (n - p.opens) p.right (right T p w n m k))) other
    (λ t. open_good N (before k ++ tokens w) T p.opens n (want (n - p.opens) p.right (right T p w n m k))
    (λ i. (
      (
        shape_right p (shape T p e),
        (e, le_from p.left (level w) (and_right (nat_le m p.level) (nat_le p.left (level w)) t), f, le_from m p.level (and_left (nat_le m p.level) (nat_le p.left (level w)) t), i, refl, refl, v),
      ),
      sym (append_assoc (before k) (tokens w) (T ∷ [])),
    )))
    (λ t. g)
  where
    shape_right : (q : Op) → Shape q → q.right ≤ atom_level
    shape_right q s = grind (arith, s.side_right, s.within)

-- what the small answers say of the token
pub at_ending : (s : Word) (T : Lexeme) → ending s T ≡ ends.Closes → is_head s ≡ true → T ≡ closer s
at_ending Place T e h = cc
at_ending Meta (word s x) e h = cc
at_ending Meta (mark CloseBracket) e h = refl
at_ending Meta (mark _) e h = cc
at_ending _ (word s x) e h = cc
at_ending _ (mark Close) e h = refl
at_ending _ (mark _) e h = cc

pub at_comma : (s : Word) (T : Lexeme) → ending s T ≡ ends.GoesOn → T ≡ mark Comma
at_comma s (mark Comma) e = refl
at_comma Meta (word t x) e = cc
at_comma Meta (mark _) e = cc
at_comma _ (word t x) e = cc
at_comma _ (mark _) e = cc

pub at_opener : (s : Word) (T : Lexeme) → opening s T ≡ opens.Arguments → T ≡ opener s
at_opener Place T e = cc
at_opener Meta (word s x) e = cc
at_opener Meta (mark OpenBracket) e = refl
at_opener Meta (mark _) e = cc
at_opener _ (word s x) e = cc
at_opener _ (mark Open) e = refl
at_opener _ (mark _) e = cc

pub at_brace : (s : Word) (T : Lexeme) → opening s T ≡ opens.Binder → (T ≡ mark OpenBrace) × (is_binder s ≡ true)
at_brace Place T e = cc
at_brace Meta (word s x) e = cc
at_brace Meta (mark OpenBracket) e = cc
at_brace Meta (mark _) e = cc
at_brace _ (word s x) e = cc
at_brace _ (mark OpenBrace) e = (refl, refl)
at_brace _ (mark _) e = cc

pub at_head : (s : Word) (T : Lexeme) → beginning T ≡ begins.Head s → (T ≡ word s (bytes_of T)) × (is_head s ≡ true)
at_head s (word Place x) e = cc
at_head Plain (word Plain x) e = (refl, refl)
at_head Dotted (word Dotted x) e = (refl, refl)
at_head True (word True x) e = (refl, refl)
at_head Meta (word Meta x) e = (refl, refl)
at_head s (word _ x) e = cc
at_head s (mark Open) e = cc
at_head s (mark Not) e = cc
at_head s (mark _) e = cc

pub at_paren : (T : Lexeme) → beginning T ≡ begins.Paren → T ≡ mark Open
at_paren (word Place x) e = cc
at_paren (word _ x) e = cc
at_paren (mark Open) e = refl
at_paren (mark Not) e = cc
at_paren (mark _) e = cc

pub at_not : (T : Lexeme) → beginning T ≡ begins.Negation → T ≡ mark Not
at_not (word Place x) e = cc
at_not (word _ x) e = cc
at_not (mark Open) e = cc
at_not (mark Not) e = refl
at_not (mark _) e = cc

given_good : (N n m : ℕ) (s : Word) (x : List ℕ) (vs : List Writing) (n0 m0 : ℕ) (k : Stack) (w : Writing) (T : Lexeme) → Valid N n m (given s x vs n0 m0 k) → Fits n w
    → (e : Ending) → ending s T ≡ e → GoodNext N (before (given s x vs n0 m0 k) ++ tokens w) T (close_given s x vs n0 m0 w k e)
given_good N n m s x vs n0 m0 k w T v f ends.Closes e =
    let t : T ≡ closer s = at_ending s T e v.0 in
    ((v.1, (v.0, v.2, fits-fill (n0 - 1) vs (one w) v.5 (move n (n0 - 1) w v.3 f)), v.6), rw (t, tokens-fill vs (one w)) (simp append_assoc))
given_good N n m s x vs n0 m0 k w T v f ends.GoesOn e =
    let t : T ≡ mark Comma = at_comma s T e in
    ((omega arith, (v.0, v.1, v.2, refl, refl, (move n (n0 - 1) w v.3 f, v.5), v.6)), rw t (simp append_assoc))
given_good N n m s x vs n0 m0 k w T v f ends.Nothing e = tt

close_good : (k : Stack) (w : Writing) (T : Lexeme) (N n m : ℕ) → Valid N n m k → Fits n w → m ≤ level w → GoodNext N (before k ++ tokens w) T (close k w T)
close_good top w T N n m v f h = (move n N w v.0 f, refl)
close_good (right S o a n0 m0 k) w T N n m v f h =
    let all : Fits n0 (bin S o a w) = (v.0, v.1, v.2, v.4, (let e : m ≡ o.right = v.6 in omega arith), move n (n0 - o.opens) w v.5 f) in
    let same : before k ++ tokens (bin S o a w) ≡ before (right S o a n0 m0 k) ++ tokens w = simp append_assoc in
    subst (λ (front : List Lexeme). GoodNext N front T (close (right S o a n0 m0 k) w T)) same
    (after_good N n0 m0 (bin S o a w) k T (close k (bin S o a w) T) v.3 all v.7 (close_good k (bin S o a w) T N n0 m0 v.7 all v.3) (binary T) refl)
close_good (negated n0 m0 k) w T N n m v f h =
    let all : Fits n0 (neg w) = (v.1, (let e : m ≡ prefix_level = v.3 in omega arith), move n (n0 - 1) w v.2 f) in
    let same : before k ++ tokens (neg w) ≡ before (negated n0 m0 k) ++ tokens w = simp append_assoc in
    subst (λ (front : List Lexeme). GoodNext N front T (close (negated n0 m0 k) w T)) same
    (after_good N n0 m0 (neg w) k T (close k (neg w) T) v.0 all v.4 (close_good k (neg w) T N n0 m0 v.4 all v.0) (binary T) refl)
close_good (inside n0 m0 k) w (mark Close) N n m v f h = ((v.0, (v.1, move n (n0 - 1) w v.2 f), v.4), simp append_assoc)
close_good (inside n0 m0 k) w _ N n m v f h = tt
close_good (given s x vs n0 m0 k) w T N n m v f h = given_good N n m s x vs n0 m0 k w T v f (ending s T) refl
close_good (domain s x v n0 m0 k) w (mark Dot) N n m u f h = ((omega arith, (u.0, u.1, u.2, refl, refl, move n (n0 - 1) w u.3 f, u.5)), simp append_assoc)
close_good (domain s x v n0 m0 k) w _ N n m u f h = tt
close_good (body s x v d n0 m0 k) w (mark CloseBrace) N n m u f h = ((u.1, (u.0, u.2, u.5, move n (n0 - 1) w u.3 f), u.6), simp append_assoc)
close_good (body s x v d n0 m0 k) w _ N n m u f h = tt

seen_good : (N n m : ℕ) (w : Writing) (k : Stack) (T : Lexeme) → m ≤ level w → Fits n w → Valid N n m k → GoodNext N (before k ++ tokens w) T (after_tree n m w k T)
seen_good N n m w k T h f v = after_good N n m w k T (close k w T) h f v (close_good k w T N n m v f h) (binary T) refl

begin_good : (N n m : ℕ) (k : Stack) (T : Lexeme) → m ≤ atom_level → Valid N n m k → (b : Beginning) → beginning T ≡ b → GoodNext N (before k) T (begin n m k (bytes_of T) b)
begin_good N n m k T h v (begins.Head s) e =
    let t : (T ≡ word s (bytes_of T)) × (is_head s ≡ true) = at_head s T e in ((t.1, h, v), ap (λ S. before k ++ (S ∷ [])) (sym t.0))
begin_good N n m k T h v begins.Paren e =
    let t : T ≡ mark Open = at_paren T e in
    open_good N (before k) T 1 n (want (n - 1) 0 (inside n m k)) (λ i. ((omega arith, (h, omega arith, refl, refl, v)), ap (λ S. before k ++ (S ∷ [])) (sym t)))
begin_good N n m k T h v begins.Negation e =
    let t : T ≡ mark Not = at_not T e in
    pick (nat_le m prefix_level) (GoodNext N (before k) T) (open_levels 1 n (want (n - 1) prefix_level (negated n m k))) stop
    (λ q. open_good N (before k) T 1 n (want (n - 1) prefix_level (negated n m k)) (λ i. ((omega arith, (le_from m prefix_level q, omega arith, refl, refl, v)), ap (λ S. before k ++ (S ∷ [])) (sym t))))
    (λ q. tt)
begin_good N n m k T h v begins.Nothing e = tt

name_good : (N : ℕ) (s : Word) (x : List ℕ) (n m : ℕ) (k : Stack) (T : Lexeme) → is_head s ≡ true → m ≤ atom_level → Valid N n m k → (o : Opening) → opening s T ≡ o
    → GoodNext N (before k ++ (word s x ∷ [])) T (after_name s x n m k T o)
name_good N s x n m k T i h v opens.Arguments e =
    let t : T ≡ opener s = at_opener s T e in
    open_good N (before k ++ (word s x ∷ [])) T 1 n (want (n - 1) 0 (given s x [] n m k)) (λ j. ((omega arith, (i, h, omega arith, refl, refl, tt, v)), rw t (simp append_assoc)))
name_good N s x n m k T i h v opens.Binder e =
    let t : (T ≡ mark OpenBrace) × (is_binder s ≡ true) = at_brace s T e in
    open_good N (before k ++ (word s x ∷ [])) T 1 n (binding s x n m k) (λ j. ((t.1, omega arith, h, v), rw t.0 (simp append_assoc)))
name_good N s x n m k T i h v opens.Nothing e = seen_good N n m (leaf s x) k T h i v

bound_good : (N : ℕ) (s : Word) (x : List ℕ) (n m : ℕ) (k : Stack) (T : Lexeme) → Good N (binding s x n m k) → GoodNext N (seen (binding s x n m k)) T (step (binding s x n m k) T)
bound_good N s x n m k (word Plain v) g = (g, simp append_assoc)
bound_good N s x n m k _ g = tt

typed_good : (N : ℕ) (s : Word) (x v : List ℕ) (n m : ℕ) (k : Stack) (T : Lexeme) → Good N (typing s x v n m k) → GoodNext N (seen (typing s x v n m k)) T (step (typing s x v n m k) T)
typed_good N s x v n m k (mark Colon) g = ((omega arith, (g.0, g.2, g.1, refl, refl, g.3)), simp append_assoc)
typed_good N s x v n m k _ g = tt

pub step_good : (N : ℕ) (s : Mode) (T : Lexeme) → Good N s → GoodNext N (seen s) T (step s T)
step_good N (want n m k) T g = begin_good N n m k T g.0 g.1 (beginning T) refl
step_good N (named s x n m k) T g = name_good N s x n m k T g.0 g.1 g.2 (opening s T) refl
step_good N (binding s x n m k) T g = bound_good N s x n m k T g
step_good N (typing s x v n m k) T g = typed_good N s x v n m k T g
step_good N (have n m w k) T g = seen_good N n m w k T g.0 g.1 g.2

-- what holds of an answer to the tokens ts, after front
abbrev pub Answers : ℕ → Mode → List Lexeme → List Lexeme → Out Writing → Type 0
Answers N s front ts (found w rest) =
    Fits N w × (taken : List Lexeme) × (ts ≡ taken ++ rest) × (tokens w ≡ front ++ taken)
    × ((T : Lexeme) (r other : List Lexeme) → rest ≡ T ∷ r → run s (taken ++ (T ∷ other)) ≡ found w (T ∷ other))
Answers N s front ts (stopped rest) =
    (taken : List Lexeme) × (ts ≡ taken ++ rest) × Begins (IsTree N) (front ++ taken)
    × ((T : Lexeme) (r other : List Lexeme) → rest ≡ T ∷ r → run s (taken ++ (T ∷ other)) ≡ stopped (T ∷ other))

finish_good : (N : ℕ) (k : Stack) (w : Writing) (n m : ℕ) → Valid N n m k → Fits n w → m ≤ level w
    → (s : Mode) (v : Option Writing) → Begins (IsTree N) (before k ++ tokens w) → finish k w ≡ v → Answers N s (before k ++ tokens w) [] (ended v)
finish_good N k w n m v f h s None b e = ([], refl, rw append-nil b, λ T r other i. cc)
finish_good N k w n m v f h s (Some x) b e =
    let p : Fits N x × (tokens x ≡ before k ++ tokens w) = ended_good k w n m v f h x e in
    (p.0, [], refl, p.1 ∙ sym (append-nil (before k ++ tokens w)), λ T r other i. cc)
  where
    ended_good : (k : Stack) (w : Writing) (n m : ℕ) → Valid N n m k → Fits n w → m ≤ level w → (x : Writing) → finish k w ≡ Some x → Fits N x × (tokens x ≡ before k ++ tokens w)
    ended_good top w n m v f h x e =
        let same : w ≡ x = cc in subst (λ (y : Writing). Fits N y × (tokens y ≡ tokens w)) same (move n N w v.0 f, refl)
    ended_good (right S o a n0 m0 k) w n m v f h x e =
        let p : Fits N x × (tokens x ≡ before k ++ tokens (bin S o a w)) =
        ended_good k (bin S o a w) n0 m0 v.7 (v.0, v.1, v.2, v.4, (let g : m ≡ o.right = v.6 in omega arith), move n (n0 - o.opens) w v.5 f) v.3 x e in
        (p.0, p.1 ∙ simp append_assoc)
    ended_good (negated n0 m0 k) w n m v f h x e =
        let p : Fits N x × (tokens x ≡ before k ++ tokens (neg w)) =
        ended_good k (neg w) n0 m0 v.4 (v.1, (let g : m ≡ prefix_level = v.3 in omega arith), move n (n0 - 1) w v.2 f) v.0 x e in
        (p.0, p.1 ∙ simp append_assoc)
    ended_good (inside n0 m0 k) w n m v f h x e = cc
    ended_good (given y s vs n0 m0 k) w n m v f h x e = cc
    ended_good (domain y s u n0 m0 k) w n m v f h x e = cc
    ended_good (body y s u d n0 m0 k) w n m v f h x e = cc

end_good : (N : ℕ) (s : Mode) → Good N s → Answers N s (seen s) [] (at_end s)
end_good N (want n m k) g = ([], refl, rw append-nil (alive N (want n m k) g), λ T r other i. cc)
end_good N (named s x n m k) g = finish_good N k (leaf s x) n m g.2 g.0 g.1 (named s x n m k) (finish k (leaf s x)) (alive N (named s x n m k) g) refl
end_good N (binding s x n m k) g = ([], refl, rw append-nil (alive N (binding s x n m k) g), λ T r other i. cc)
end_good N (typing s x v n m k) g = ([], refl, rw append-nil (alive N (typing s x v n m k) g), λ T r other i. cc)
end_good N (have n m w k) g = finish_good N k w n m g.2 g.1 g.0 (have n m w k) (finish k w) (alive N (have n m w k) g) refl

earlier_answer : (N : ℕ) (s s' : Mode) (T : Lexeme) (r : List Lexeme) → step s T ≡ go s' → seen s' ≡ seen s ++ (T ∷ []) → (out : Out Writing)
    → Answers N s' (seen s') r out → Answers N s (seen s) (T ∷ r) out
earlier_answer N s s' T r e i (found w rest) a = (
  a.0,
  T ∷ a.1,
  ap (λ l. T ∷ l) a.2,
  a.3 ∙ (ap (λ l. l ++ a.1) i ∙ append_assoc (seen s) (T ∷ []) a.1),
  λ S q other j. run_go s T (a.1 ++ (S ∷ other)) s' e ∙ a.4 S q other j,
)
earlier_answer N s s' T r e i (stopped rest) a = (
  T ∷ a.0,
  ap (λ l. T ∷ l) a.1,
  subst (Begins (IsTree N)) (ap (λ l. l ++ a.0) i ∙ append_assoc (seen s) (T ∷ []) a.0) a.2,
  λ S q other j. run_go s T (a.0 ++ (S ∷ other)) s' e ∙ a.3 S q other j,
)

abbrev onward : Next → Lexeme → List Lexeme → Out Writing
onward x T r = elim x [ go s' ↦ run s' r | done w ↦ found w (T ∷ r) | stop ↦ stopped (T ∷ r) ]

pub run_next : (s : Mode) (T : Lexeme) (r : List Lexeme) (x : Next) → step s T ≡ x → run s (T ∷ r) ≡ onward x T r
run_next s T r x e = rw (e, run) refl

next_good : (r : List Lexeme) (N : ℕ) (s : Mode) (T : Lexeme) → ((s' : Mode) → Good N s' → Answers N s' (seen s') r (run s' r)) → (x : Next) → step s T ≡ x → Good N s
    → GoodNext N (seen s) T x → Answers N s (seen s) (T ∷ r) (onward x T r)
next_good r N s T ih (go s') e g h = earlier_answer N s s' T r e h.1 (run s' r) (ih s' h.0)
next_good r N s T ih (done w) e g h = (
  h.0,
  [],
  refl,
  h.1 ∙ sym (append-nil (seen s)),
  λ S q other j. let same : T ≡ S = cc in subst (λ (U : Lexeme). run s (U ∷ other) ≡ found w (U ∷ other)) same (run_next s T other (done w) e),
)
next_good r N s T ih stop e g h = (
  [],
  refl,
  rw append-nil (alive N s g),
  λ S q other j. let same : T ≡ S = cc in subst (λ (U : Lexeme). run s (U ∷ other) ≡ stopped (U ∷ other)) same (run_next s T other stop e),
)

pub run_good : (ts : List Lexeme) (N : ℕ) (s : Mode) → Good N s → Answers N s (seen s) ts (run s ts)
run_good [] N s g = end_good N s g
run_good (T ∷ r) N s g = next_good r N s T (λ s' h. run_good r N s' h) (step s T) refl g (step_good N s T g)

abbrev pub start : ℕ → Mode
start N = want N 0 top

pub start_good : (N : ℕ) → Good N (start N)
start_good N = (omega arith, (refl, refl))
