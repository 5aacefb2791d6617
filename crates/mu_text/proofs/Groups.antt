-- Parts made of others are read exactly.
use Rattle.std.proofs.Common.{◌≡◌, ℕ, Bool, List, [], ◌∷◌, ◌++◌, Option, Some, None, inl, inr, refl, ap, sym, ◌∙◌, subst, append-nil}
use Rattle.mu_grammar.specs.declared.symbol.Mark.{Mark}
use Rattle.mu_grammar.specs.declared.symbol.Mark.TheVariants.{Open, Close, OpenBracket, CloseBracket}
use Rattle.mu_grammar.specs.Lexemes.{Lexeme, mark}
use Rattle.mu_grammar.specs.Marks.{is_mark}
use Rattle.mu_grammar.specs.Parts.{Out, Nothing, given_back, Then, chain, Or}
use Rattle.mu_grammar.specs.SimpleParts.{GivenMark, GivenWord, SomeKinds, SomeVars, is_word, read_mark, read_word, read_kinds, read_vars}
use Rattle.mu_grammar.specs.Groups.{Enclosed, enclosed, Optional, optional, Any, any, Behind, behind, perhaps, Bracketed, bracketed, ArgumentKinds, read_argument_kinds, Parameters, read_parameters, Formals, read_formals}
use Rattle.mu_text.proofs.Marks.{own_mark}
use Rattle.mu_text.proofs.Choice.{Passes, Fails, Exact-either}
use Rattle.mu_text.proofs.Exact.{Exact, Exact-same, Exact-chain, Exact-pure, Exact-before}
use Rattle.mu_text.proofs.Simple.{Any as Anything, NoComma, Exact-mark, Exact-word, Exact-kinds, Exact-vars, is_own_word}

pub both_empty : (a b : List Lexeme) → a ≡ [] → b ≡ [] → a ++ b ≡ []
both_empty a b e i = rw (e, i) refl

-- what may follow a part that may be left out: what may follow it, and not its beginning
abbrev pub NotBegun : (Lexeme → Bool) → (List Lexeme → Type 0) → List Lexeme → Type 0
NotBegun test S rest = S rest × Fails test rest

-- where no token is spelled, what follows fails the test
none_fails : {A : Type 0} (test : Lexeme → Bool) (S : List Lexeme → Type 0) (none : A) (ts : List Lexeme) (x : A) (rest : List Lexeme) → Nothing none ts x → NotBegun test S rest → Fails test (ts ++ rest)
none_fails test S none ts x rest g s = subst (λ (l : List Lexeme). Fails test (l ++ rest)) (sym g.0) s.1

module _ {A : Type 0} (left right : Mark) (p : List Lexeme → Out A) (G : List Lexeme → A → Type 0) (S : List Lexeme → Type 0) (P : Exact p G S) (right_stops : (rest : List Lexeme) → S (mark right ∷ rest)) where
  abbrev Closed : A → List Lexeme → A → Type 0
  Closed x = Then (GivenMark right) (λ _. Nothing x)

  abbrev Inside : List Lexeme → A → Type 0
  Inside = Then G Closed

  exact_closed : (x : A) → Exact (chain (read_mark right) (λ _. given_back x)) (Closed x) Anything
  exact_closed x = Exact-chain (read_mark right) (λ _. given_back x) (GivenMark right) (λ _. Nothing x) Anything Anything (Exact-mark right) (λ _. Exact-pure x Anything) (λ u b y rest h s. tt)

  closed_is : (x : A) (ts : List Lexeme) (y : A) → Closed x ts y → (ts ≡ mark right ∷ []) × (y ≡ x)
  closed_is x ts y g = (g.3 ∙ (ap (λ l. g.1 ++ l) g.5.0 ∙ (append-nil g.1 ∙ g.4)), g.5.1)

  link_inside : (x : A) (b : List Lexeme) (y : A) (rest : List Lexeme) → Closed x b y → Anything rest → S (b ++ rest)
  link_inside x b y rest g s = subst (λ (l : List Lexeme). S (l ++ rest)) (sym (closed_is x b y g).0) (right_stops rest)

  exact_inside : Exact (chain p (λ x. chain (read_mark right) (λ _. given_back x))) Inside Anything
  exact_inside = Exact-chain p (λ x. chain (read_mark right) (λ _. given_back x)) G Closed S Anything P exact_closed link_inside

  to_enclosed : (ts : List Lexeme) (y : A) → Then (GivenMark left) (λ _. Inside) ts y → Enclosed left right G ts y
  to_enclosed ts y g =
      let inner = g.5 in
      let ends = closed_is inner.0 inner.2 y inner.5 in
      (inner.1, g.3 ∙ (ap (λ l. l ++ g.2) g.4 ∙ ap (λ l. mark left ∷ l) (inner.3 ∙ ap (λ l. inner.1 ++ l) ends.0)), subst (λ (x : A). G inner.1 x) (sym ends.1) inner.4)

  from_enclosed : (ts : List Lexeme) (y : A) → Enclosed left right G ts y → Then (GivenMark left) (λ _. Inside) ts y
  from_enclosed ts y g = (tt, mark left ∷ [], g.0 ++ (mark right ∷ []), g.1, refl, (y, g.0, mark right ∷ [], refl, g.2, (tt, mark right ∷ [], [], refl, refl, (refl, refl))))

  -- between two marks
  pub Exact-enclosed : Exact (enclosed left right p) (Enclosed left right G) Anything
  Exact-enclosed =
      Exact-same (enclosed left right p) (Then (GivenMark left) (λ _. Inside)) (Enclosed left right G) Anything to_enclosed from_enclosed
      (Exact-chain (read_mark left) (λ _. chain p (λ x. chain (read_mark right) (λ _. given_back x))) (GivenMark left) (λ _. Inside) Anything Anything (Exact-mark left) (λ _. exact_inside) (λ u b y rest h s. tt))

  pub enclosed_passes : (ts : List Lexeme) (x : A) → Enclosed left right G ts x → Passes (is_mark left) ts
  enclosed_passes ts x g = subst (Passes (is_mark left)) (sym g.1) (own_mark left)

module _ {A : Type 0} (test : Lexeme → Bool) (p : List Lexeme → Out A) (G : List Lexeme → A → Type 0) (S : List Lexeme → Type 0) (P : Exact p G S)
    (passes : (ts : List Lexeme) (x : A) → G ts x → Passes test ts) where
  abbrev Present : List Lexeme → Option A → Type 0
  Present = Then G (λ x. Nothing (Some x))

  given_is : (ts : List Lexeme) (o : Option A) → Present ts o → (x : A) × G ts x × (o ≡ Some x)
  given_is ts o g = (g.0, subst (λ (l : List Lexeme). G l g.0) (sym (g.3 ∙ (ap (λ l. g.1 ++ l) g.5.0 ∙ append-nil g.1))) g.4, g.5.1)

  to_optional : (ts : List Lexeme) (o : Option A) → Or Present (Nothing None) ts o → Optional G ts o
  to_optional ts o (inl g) = let h : (x : A) × G ts x × (o ≡ Some x) = given_is ts o g in subst (λ (u : Option A). Optional G ts u) (sym h.2) h.1
  to_optional ts o (inr g) = subst (λ (u : Option A). Optional G ts u) (sym g.1) g.0

  from_optional : (ts : List Lexeme) (o : Option A) → Optional G ts o → Or Present (Nothing None) ts o
  from_optional ts (Some x) g = inl (x, ts, [], sym (append-nil ts), g, (refl, refl))
  from_optional ts None g = inr (g, refl)

  given_passes : (ts : List Lexeme) (o : Option A) → Present ts o → Passes test ts
  given_passes ts o g = let h : (x : A) × G ts x × (o ≡ Some x) = given_is ts o g in passes ts h.0 h.1

  exact_given : Exact (chain p (λ x. given_back (Some x))) Present (NotBegun test S)
  exact_given =
      Exact-chain p (λ x. given_back (Some x)) G (λ x. Nothing (Some x)) S (NotBegun test S) P (λ x. Exact-pure (Some x) (NotBegun test S))
      (λ x b o rest g s. subst (λ (l : List Lexeme). S (l ++ rest)) (sym g.0) s.0)

  -- a part that may be left out
  pub Exact-optional : Exact (optional test p) (Optional G) (NotBegun test S)
  Exact-optional =
      Exact-same (optional test p) (Or Present (Nothing None)) (Optional G) (NotBegun test S) to_optional from_optional
      (Exact-either test (chain p (λ x. given_back (Some x))) (given_back None) Present (Nothing None) (NotBegun test S) exact_given (Exact-pure None (NotBegun test S)) given_passes (none_fails test S None))

module _ {A : Type 0} (test : Lexeme → Bool) (p : List Lexeme → Out (List A)) (G : List Lexeme → List A → Type 0) (S : List Lexeme → Type 0) (P : Exact p G S) (some : (ts : List Lexeme) → G ts [] → ⊥)
    (passes : (ts : List Lexeme) (xs : List A) → G ts xs → Passes test ts) where
  to_any : (ts : List Lexeme) (xs : List A) → Or G (Nothing []) ts xs → Any G ts xs
  to_any ts [] (inl g) = absurd (some ts g)
  to_any ts (x ∷ xs) (inl g) = g
  to_any ts xs (inr g) = subst (λ (l : List A). Any G ts l) (sym g.1) g.0

  from_any : (ts : List Lexeme) (xs : List A) → Any G ts xs → Or G (Nothing []) ts xs
  from_any ts [] g = inr (g, refl)
  from_any ts (x ∷ xs) g = inl g

  -- items, of which there may be none
  pub Exact-any : Exact (any test p) (Any G) (NotBegun test S)
  Exact-any =
      Exact-same (any test p) (Or G (Nothing [])) (Any G) (NotBegun test S) to_any from_any
      (Exact-either test p (given_back []) G (Nothing []) (NotBegun test S) (Exact-before p G S (NotBegun test S) (λ rest s. s.0) P) (Exact-pure [] (NotBegun test S)) passes (none_fails test S []))

-- what stands behind a word begins with it
pub behind_passes : {A : Type 0} (text : List ℕ) (G : List Lexeme → A → Type 0) (ts : List Lexeme) (x : A) → Behind text G ts x → Passes (is_word text) ts
behind_passes text G ts x g = subst (Passes (is_word text)) (sym (g.2 ∙ ap (λ l. l ++ g.1) g.3.1)) (is_own_word text g.3.0 g.3.2)

module _ {A : Type 0} (text : List ℕ) (p : List Lexeme → Out A) (G : List Lexeme → A → Type 0) (S : List Lexeme → Type 0) (P : Exact p G S) where
  -- a word, and a part behind it
  pub Exact-behind : Exact (behind text p) (Behind text G) S
  Exact-behind =
      Exact-same (behind text p) (Then (GivenWord text) (λ _. G)) (Behind text G) S (λ ts x g. (g.1, g.2, g.3, g.4, g.5)) (λ ts x g. (tt, g.0, g.1, g.2, g.3, g.4))
      (Exact-chain (read_word text) (λ _. p) (GivenWord text) (λ _. G) Anything S (Exact-word text) (λ _. P) (λ u b y rest g s. tt))

  -- both, where the word stands
  pub Exact-perhaps : Exact (perhaps text p) (Optional (Behind text G)) (NotBegun (is_word text) S)
  Exact-perhaps = Exact-optional (is_word text) (behind text p) (Behind text G) S Exact-behind (behind_passes text G)

module _ {A : Type 0} (left right : Mark) (p : List Lexeme → Out (List A)) (G : List Lexeme → List A → Type 0) (S : List Lexeme → Type 0) (P : Exact p G S) (right_stops : (rest : List Lexeme) → S (mark right ∷ rest))
    (some : (ts : List Lexeme) → G ts [] → ⊥) where
  -- no list between the two marks begins here
  abbrev pub NotOpened : List Lexeme → Type 0
  NotOpened rest = Fails (is_mark left) rest

  pub Exact-bracketed : Exact (bracketed left right p) (Bracketed left right G) NotOpened
  Exact-bracketed =
      Exact-before (bracketed left right p) (Bracketed left right G) (NotBegun (is_mark left) Anything) NotOpened (λ rest h. (tt, h))
      (Exact-any (is_mark left) (enclosed left right p) (Enclosed left right G) Anything (Exact-enclosed left right p G S P right_stops) (λ ts g. some g.0 g.2) (enclosed_passes left right p G S P right_stops))

-- no list of arguments begins here
abbrev pub NoOpen : List Lexeme → Type 0
NoOpen rest = Fails (is_mark Open) rest

pub Exact-argument_kinds : Exact read_argument_kinds ArgumentKinds NoOpen
unfolding read_argument_kinds
Exact-argument_kinds = Exact-bracketed Open Close read_kinds SomeKinds NoComma Exact-kinds (λ rest. (tt, refl)) (λ ts g. g)

pub Exact-formals : Exact read_formals Formals NoOpen
unfolding read_formals
Exact-formals = Exact-bracketed Open Close read_vars SomeVars NoComma Exact-vars (λ rest. (tt, refl)) (λ ts g. g)

-- no list of parameters begins here
abbrev pub NoBracket : List Lexeme → Type 0
NoBracket rest = Fails (is_mark OpenBracket) rest

pub Exact-parameters : Exact read_parameters Parameters NoBracket
unfolding read_parameters
Exact-parameters = Exact-bracketed OpenBracket CloseBracket read_vars SomeVars NoComma Exact-vars (λ rest. (tt, refl)) (λ ts g. g)
