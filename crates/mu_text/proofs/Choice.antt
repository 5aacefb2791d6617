-- A choice by the first token.
use Rattle.std.proofs.Common.{◌≡◌, List, [], ◌∷◌, ◌++◌, Bool, true, false, inl, inr, refl, ap, ◌∙◌, subst}
use Rattle.std.specs.Prelude.{if◌then◌else◌}
use Rattle.mu_grammar.specs.Lexemes.{Lexeme}
use Rattle.mu_grammar.specs.Parts.{Out, found, stopped, Or, either}
use Rattle.mu_text.proofs.Exact.{Exact, Answered}

-- the first token, if there is one, passes no test
abbrev pub Fails : (Lexeme → Bool) → List Lexeme → Type 0
Fails d [] = Unit {0}
Fails d (T ∷ r) = d T ≡ false

abbrev pub Passes : (Lexeme → Bool) → List Lexeme → Type 0
Passes d [] = ⊥
Passes d (T ∷ r) = d T ≡ true

module _ {A : Type 0} (d : Lexeme → Bool) (p q : List Lexeme → Out A) (G H : List Lexeme → A → Type 0) (S : List Lexeme → Type 0) (P : Exact p G S) (Q : Exact q H S)
    (g_passes : (ts : List Lexeme) (x : A) → G ts x → Passes d ts) (h_fails : (ts : List Lexeme) (x : A) (rest : List Lexeme) → H ts x → S rest → Fails d (ts ++ rest)) where
  on_true : (T : Lexeme) (r : List Lexeme) → d T ≡ true → either d p q (T ∷ r) ≡ p (T ∷ r)
  on_true T r e = ap (λ b. if b then p (T ∷ r) else q (T ∷ r)) e

  on_false : (T : Lexeme) (r : List Lexeme) → d T ≡ false → either d p q (T ∷ r) ≡ q (T ∷ r)
  on_false T r e = ap (λ b. if b then p (T ∷ r) else q (T ∷ r)) e

  takes_p : (ts rest : List Lexeme) → Passes d ts → either d p q (ts ++ rest) ≡ p (ts ++ rest)
  takes_p [] rest h = absurd h
  takes_p (T ∷ r) rest h = on_true T (r ++ rest) h

  takes_q : (ts : List Lexeme) → Fails d ts → either d p q ts ≡ q ts
  takes_q [] h = refl
  takes_q (T ∷ r) h = on_false T r h

  full_either : (ts : List Lexeme) (x : A) (rest : List Lexeme) → Or G H ts x → S rest → either d p q (ts ++ rest) ≡ found x rest
  full_either ts x rest (inl g) s = takes_p ts rest (g_passes ts x g) ∙ P.full ts x rest g s
  full_either ts x rest (inr h) s = takes_q (ts ++ rest) (h_fails ts x rest h s) ∙ Q.full ts x rest h s

  -- the list that is read again begins with the same token
  same_first : (f : List Lexeme → Out A) (T : Lexeme) (r seen rest : List Lexeme) (U : Lexeme) (s other : List Lexeme) → ((other : List Lexeme) → either d p q (T ∷ other) ≡ f (T ∷ other))
      → T ∷ r ≡ seen ++ rest → rest ≡ U ∷ s → either d p q (seen ++ (U ∷ other)) ≡ f (seen ++ (U ∷ other))
  same_first f T r [] rest U s other h e i =
      let same : T ≡ U = cc in subst (λ (V : Lexeme). either d p q (V ∷ other) ≡ f (V ∷ other)) same (h other)
  same_first f T r (V ∷ seen) rest U s other h e i =
      let same : T ≡ V = cc in subst (λ (W : Lexeme). either d p q (W ∷ (seen ++ (U ∷ other))) ≡ f (W ∷ (seen ++ (U ∷ other)))) same (h (seen ++ (U ∷ other)))

  from_p : (T : Lexeme) (r : List Lexeme) (o : Out A) → d T ≡ true → Answered p G (T ∷ r) o → Answered (either d p q) (Or G H) (T ∷ r) o
  from_p T r (found x rest) e a = (a.0, a.1, inl a.2, λ U s other i. same_first p T r a.0 rest U s other (λ l. on_true T l e) a.1 i ∙ a.3 U s other i)
  from_p T r (stopped rest) e a = (a.0, a.1, (a.2.0, a.2.1, inl a.2.2), λ U s other i. same_first p T r a.0 rest U s other (λ l. on_true T l e) a.1 i ∙ a.3 U s other i)

  from_q : (T : Lexeme) (r : List Lexeme) (o : Out A) → d T ≡ false → Answered q H (T ∷ r) o → Answered (either d p q) (Or G H) (T ∷ r) o
  from_q T r (found x rest) e a = (a.0, a.1, inr a.2, λ U s other i. same_first q T r a.0 rest U s other (λ l. on_false T l e) a.1 i ∙ a.3 U s other i)
  from_q T r (stopped rest) e a = (a.0, a.1, (a.2.0, a.2.1, inr a.2.2), λ U s other i. same_first q T r a.0 rest U s other (λ l. on_false T l e) a.1 i ∙ a.3 U s other i)

  at_none : (o : Out A) → Answered q H [] o → Answered (either d p q) (Or G H) [] o
  at_none (found x rest) a = (a.0, a.1, inr a.2, λ U s other i. absurd (nothing a.0 rest a.1 U s i))
    where
      nothing : (l m : List Lexeme) → [] ≡ l ++ m → (V : Lexeme) (t : List Lexeme) → m ≡ V ∷ t → ⊥
      nothing [] m e V t j = cc
      nothing (W ∷ l) m e V t j = cc
  at_none (stopped rest) a = (a.0, a.1, (a.2.0, a.2.1, inr a.2.2), λ U s other i. absurd (nothing a.0 rest a.1 U s i))
    where
      nothing : (l m : List Lexeme) → [] ≡ l ++ m → (V : Lexeme) (t : List Lexeme) → m ≡ V ∷ t → ⊥
      nothing [] m e V t j = cc
      nothing (W ∷ l) m e V t j = cc

  chosen : (T : Lexeme) (r : List Lexeme) (b : Bool) → d T ≡ b → Answered (either d p q) (Or G H) (T ∷ r) (if b then p (T ∷ r) else q (T ∷ r))
  chosen T r true e = from_p T r (p (T ∷ r)) e (P.answers (T ∷ r))
  chosen T r false e = from_q T r (q (T ∷ r)) e (Q.answers (T ∷ r))

  answers_either : (ts : List Lexeme) → Answered (either d p q) (Or G H) ts (either d p q ts)
  answers_either [] = at_none (q []) (Q.answers [])
  answers_either (T ∷ r) = chosen T r (d T) refl

  pub Exact-either : Exact (either d p q) (Or G H) S
  Exact-either = record { full = full_either; answers = answers_either; sample = Q.sample; sample_value = Q.sample_value; sample_ok = inr Q.sample_ok }
