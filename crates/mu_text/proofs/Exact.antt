-- A reader that is exact, online and always within reach of some spelling; how such readers join.
use Rattle.std.proofs.Common.{◌≡◌, ◌+◌, ◌≤◌, List, [], ◌∷◌, ◌++◌, length, Option, Some, None, refl, ap, sym, ◌∙◌, subst, append_assoc, append-nil, length-append, arith}
use Rattle.mu_grammar.specs.Lexemes.{Lexeme}
use Rattle.mu_grammar.specs.Parts.{Begins, Out, found, stopped, ◌>>=◌, taken, token, OneToken, Nothing, given_back, End, at_end, Then, chain, Made, mapped}

abbrev pub Answered : {A : Type 0} → (List Lexeme → Out A) → (List Lexeme → A → Type 0) → List Lexeme → Out A → Type 0
Answered p G ts (found x rest) =
    (seen : List Lexeme) × (ts ≡ seen ++ rest) × G seen x × ((T : Lexeme) (r other : List Lexeme) → rest ≡ T ∷ r → p (seen ++ (T ∷ other)) ≡ found x (T ∷ other))
Answered p G ts (stopped rest) =
    (seen : List Lexeme) × (ts ≡ seen ++ rest) × Begins G seen × ((T : Lexeme) (r other : List Lexeme) → rest ≡ T ∷ r → p (seen ++ (T ∷ other)) ≡ stopped (T ∷ other))

-- p reads the language G; S says what may follow
pub record Exact {A : Type 0} (p : List Lexeme → Out A) (G : List Lexeme → A → Type 0) (S : List Lexeme → Type 0) : Type 0 where
  pub full : (ts : List Lexeme) (x : A) (rest : List Lexeme) → G ts x → S rest → p (ts ++ rest) ≡ found x rest
  pub answers : (ts : List Lexeme) → Answered p G ts (p ts)
  pub sample : List Lexeme
  pub sample_value : A
  pub sample_ok : G sample sample_value

module _ {A B : Type 0} (p : List Lexeme → Out A) (q : A → List Lexeme → Out B) (G : List Lexeme → A → Type 0) (H : A → List Lexeme → B → Type 0) (S R : List Lexeme → Type 0)
    (P : Exact p G S) (Q : (x : A) → Exact (q x) (H x) R) (link : (x : A) (b : List Lexeme) (y : B) (rest : List Lexeme) → H x b y → R rest → S (b ++ rest)) where
  full_chain : (ts : List Lexeme) (y : B) (rest : List Lexeme) → Then G H ts y → R rest → chain p q (ts ++ rest) ≡ found y rest
  full_chain ts y rest t s =
      ap (λ l. chain p q (l ++ rest)) t.3
      ∙ (ap (chain p q) (append_assoc t.1 t.2 rest)
      ∙ (ap (λ o. o >>= q) (P.full t.1 t.0 (t.2 ++ rest) t.4 (link t.0 t.2 y rest t.5 s)) ∙ (Q t.0).full t.2 y rest t.5 s))

  begun_first : (seen : List Lexeme) → Begins G seen → Begins (Then G H) seen
  begun_first seen b =
      let w : Exact (q b.1) (H b.1) R = Q b.1 in
      (b.0 ++ w.sample, w.sample_value, (b.1, seen ++ b.0, w.sample, sym (append_assoc seen b.0 w.sample), b.2, w.sample_ok))

  begun_second : (a seen : List Lexeme) (x : A) → G a x → Begins (H x) seen → Begins (Then G H) (a ++ seen)
  begun_second a seen x g b = (b.0, b.1, (x, a, seen ++ b.0, append_assoc a seen b.0, g, b.2))

  -- the first reader stops at the same place whatever follows the token at which the second stops
  first_again : (x : A) (a seen rest : List Lexeme) (T : Lexeme) (r other : List Lexeme)
      → ((U : Lexeme) (s o : List Lexeme) → seen ++ rest ≡ U ∷ s → p (a ++ (U ∷ o)) ≡ found x (U ∷ o)) → rest ≡ T ∷ r
      → chain p q ((a ++ seen) ++ (T ∷ other)) ≡ q x (seen ++ (T ∷ other))
  first_again x a [] rest T r other h e =
      ap (λ l. chain p q (l ++ (T ∷ other))) (append-nil a) ∙ ap (λ o. o >>= q) (h T r other e)
  first_again x a (U ∷ s) rest T r other h e =
      ap (chain p q) (append_assoc a (U ∷ s) (T ∷ other)) ∙ ap (λ o. o >>= q) (h U (s ++ rest) (s ++ (T ∷ other)) refl)

  second : (ts a rest : List Lexeme) (x : A) → ts ≡ a ++ rest → G a x → ((T : Lexeme) (r other : List Lexeme) → rest ≡ T ∷ r → p (a ++ (T ∷ other)) ≡ found x (T ∷ other))
      → (o : Out B) → Answered (q x) (H x) rest o → Answered (chain p q) (Then G H) ts o
  second ts a rest x e g h (found y rest') w = (
    a ++ w.0,
    e ∙ (ap (λ l. a ++ l) w.1 ∙ sym (append_assoc a w.0 rest')),
    (x, a, w.0, refl, g, w.2),
    λ T r other i. first_again x a w.0 rest' T r other (λ U s o j. h U s o (w.1 ∙ j)) i ∙ w.3 T r other i,
  )
  second ts a rest x e g h (stopped rest') w = (
    a ++ w.0,
    e ∙ (ap (λ l. a ++ l) w.1 ∙ sym (append_assoc a w.0 rest')),
    begun_second a w.0 x g w.2,
    λ T r other i. first_again x a w.0 rest' T r other (λ U s o j. h U s o (w.1 ∙ j)) i ∙ w.3 T r other i,
  )

  first_then : (ts : List Lexeme) (o : Out A) → Answered p G ts o → Answered (chain p q) (Then G H) ts (o >>= q)
  first_then ts (found x rest) w = second ts w.0 rest x w.1 w.2 w.3 (q x rest) ((Q x).answers rest)
  first_then ts (stopped rest) w = (w.0, w.1, begun_first w.0 w.2, λ T r other i. ap (λ o. o >>= q) (w.3 T r other i))

  pub Exact-chain : Exact (chain p q) (Then G H) R
  Exact-chain = record {
    full = full_chain;
    answers = λ ts. first_then ts (p ts) (P.answers ts);
    sample = P.sample ++ (Q P.sample_value).sample;
    sample_value = (Q P.sample_value).sample_value;
    sample_ok = (P.sample_value, P.sample, (Q P.sample_value).sample, refl, P.sample_ok, (Q P.sample_value).sample_ok);
  }

-- the same reader, by a language with the same spellings
pub Exact-same : {A : Type 0} (p : List Lexeme → Out A) (G H : List Lexeme → A → Type 0) (S : List Lexeme → Type 0)
    → ((ts : List Lexeme) (x : A) → G ts x → H ts x) → ((ts : List Lexeme) (x : A) → H ts x → G ts x) → Exact p G S → Exact p H S
Exact-same {A} p G H S f g P = record {
  full = λ ts x rest h s. P.full ts x rest (g ts x h) s;
  answers = λ ts. again ts (p ts) (P.answers ts);
  sample = P.sample;
  sample_value = P.sample_value;
  sample_ok = f P.sample P.sample_value P.sample_ok;
}
  where
    again : (ts : List Lexeme) (o : Out A) → Answered p G ts o → Answered p H ts o
    again ts (found x rest) w = (w.0, w.1, f w.0 x w.2, w.3)
    again ts (stopped rest) w = (w.0, w.1, (w.2.0, w.2.1, f (w.0 ++ w.2.0) w.2.1 w.2.2), w.3)

pub Exact-pure : {A : Type 0} (x : A) (R : List Lexeme → Type 0) → Exact (given_back x) (Nothing x) R
Exact-pure x R = record {
  full = λ ts y rest g s. let e : ts ≡ [] = g.0 in let i : y ≡ x = g.1 in rw (e, i) refl;
  answers = λ ts. ([], refl, (refl, refl), λ T r other i. refl);
  sample = [];
  sample_value = x;
  sample_ok = (refl, refl);
}

-- what is made of the value of a part
pub Exact-mapped : {A B : Type 0} (make : A → B) (p : List Lexeme → Out A) (G : List Lexeme → A → Type 0) (S : List Lexeme → Type 0) → Exact p G S → Exact (mapped make p) (Made make G) S
Exact-mapped {A} {B} make p G S P =
    Exact-same (mapped make p) (Then G (λ x. Nothing (make x))) (Made make G) S to from
    (Exact-chain p (λ x. given_back (make x)) G (λ x. Nothing (make x)) S S P (λ x. Exact-pure (make x) S) (λ x b y rest g s. subst (λ (l : List Lexeme). S (l ++ rest)) (sym g.0) s))
  where
    to : (ts : List Lexeme) (y : B) → Then G (λ x. Nothing (make x)) ts y → Made make G ts y
    to ts y g = (g.0, subst (λ (l : List Lexeme). G l g.0) (sym (g.3 ∙ (ap (λ l. g.1 ++ l) g.5.0 ∙ append-nil g.1))) g.4, g.5.1)

    from : (ts : List Lexeme) (y : B) → Made make G ts y → Then G (λ x. Nothing (make x)) ts y
    from ts y g = (g.0, ts, [], sym (append-nil ts), g.1, (refl, g.2))

pub Exact-token : {A : Type 0} (f : Lexeme → Option A) (T : Lexeme) (x : A) → f T ≡ Some x → (S : List Lexeme → Type 0) → Exact (token f) (OneToken f) S
Exact-token {A} f T x e S = record {
  full = λ ts y rest g s. ap (λ l. token f (l ++ rest)) g.1 ∙ ap (λ o. taken o (g.0 ∷ rest) rest) g.2;
  answers = λ ts. answer ts;
  sample = T ∷ [];
  sample_value = x;
  sample_ok = (T, refl, e);
}
  where
    at_first : (U : Lexeme) (r : List Lexeme) (o : Option A) → f U ≡ o → Answered (token f) (OneToken f) (U ∷ r) (taken o (U ∷ r) r)
    at_first U r (Some y) i = (U ∷ [], refl, (U, refl, i), λ V s other j. ap (λ o. taken o (U ∷ V ∷ other) (V ∷ other)) i)
    at_first U r None i = ([], refl, (T ∷ [], x, (T, refl, e)), λ V s other j. let same : U ≡ V = cc in subst (λ (W : Lexeme). token f (W ∷ other) ≡ stopped (W ∷ other)) same (ap (λ o. taken o (U ∷ other) other) i))

    answer : (ts : List Lexeme) → Answered (token f) (OneToken f) ts (token f ts)
    answer [] = ([], refl, (T ∷ [], x, (T, refl, e)), λ V s other j. cc)
    answer (U ∷ r) = at_first U r (f U) refl

-- the end of the line
pub Exact-end : Exact at_end (Nothing tt) End
Exact-end = record {
  full = λ ts x rest g s. end_full ts x rest g.0 s;
  answers = answer;
  sample = [];
  sample_value = tt;
  sample_ok = (refl, refl);
}
  where
    end_full : (ts : List Lexeme) (x : Unit {0}) (rest : List Lexeme) → ts ≡ [] → rest ≡ [] → at_end (ts ++ rest) ≡ found x rest
    end_full ts x rest e i = rw (e, i) refl

    answer : (ts : List Lexeme) → Answered at_end (Nothing tt) ts (at_end ts)
    answer [] = ([], refl, (refl, refl), λ T r other i. cc)
    answer (U ∷ r) = ([], refl, ([], tt, (refl, refl)), λ T s other i. refl)

-- what follows may be asked to be less
pub Exact-before : {A : Type 0} (p : List Lexeme → Out A) (G : List Lexeme → A → Type 0) (S R : List Lexeme → Type 0) → ((rest : List Lexeme) → R rest → S rest) → Exact p G S → Exact p G R
Exact-before p G S R weaker P = record {
  full = λ ts x rest g r. P.full ts x rest g (weaker rest r);
  answers = P.answers;
  sample = P.sample;
  sample_value = P.sample_value;
  sample_ok = P.sample_ok;
}

-- a part that is read leaves no more tokens than there were
pub shorter : {A : Type 0} (p : List Lexeme → Out A) (G : List Lexeme → A → Type 0) (S : List Lexeme → Type 0) → Exact p G S → (ts : List Lexeme) (x : A) (rest : List Lexeme) → p ts ≡ found x rest
    → length rest ≤ length ts
shorter {A} p G S P ts x rest e = at (p ts) e (P.answers ts)
  where
    at : (o : Out A) → o ≡ found x rest → Answered p G ts o → length rest ≤ length ts
    at (found y r) i a =
        let same : r ≡ rest = cc in
        let size : length ts ≡ length a.0 + length r = ap length a.1 ∙ length-append a.0 r in
        let back : length r ≡ length rest = ap length same in
        omega arith
    at (stopped r) i a = cc
