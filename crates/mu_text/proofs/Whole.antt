-- What an exact reader says of a whole line.
use Rattle.std.proofs.Common.{◌≡◌, ℕ, ◌+◌, ◌-◌, ◌<◌, List, [], ◌∷◌, ◌++◌, length, take, refl, ap, sym, ◌∙◌, subst, append_assoc, append-nil, length-append, arith}
use Rattle.mu_grammar.specs.Lexemes.{Lexeme}
use Rattle.mu_grammar.specs.Parts.{Begins, Refused, Out, found, stopped, Outcome, Read, End}
use Rattle.mu_text.proofs.Exact.{Exact, Answered}

take_front : (xs ys : List Lexeme) → take (length xs) (xs ++ ys) ≡ xs
take_front [] ys = refl
take_front (x ∷ xs) ys = ap (λ l. x ∷ l) (take_front xs ys)

none_left : (xs : List Lexeme) → length xs ≡ 0 → xs ≡ []
none_left [] i = refl
none_left (x ∷ xs) i = absurd (omega arith)

refused : {A : Type 0} (G : List Lexeme → A → Type 0) (ts seen rest : List Lexeme) → ts ≡ seen ++ rest → Begins G seen
    → ((T : Lexeme) (r : List Lexeme) → rest ≡ T ∷ r → Begins G (seen ++ (T ∷ [])) → ⊥) → (rest ≡ [] → (x : A) → G ts x → ⊥)
    → Refused G ts (length ts - length rest)
refused {A} G ts seen rest e b h u =
    let le : length ts ≡ length seen + length rest = ap length e ∙ length-append seen rest in
    let at : length ts - length rest ≡ length seen = omega arith in
    let front : take (length seen) ts ≡ seen = ap (take (length seen)) e ∙ take_front seen rest in
    subst (Refused G ts) (sym at) (record {
      within = omega arith;
      begins = subst (Begins G) (sym front) b;
      no_further = λ l. next rest e le l h;
      unfinished = λ i. u (none_left rest (omega arith));
    })
  where
    next : (xs : List Lexeme) → ts ≡ seen ++ xs → length ts ≡ length seen + length xs → length seen < length ts
        → ((T : Lexeme) (r : List Lexeme) → xs ≡ T ∷ r → Begins G (seen ++ (T ∷ [])) → ⊥) → Begins G (take (length seen + 1) ts) → ⊥
    next [] f k l g c = absurd (omega arith)
    next (T ∷ r) f k l g c =
        let more : (seen ++ (T ∷ [])) ++ r ≡ ts = append_assoc seen (T ∷ []) r ∙ sym f in
        let long : length (seen ++ (T ∷ [])) ≡ length seen + 1 = length-append seen (T ∷ []) in
        let same : take (length seen + 1) ts ≡ seen ++ (T ∷ []) =
        (ap (λ i. take i ts) (sym long) ∙ (ap (take (length (seen ++ (T ∷ [])))) (sym more) ∙ take_front (seen ++ (T ∷ [])) r)) in
        g T r refl (subst (Begins G) same c)

module _ {A : Type 0} (p : List Lexeme → Out A) (G : List Lexeme → A → Type 0) (P : Exact p G End) where
  pub reads_it : (ts : List Lexeme) (x : A) → G ts x → p ts ≡ found x []
  reads_it ts x g = sym (ap p (append-nil ts)) ∙ P.full ts x [] g refl

  never : (seen : List Lexeme) (T : Lexeme) → ((other : List Lexeme) (x : A) → p (seen ++ (T ∷ other)) ≡ found x [] → ⊥) → Begins G (seen ++ (T ∷ [])) → ⊥
  never seen T h b = h b.0 b.1 (sym (ap p (append_assoc seen (T ∷ []) b.0)) ∙ reads_it ((seen ++ (T ∷ [])) ++ b.0) b.1 b.2)

  outcome : (ts : List Lexeme) (o : Out A) → p ts ≡ o → Answered p G ts o → Outcome G ts o
  outcome ts (found x []) e a = subst (λ (l : List Lexeme). G l x) (sym (a.1 ∙ append-nil a.0)) a.2
  outcome ts (found x (T ∷ r)) e a =
      refused G ts a.0 (T ∷ r) a.1 ([], x, subst (λ (l : List Lexeme). G l x) (sym (append-nil a.0)) a.2)
      (λ S q i b. never a.0 S (λ other y j. let k : p (a.0 ++ (S ∷ other)) ≡ found x (S ∷ other) = a.3 S q other i in cc) b)
      (λ i. cc)
  outcome ts (stopped []) e a = refused G ts a.0 [] a.1 a.2 (λ S q i b. cc) (λ i x g. let f : p ts ≡ found x [] = reads_it ts x g in cc)
  outcome ts (stopped (T ∷ r)) e a =
      refused G ts a.0 (T ∷ r) a.1 a.2
      (λ S q i b. never a.0 S (λ other y j. let k : p (a.0 ++ (S ∷ other)) ≡ stopped (S ∷ other) = a.3 S q other i in cc) b)
      (λ i. cc)

  pub reads_exactly : (ts : List Lexeme) (o : Out A) → p ts ≡ o → Outcome G ts o
  reads_exactly ts o e = subst (Outcome G ts) e (outcome ts (p ts) refl (P.answers ts))

  -- no tokens spell two values
  pub only_value : (ts : List Lexeme) (x y : A) → G ts x → G ts y → x ≡ y
  only_value ts x y g h = let e : p ts ≡ found x [] = reads_it ts x g in let i : p ts ≡ found y [] = reads_it ts y h in cc

  -- where a part is read and no token is left, the tokens spell what the answer stands for
  pub read_whole : {B : Type 0} (S : A → B → Type 0) (ts rest : List Lexeme) (y : B) → Read S (p ts) y rest → length rest ≡ 0 → (x : A) × G ts x × S x y
  read_whole S ts rest y read n = (read.value, reads_exactly ts (found read.value []) (read.is ∙ ap (found read.value) (none_left rest n)), read.stands)

  -- where a part is read and tokens are left, the first of them is refused
  pub left_over : {B : Type 0} (S : A → B → Type 0) (ts rest : List Lexeme) (y : B) (at : ℕ) → Read S (p ts) y rest → (length rest ≡ 0 → ⊥) → at ≡ length ts - length rest → Refused G ts at
  left_over S ts [] y at read n i = absurd (n refl)
  left_over S ts (T ∷ rest) y at read n i = subst (Refused G ts) (sym i) (reads_exactly ts (found read.value (T ∷ rest)) read.is)

  -- where a part is not read, the first token that is left is refused
  pub left_off : (ts rest : List Lexeme) (at : ℕ) → p ts ≡ stopped rest → at ≡ length ts - length rest → Refused G ts at
  left_off ts rest at e i = subst (Refused G ts) (sym i) (reads_exactly ts (stopped rest) e)
