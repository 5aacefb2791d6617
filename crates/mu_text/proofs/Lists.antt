-- Lists with a mark between their items.
use Rattle.std.proofs.Common.{◌≡◌, ℕ, zero, suc, ◌+◌, ◌≤◌, List, [], ◌∷◌, ◌++◌, length, Bool, true, false, refl, ap, sym, ◌∙◌, subst, append_assoc, append-nil, length-append, arith}
use Rattle.std.specs.Prelude.{if◌then◌else◌}
use Rattle.mu_grammar.specs.Lexemes.{Lexeme, mark}
use Rattle.mu_grammar.specs.declared.symbol.Mark.{Mark}
use Rattle.mu_grammar.specs.Marks.{is_mark}
use Rattle.mu_grammar.specs.Parts.{Begins, Out, found, stopped, ◌>>=◌, Nothing, given_back, Then, chain, More, Separated, with_first, more_of, read_more, separated}
use Rattle.mu_text.proofs.Marks.{own_mark, only_mark}
use Rattle.mu_text.proofs.Exact.{Exact, Answered, Exact-same, Exact-chain, Exact-pure}
use Rattle.mu_text.proofs.Choice.{Fails}

module _ {A : Type 0} (sign : Mark) (item : List Lexeme → Out A) (G : List Lexeme → A → Type 0) (S : List Lexeme → Type 0) (P : Exact item G S)
    (sign_stops : (r : List Lexeme) → S (mark sign ∷ r)) where
  on_sign : (n : ℕ) (T : Lexeme) (r : List Lexeme) → is_mark sign T ≡ true → more_of sign item (suc n) (T ∷ r) ≡ (item r >>= (λ x r'. with_first x (more_of sign item n r')))
  on_sign n T r e = ap (λ b. if b then (item r >>= (λ x r'. with_first x (more_of sign item n r'))) else found [] (T ∷ r)) e

  on_other : (n : ℕ) (T : Lexeme) (r : List Lexeme) → is_mark sign T ≡ false → more_of sign item (suc n) (T ∷ r) ≡ found [] (T ∷ r)
  on_other n T r e = ap (λ b. if b then (item r >>= (λ x r'. with_first x (more_of sign item n r'))) else found [] (T ∷ r)) e

  to_mark : (T : Lexeme) (l : List Lexeme) → is_mark sign T ≡ true → T ∷ l ≡ mark sign ∷ l
  to_mark T l e = ap (λ U. U ∷ l) (only_mark sign T e)

  link_more : (b : List Lexeme) (xs : List A) (rest : List Lexeme) → More sign G b xs → S rest → S (b ++ rest)
  link_more b [] rest m s = subst (λ (l : List Lexeme). S (l ++ rest)) (sym m) s
  link_more b (x ∷ xs) rest m s = subst (λ (l : List Lexeme). S (l ++ rest)) (sym m.2) (sign_stops ((m.0 ++ m.1) ++ rest))

  ends : (n : ℕ) (rest : List Lexeme) → length rest ≤ n → Fails (is_mark sign) rest → more_of sign item n rest ≡ found [] rest
  ends n [] h f = refl
  ends zero (T ∷ r) h f = refl
  ends (suc n) (T ∷ r) h f = on_other n T r f

  full_more : (n : ℕ) (xs : List A) (ts rest : List Lexeme) → length (ts ++ rest) ≤ n → More sign G ts xs → S rest → Fails (is_mark sign) rest → more_of sign item n (ts ++ rest) ≡ found xs rest
  full_more n [] ts rest h m s f =
      let e : ts ++ rest ≡ rest = ap (λ l. l ++ rest) m in
      ap (more_of sign item n) e ∙ ends n rest (let i : length (ts ++ rest) ≡ length rest = ap length e in omega arith) f
  full_more zero (x ∷ xs) ts rest h m s f =
      let i : length (ts ++ rest) ≡ suc (length ((m.0 ++ m.1) ++ rest)) = ap (λ l. length (l ++ rest)) m.2 in absurd (omega arith)
  full_more (suc n) (x ∷ xs) ts rest h m s f =
      let i : length (ts ++ rest) ≡ suc (length ((m.0 ++ m.1) ++ rest)) = ap (λ l. length (l ++ rest)) m.2 in
      let j : length ((m.0 ++ m.1) ++ rest) ≡ length (m.0 ++ (m.1 ++ rest)) = ap length (append_assoc m.0 m.1 rest) in
      let k : length (m.0 ++ (m.1 ++ rest)) ≡ length m.0 + length (m.1 ++ rest) = length-append m.0 (m.1 ++ rest) in
      ap (λ l. more_of sign item (suc n) (l ++ rest)) m.2
      ∙ (on_sign n (mark sign) ((m.0 ++ m.1) ++ rest) (own_mark sign)
      ∙ (ap (λ l. item l >>= (λ y r. with_first y (more_of sign item n r))) (append_assoc m.0 m.1 rest)
      ∙ (ap (λ o. o >>= (λ y r. with_first y (more_of sign item n r))) (P.full m.0 x (m.1 ++ rest) m.3 (link_more m.1 xs rest m.4 s))
      ∙ ap (with_first x) (full_more n xs m.1 rest (omega arith) m.4 s f))))

  -- an answer that stays the same with any bound that is enough
  abbrev Steady : List Lexeme → Out (List A) → Type 0
  Steady ts (found xs rest) =
      (seen : List Lexeme) × (ts ≡ seen ++ rest) × More sign G seen xs × ((T : Lexeme) (r other : List Lexeme) (m : ℕ) → rest ≡ T ∷ r → length (seen ++ (T ∷ other)) ≤ m → more_of sign item m (seen ++ (T ∷ other)) ≡ found xs (T ∷ other))
  Steady ts (stopped rest) =
      (seen : List Lexeme) × (ts ≡ seen ++ rest) × Begins (More sign G) seen
      × ((T : Lexeme) (r other : List Lexeme) (m : ℕ) → rest ≡ T ∷ r → length (seen ++ (T ∷ other)) ≤ m → more_of sign item m (seen ++ (T ∷ other)) ≡ stopped (T ∷ other))

  other_steady : (T : Lexeme) (r : List Lexeme) → is_mark sign T ≡ false → Steady (T ∷ r) (found [] (T ∷ r))
  other_steady T r e = ([], refl, refl, λ U s other m i h. again U s other m i h)
    where
      again : (U : Lexeme) (s other : List Lexeme) (m : ℕ) → T ∷ r ≡ U ∷ s → length (U ∷ other) ≤ m → more_of sign item m (U ∷ other) ≡ found [] (U ∷ other)
      again U s other zero i h = absurd (omega arith)
      again U s other (suc m) i h = let same : T ≡ U = cc in on_other m U other (subst (λ (V : Lexeme). is_mark sign V ≡ false) same e)

  stopped_steady : (T : Lexeme) (r rest seen : List Lexeme) → is_mark sign T ≡ true → r ≡ seen ++ rest → Begins G seen
      → ((U : Lexeme) (s other : List Lexeme) → rest ≡ U ∷ s → item (seen ++ (U ∷ other)) ≡ stopped (U ∷ other)) → Steady (T ∷ r) (stopped rest)
  stopped_steady T r rest seen e i b h = (
    T ∷ seen,
    ap (λ l. T ∷ l) i,
    (b.0, b.1 ∷ [], (seen ++ b.0, [], ap (λ l. T ∷ l) (sym (append-nil (seen ++ b.0))) ∙ to_mark T ((seen ++ b.0) ++ []) e, b.2, refl)),
    λ U s other m j k. again U s other m j k,
  )
    where
      again : (U : Lexeme) (s other : List Lexeme) (m : ℕ) → rest ≡ U ∷ s → length (T ∷ (seen ++ (U ∷ other))) ≤ m → more_of sign item m (T ∷ (seen ++ (U ∷ other))) ≡ stopped (U ∷ other)
      again U s other zero j k = absurd (omega arith)
      again U s other (suc m) j k = on_sign m T (seen ++ (U ∷ other)) e ∙ ap (λ o. o >>= (λ x l. with_first x (more_of sign item m l))) (h U s other j)

  item_again : (m : ℕ) (x : A) (a seen rest : List Lexeme) (T : Lexeme) (r other : List Lexeme)
      → ((U : Lexeme) (s o : List Lexeme) → seen ++ rest ≡ U ∷ s → item (a ++ (U ∷ o)) ≡ found x (U ∷ o)) → rest ≡ T ∷ r
      → (item ((a ++ seen) ++ (T ∷ other)) >>= (λ y l. with_first y (more_of sign item m l))) ≡ with_first x (more_of sign item m (seen ++ (T ∷ other)))
  item_again m x a [] rest T r other h e =
      ap (λ l. item (l ++ (T ∷ other)) >>= (λ y k. with_first y (more_of sign item m k))) (append-nil a) ∙ ap (λ o. o >>= (λ y k. with_first y (more_of sign item m k))) (h T r other e)
  item_again m x a (U ∷ s) rest T r other h e =
      ap (λ l. item l >>= (λ y k. with_first y (more_of sign item m k))) (append_assoc a (U ∷ s) (T ∷ other)) ∙ ap (λ o. o >>= (λ y k. with_first y (more_of sign item m k))) (h U (s ++ rest) (s ++ (T ∷ other)) refl)

  shorter : (T : Lexeme) (a b : List Lexeme) (m : ℕ) → length (T ∷ ((a ++ b))) ≤ suc m → length b ≤ m
  shorter T a b m h = let i : length (a ++ b) ≡ length a + length b = length-append a b in omega arith

  found_steady : (T : Lexeme) (r a r' : List Lexeme) (x : A) → is_mark sign T ≡ true → r ≡ a ++ r' → G a x → ((U : Lexeme) (s o : List Lexeme) → r' ≡ U ∷ s → item (a ++ (U ∷ o)) ≡ found x (U ∷ o))
      → (o : Out (List A)) → Steady r' o → Steady (T ∷ r) (with_first x o)
  found_steady T r a r' x e i g h (found xs rest) w =
      (T ∷ (a ++ w.0), ap (λ l. T ∷ l) (i ∙ (ap (λ l. a ++ l) w.1 ∙ sym (append_assoc a w.0 rest))), (a, w.0, to_mark T (a ++ w.0) e, g, w.2), again)
    where
      again : (U : Lexeme) (s other : List Lexeme) (m : ℕ) → rest ≡ U ∷ s → length (T ∷ ((a ++ w.0) ++ (U ∷ other))) ≤ m → more_of sign item m (T ∷ ((a ++ w.0) ++ (U ∷ other))) ≡ found (x ∷ xs) (U ∷ other)
      again U s other zero j k = absurd (omega arith)
      again U s other (suc m) j k =
          on_sign m T ((a ++ w.0) ++ (U ∷ other)) e
          ∙ (item_again m x a w.0 rest U s other (λ V t o l. h V t o (w.1 ∙ l)) j
          ∙ ap (with_first x) (w.3 U s other m j (shorter T a (w.0 ++ (U ∷ other)) m (subst (λ (l : List Lexeme). length (T ∷ l) ≤ suc m) (append_assoc a w.0 (U ∷ other)) k))))
  found_steady T r a r' x e i g h (stopped rest) w = (
    T ∷ (a ++ w.0),
    ap (λ l. T ∷ l) (i ∙ (ap (λ l. a ++ l) w.1 ∙ sym (append_assoc a w.0 rest))),
    (w.2.0, x ∷ w.2.1, (a, w.0 ++ w.2.0, ap (λ l. T ∷ l) (append_assoc a w.0 w.2.0) ∙ to_mark T (a ++ (w.0 ++ w.2.0)) e, g, w.2.2)),
    again,
  )
    where
      again : (U : Lexeme) (s other : List Lexeme) (m : ℕ) → rest ≡ U ∷ s → length (T ∷ ((a ++ w.0) ++ (U ∷ other))) ≤ m → more_of sign item m (T ∷ ((a ++ w.0) ++ (U ∷ other))) ≡ stopped (U ∷ other)
      again U s other zero j k = absurd (omega arith)
      again U s other (suc m) j k =
          on_sign m T ((a ++ w.0) ++ (U ∷ other)) e
          ∙ (item_again m x a w.0 rest U s other (λ V t o l. h V t o (w.1 ∙ l)) j
          ∙ ap (with_first x) (w.3 U s other m j (shorter T a (w.0 ++ (U ∷ other)) m (subst (λ (l : List Lexeme). length (T ∷ l) ≤ suc m) (append_assoc a w.0 (U ∷ other)) k))))

  after_item : (n : ℕ) (T : Lexeme) (r : List Lexeme) → length r ≤ n → is_mark sign T ≡ true → ((l : List Lexeme) → length l ≤ n → Steady l (more_of sign item n l)) → (o : Out A) → Answered item G r o
      → Steady (T ∷ r) (o >>= (λ x l. with_first x (more_of sign item n l)))
  after_item n T r h e ih (found x r') a =
      found_steady T r a.0 r' x e a.1 a.2 a.3 (more_of sign item n r') (ih r' (let i : length r ≡ length a.0 + length r' = ap length a.1 ∙ length-append a.0 r' in omega arith))
  after_item n T r h e ih (stopped rest) a = stopped_steady T r rest a.0 e a.1 a.2 a.3

  tested : (n : ℕ) (T : Lexeme) (r : List Lexeme) → length r ≤ n → ((l : List Lexeme) → length l ≤ n → Steady l (more_of sign item n l)) → (b : Bool) → is_mark sign T ≡ b
      → Steady (T ∷ r) (if b then (item r >>= (λ x l. with_first x (more_of sign item n l))) else found [] (T ∷ r))
  tested n T r h ih true e = after_item n T r h e ih (item r) (P.answers r)
  tested n T r h ih false e = other_steady T r e

  steady : (n : ℕ) (ts : List Lexeme) → length ts ≤ n → Steady ts (more_of sign item n ts)
  steady n [] h = ([], refl, refl, λ U s other m i k. cc)
  steady zero (T ∷ r) h = absurd (omega arith)
  steady (suc n) (T ∷ r) h = tested n T r (omega arith) (λ l k. steady n l k) (is_mark sign T) refl

  weaken : (ts : List Lexeme) (o : Out (List A)) → Steady ts o → Answered (read_more sign item) (More sign G) ts o
  weaken ts (found xs rest) w = (w.0, w.1, w.2, λ T r other i. w.3 T r other (length (w.0 ++ (T ∷ other))) i (omega arith))
  weaken ts (stopped rest) w = (w.0, w.1, w.2, λ T r other i. w.3 T r other (length (w.0 ++ (T ∷ other))) i (omega arith))

  -- what may follow an item, other than the mark
  abbrev pub NoMore : List Lexeme → Type 0
  NoMore rest = S rest × Fails (is_mark sign) rest

  pub Exact-more : Exact (read_more sign item) (More sign G) NoMore
  Exact-more = record {
    full = λ ts xs rest g s. full_more (length (ts ++ rest)) xs ts rest (omega arith) g s.0 s.1;
    answers = λ ts. weaken ts (read_more sign item ts) (steady (length ts) ts (omega arith));
    sample = [];
    sample_value = [];
    sample_ok = refl;
  }

  abbrev Parted : List Lexeme → List A → Type 0
  Parted = Then G (λ x. Then (More sign G) (λ xs. Nothing (x ∷ xs)))

  joined : (ts : List Lexeme) (ys : List A) → Parted ts ys → Separated sign G ts ys
  joined ts ys g =
      let inner = g.5 in
      let same : g.2 ≡ inner.1 = inner.3 ∙ (ap (λ l. inner.1 ++ l) inner.5.0 ∙ append-nil inner.1) in
      subst (λ (l : List A). Separated sign G ts l) (sym inner.5.1) (g.1, g.2, g.3, g.4, subst (λ (l : List Lexeme). More sign G l inner.0) (sym same) inner.4)

  parted : (ts : List Lexeme) (ys : List A) → Separated sign G ts ys → Parted ts ys
  parted ts [] g = absurd g
  parted ts (x ∷ xs) g = (x, g.0, g.1, g.2, g.3, (xs, g.1, [], sym (append-nil g.1), g.4, (refl, refl)))

  link_item : (x : A) (b : List Lexeme) (ys : List A) (rest : List Lexeme) → Then (More sign G) (λ xs. Nothing (x ∷ xs)) b ys → NoMore rest → S (b ++ rest)
  link_item x b ys rest g s =
      let same : b ≡ g.1 = g.3 ∙ (ap (λ l. g.1 ++ l) g.5.0 ∙ append-nil g.1) in
      subst (λ (l : List Lexeme). S (l ++ rest)) (sym same) (link_more g.1 g.0 rest g.4 s.0)

  link_none : (b rest : List Lexeme) → b ≡ [] → NoMore rest → NoMore (b ++ rest)
  link_none b rest e s = subst (λ (l : List Lexeme). NoMore (l ++ rest)) (sym e) s

  -- items with the mark between them, at least one
  pub Exact-separated : Exact (separated sign item) (Separated sign G) NoMore
  Exact-separated =
      Exact-same (separated sign item) Parted (Separated sign G) NoMore joined parted
      (Exact-chain item (λ x. chain (read_more sign item) (λ xs. given_back (x ∷ xs))) G (λ x. Then (More sign G) (λ xs. Nothing (x ∷ xs))) S NoMore P
      (λ x. Exact-chain (read_more sign item) (λ xs. given_back (x ∷ xs)) (More sign G) (λ xs. Nothing (x ∷ xs)) NoMore NoMore Exact-more (λ xs. Exact-pure (x ∷ xs) NoMore)
      (λ xs b ys rest g s. link_none b rest g.0 s))
      link_item)
