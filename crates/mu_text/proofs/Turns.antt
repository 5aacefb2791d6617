-- The turns of a loop that reads a list with a mark between its items.
use Rattle.std.proofs.Common.{◌≡◌, ℕ, zero, suc, ◌<◌, ◌≤◌, List, [], ◌∷◌, ◌++◌, length, Bool, true, false, refl, ap, sym, ◌∙◌, subst, append_assoc, append-nil, arith}
use Rattle.std.specs.Prelude.{if◌then◌else◌}
use Rattle.mu_grammar.specs.declared.symbol.Mark.{Mark}
use Rattle.mu_grammar.specs.Lexemes.{Lexeme, after_first}
use Rattle.mu_grammar.specs.Marks.{is_mark}
use Rattle.mu_grammar.specs.Parts.{Out, found, stopped, ◌>>=◌, Read, Same, StandsEach, starts, with_first, more_of, read_more, separated}
use Rattle.mu_text.proofs.Exact.{Exact, shorter}

-- what was read before, in front
abbrev pub extended : {A : Type 0} → List A → Out (List A) → Out (List A)
extended front out = out >>= (λ xs rest. found (front ++ xs) rest)

again : {A : Type 0} (front : List A) (x : A) (out : Out (List A)) → extended front (with_first x out) ≡ extended (front ++ (x ∷ [])) out
again front x (found xs rest) = ap (λ l. found l rest) (sym (append_assoc front (x ∷ []) xs))
again front x (stopped rest) = refl

pub each_more : {A B : Type 0} (S : A → B → Type 0) (xs : List A) (ys : List B) (x : A) (y : B) → StandsEach S xs ys → S x y → StandsEach S (xs ++ (x ∷ [])) (ys ++ (y ∷ []))
each_more S [] [] x y h s = (s, tt)
each_more S [] (z ∷ ys) x y h s = absurd h
each_more S (w ∷ xs) [] x y h s = absurd h
each_more S (w ∷ xs) (z ∷ ys) x y h s = (h.0, each_more S xs ys x y h.1 s)

-- where each value is the spelled one, so is the list
pub each_same : {A : Type 0} (xs ys : List A) → StandsEach Same xs ys → ys ≡ xs
each_same [] [] h = refl
each_same [] (y ∷ ys) h = absurd h
each_same (x ∷ xs) [] h = absurd h
each_same (x ∷ xs) (y ∷ ys) h = let i : ys ≡ xs = each_same xs ys h.1 in let e : y ≡ x = h.0 in cc

-- of the list that is read as a whole the items that c holds have been read, and the rest is read as before
pub record Turn {A C : Type 0} (K : List A → C → Type 0) (sign : Mark) (item : List Lexeme → Out A) (whole : Out (List A)) (rest : List Lexeme) (c : C) : Type 0 where
  pub front : List A
  pub bound : ℕ
  pub enough : length rest ≤ bound
  pub stands : K front c
  pub same : extended front (more_of sign item bound rest) ≡ whole

module _ {A C : Type 0} (K : List A → C → Type 0) (sign : Mark) (item : List Lexeme → Out A) where
  first_turn : (whole : Out (List A)) (rest : List Lexeme) (x : A) (c : C) → whole ≡ with_first x (read_more sign item rest) → K (x ∷ []) c → Turn K sign item whole rest c
  first_turn whole rest x c e k = record { front = x ∷ []; bound = length rest; enough = omega arith; stands = k; same = sym e }

  on_sign : (n : ℕ) (T : Lexeme) (mid : List Lexeme) → is_mark sign T ≡ true → more_of sign item (suc n) (T ∷ mid) ≡ (item mid >>= (λ x r. with_first x (more_of sign item n r)))
  on_sign n T mid e = ap (λ b. if b then (item mid >>= (λ x r. with_first x (more_of sign item n r))) else found [] (T ∷ mid)) e

  on_other : (n : ℕ) (rest : List Lexeme) → length rest ≤ n → starts (is_mark sign) rest ≡ false → more_of sign item n rest ≡ found [] rest
  on_other n [] h e = refl
  on_other zero (T ∷ mid) h e = refl
  on_other (suc n) (T ∷ mid) h e = ap (λ b. if b then (item mid >>= (λ x r. with_first x (more_of sign item n r))) else found [] (T ∷ mid)) e

  last_turn : (whole : Out (List A)) (rest : List Lexeme) (c : C) → Turn K sign item whole rest c → starts (is_mark sign) rest ≡ false → Read K whole c rest
  last_turn whole rest c t e = record {
    value = t.front;
    is = sym t.same ∙ (ap (extended t.front) (on_other t.bound rest t.enough e) ∙ ap (λ l. found l rest) (append-nil t.front));
    stands = t.stands;
  }

  stopped_turn : (whole : Out (List A)) (rest mid new : List Lexeme) (c : C) → Turn K sign item whole rest c → starts (is_mark sign) rest ≡ true → mid ≡ after_first rest → item mid ≡ stopped new
      → whole ≡ stopped new
  stopped_turn whole [] mid new c t e j g = cc
  stopped_turn whole (T ∷ r) mid new c t e j g = at t.bound refl
    where
      at : (bound : ℕ) → t.bound ≡ bound → whole ≡ stopped new
      at zero q = (let k : length (T ∷ r) ≤ t.bound = t.enough in absurd (omega arith))
      at (suc bound) q =
          let step : more_of sign item (suc bound) (T ∷ r) ≡ stopped new =
          on_sign bound T r e ∙ (ap (λ l. item l >>= (λ z u. with_first z (more_of sign item bound u))) (sym j) ∙ ap (λ out. out >>= (λ z u. with_first z (more_of sign item bound u))) g) in
          sym t.same ∙ (ap (λ n. extended t.front (more_of sign item n (T ∷ r))) q ∙ ap (extended t.front) step)

  module _ {B : Type 0} (S : A → B → Type 0) (G : List Lexeme → A → Type 0) (R : List Lexeme → Type 0) (P : Exact item G R) where
    next_turn : (whole : Out (List A)) (rest mid new : List Lexeme) (c d : C) (y : B) → Turn K sign item whole rest c → starts (is_mark sign) rest ≡ true → mid ≡ after_first rest
        → Read S (item mid) y new → ((front : List A) (x : A) → K front c → S x y → K (front ++ (x ∷ [])) d) → Turn K sign item whole new d
    next_turn whole [] mid new c d y t e j read k = cc
    next_turn whole (T ∷ r) mid new c d y t e j read k = at t.bound refl
      where
        at : (bound : ℕ) → t.bound ≡ bound → Turn K sign item whole new d
        at zero q = (let l : length (T ∷ r) ≤ t.bound = t.enough in absurd (omega arith))
        at (suc bound) q =
            let l : length (T ∷ r) ≤ t.bound = t.enough in
            let m : length mid ≡ length r = ap length j in
            let less : length new ≤ length mid = shorter item G R P mid read.value new read.is in
            let step : more_of sign item (suc bound) (T ∷ r) ≡ with_first read.value (more_of sign item bound new) =
            on_sign bound T r e ∙ (ap (λ o. item o >>= (λ z u. with_first z (more_of sign item bound u))) (sym j) ∙ ap (λ out. out >>= (λ z u. with_first z (more_of sign item bound u))) read.is) in
            record {
              front = t.front ++ (read.value ∷ []);
              bound = bound;
              enough = omega arith;
              stands = k t.front read.value t.stands read.stands;
              same = sym (again t.front read.value (more_of sign item bound new)) ∙ (ap (extended t.front) (sym step) ∙ (ap (λ n. extended t.front (more_of sign item n (T ∷ r))) (sym q) ∙ t.same));
            }

module _ {A C : Type 0} {K : List A → C → Type 0} {sign : Mark} {item : List Lexeme → Out A} where
  -- after the first item
  pub begin : {whole : Out (List A)} {rest : List Lexeme} {c : C} (x : A) → whole ≡ with_first x (read_more sign item rest) → K (x ∷ []) c → Turn K sign item whole rest c
  begin {whole = whole} {rest = rest} {c = c} x e k = first_turn K sign item whole rest x c e k

  -- where no mark follows, the list is read
  pub finish : {whole : Out (List A)} {rest : List Lexeme} {c : C} {seen : Bool} → Turn K sign item whole rest c → seen ≡ starts (is_mark sign) rest → seen ≡ false → Read K whole c rest
  finish {whole = whole} {rest = rest} {c = c} {seen = seen} t e fails = last_turn K sign item whole rest c t (sym e ∙ fails)

  -- where no item goes on behind the mark, neither does the list
  pub stops : {whole : Out (List A)} {rest mid new : List Lexeme} {c : C} {seen : Bool} → Turn K sign item whole rest c → seen ≡ starts (is_mark sign) rest → seen ≡ true → mid ≡ after_first rest
      → item mid ≡ stopped new → whole ≡ stopped new
  stops {whole = whole} {rest = rest} {mid = mid} {new = new} {c = c} {seen = seen} t e passes j g = stopped_turn K sign item whole rest mid new c t (sym e ∙ passes) j g

  module _ {B : Type 0} {S : A → B → Type 0} {G : List Lexeme → A → Type 0} {R : List Lexeme → Type 0} (P : Exact item G R) where
    -- after one more mark and item
    pub advance : {whole : Out (List A)} {rest mid new : List Lexeme} {c d : C} {y : B} {seen : Bool} → Turn K sign item whole rest c → seen ≡ starts (is_mark sign) rest → seen ≡ true → mid ≡ after_first rest
        → Read S (item mid) y new → ((front : List A) (x : A) → K front c → S x y → K (front ++ (x ∷ [])) d) → Turn K sign item whole new d
    advance {whole = whole} {rest = rest} {mid = mid} {new = new} {c = c} {d = d} {y = y} {seen = seen} t e passes j read k = next_turn K sign item S G R P whole rest mid new c d y t (sym e ∙ passes) j read k

-- a turn leaves fewer tokens
pub fewer : {A B : Type 0} {S : A → B → Type 0} {item : List Lexeme → Out A} {G : List Lexeme → A → Type 0} {R : List Lexeme → Type 0} (sign : Mark) (P : Exact item G R) (rest mid : List Lexeme) {new : List Lexeme} {y : B} {seen : Bool}
    → seen ≡ starts (is_mark sign) rest → seen ≡ true → mid ≡ after_first rest → Read S (item mid) y new → length new < length rest
fewer {S = S} {item = item} {G = G} {R = R} sign P rest mid {new = new} {y = y} e passes j read = at rest (sym e ∙ passes) j
  where
    at : (rest : List Lexeme) → starts (is_mark sign) rest ≡ true → mid ≡ after_first rest → length new < length rest
    at [] h i = cc
    at (T ∷ r) h i = let m : length mid ≡ length r = ap length i in let less : length new ≤ length mid = shorter item G R P mid read.value new read.is in omega arith

module _ {A B : Type 0} {S : A → B → Type 0} {sign : Mark} {item : List Lexeme → Out A} {G : List Lexeme → A → Type 0} {R : List Lexeme → Type 0} (P : Exact item G R) where
  -- the turns of a loop that keeps a value for each item
  pub start : {old rest : List Lexeme} {none ys : List B} {y : B} → Read S (item old) y rest → none ≡ [] → ys ≡ none ++ (y ∷ []) → Turn (StandsEach S) sign item (separated sign item old) rest ys
  start {old = old} {rest = rest} {none = none} {ys = ys} {y = y} read n i =
      let one : ys ≡ y ∷ [] = i ∙ ap (λ l. l ++ (y ∷ [])) n in
      first_turn (StandsEach S) sign item (separated sign item old) rest read.value ys (ap (λ out. out >>= (λ z r. with_first z (read_more sign item r))) read.is)
      (subst (λ (l : List B). StandsEach S (read.value ∷ []) l) (sym one) (read.stands, tt))

  pub turn : {whole : Out (List A)} {rest mid new : List Lexeme} {ys zs : List B} {y : B} {seen : Bool} → Turn (StandsEach S) sign item whole rest ys → seen ≡ starts (is_mark sign) rest → seen ≡ true
      → mid ≡ after_first rest → Read S (item mid) y new → zs ≡ ys ++ (y ∷ []) → Turn (StandsEach S) sign item whole new zs
  turn {whole = whole} {rest = rest} {mid = mid} {new = new} {ys = ys} {zs = zs} {y = y} {seen = seen} t e passes j read i =
      next_turn (StandsEach S) sign item S G R P whole rest mid new ys zs y t (sym e ∙ passes) j read
      (λ front x k s. subst (λ (l : List B). StandsEach S (front ++ (x ∷ [])) l) (sym i) (each_more S front ys x y k s))

-- where each value is the spelled one, so is the list
pub finish_same : {A : Type 0} {out : Out (List A)} {ys : List A} {rest : List Lexeme} → Read (StandsEach (Same {A = A})) out ys rest → Read (Same {A = List A}) out ys rest
finish_same {ys = ys} read = record { value = read.value; is = read.is; stands = each_same read.value ys read.stands }

-- the same list in other memory
pub refitted : {A B : Type 0} {S : A → B → Type 0} {out : Out A} {y z : B} {rest : List Lexeme} → Read S out y rest → z ≡ y → Read S out z rest
refitted {S = S} {out = out} {rest = rest} read e = subst (λ w. Read S out w rest) (sym e) read
