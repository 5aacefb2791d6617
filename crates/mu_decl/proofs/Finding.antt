-- The first value of a name is found by its place.
use Rattle.std.proofs.Common.{◌≡◌, ◌⊎◌, inl, inr, refl, sym, ap, subst, ◌∙◌, ℕ, ◌+◌, ◌<◌, ◌≤◌, Bool, true, false, nat_eq, cond, List, [], ◌∷◌, ◌++◌, take, length, get_or, Some, None, arith}
use Rattle.std.specs.Prelude.{Option, not, ◌||◌, slice_get, find}
use Rattle.std.specs.Option.{is_some}
use Rattle.std.specs.List.{position_or_len}
use Rattle.std.specs.Cmp.Lexicographic.{pointwise, same_text}
use Rattle.std.specs.FinMap as finite
use Rattle.std.proofs.lemmas.Bool.{eq-eqb, cases_Bool, cases_lt, both_ways}
use Rattle.std.proofs.lemmas.Grind.{common_steps}
use Rattle.std.proofs.lemmas.List.{length-append}
use Rattle.std.proofs.lemmas.List.Folds.{find_at, position_or_len_push}
use Rattle.std.proofs.lemmas.List.Sums.{prefix_len-le-length, position_or_len_is, fails_before_first, passes_at_first}
use Rattle.std.proofs.lemmas.Option.{slice_get_within, slice_get-get_or, slice_get_past, get_or_from_slice_get}
use Rattle.mu_tree.specs.Maps.{MapOf}
use Rattle.mu_tree.specs.Names.{is_among}
use Rattle.mu_tree.proofs.MapLemmas.{same_name, get-insert_here, get-insert_other}
use Rattle.mu_decl.specs.Scopes.{itself}
use Rattle.mu_decl.specs.Finding.{is_called, first_place, if_called, placed, with_place, Finds}

-- the first in the beginning of a list is the first in the list
taken : {A : Type 0} (p : A → Bool) (xs : List A) (k : ℕ) (d : A) → position_or_len p (take k xs) < length (take k xs) → position_or_len p xs ≡ position_or_len p (take k xs)
taken p xs k d h =
    position_or_len_is p xs (position_or_len p (take k xs)) d
    (let le : position_or_len p (take k xs) ≤ length xs = grind (arith, common_steps, h) in le)
    (λ j g. (let same : get_or xs j d ≡ get_or (take k xs) j d = grind (arith, common_steps, h, g) in ap p same ∙ fails_before_first p (take k xs) j d g))
    (λ g. (let same : get_or xs (position_or_len p (take k xs)) d ≡ get_or (take k xs) (position_or_len p (take k xs)) d = grind (arith, common_steps, h) in ap p same ∙ passes_at_first p (take k xs) d h))

taken_near : {A : Type 0} (p : A → Bool) (xs : List A) (k : ℕ) (d : A) → position_or_len p (take k xs) < length (take k xs) → position_or_len p xs < length xs
taken_near p xs k d h =
    let same = taken p xs k d h in
    let z : position_or_len p xs < length xs = grind (arith, common_steps, same, h) in z

module _ {A : Type 0} (name : A → List ℕ) where
  -- a value of a name makes the first one stand within
  within : (xs : List A) (n : List ℕ) (k : ℕ) (x : A) → slice_get xs k ≡ Some x → is_called name n x ≡ true → length xs ≤ first_place name xs n → ⊥
  within xs n k x at is far =
      let near = slice_get_within xs k x at in
      let fails = fails_before_first (is_called name n) xs k x (let h : k < first_place name xs n = omega arith in h) in
      let same = get_or_from_slice_get xs k x x at in
      both_ways (is_called name n x) (ap (is_called name n) (sym same) ∙ fails) is

  here : (xs : List A) (n : List ℕ) (i : ℕ) → i ≡ first_place name xs n → i < length xs → if_called name n (slice_get xs i) ≡ slice_get xs i
  here [] n i e h = absurd (omega arith)
  here (d ∷ rest) n i e h =
      let got = slice_get-get_or (d ∷ rest) i d h in
      let passes : is_called name n (get_or (d ∷ rest) i d) ≡ true = subst (λ m. is_called name n (get_or (d ∷ rest) m d) ≡ true) (sym e) (passes_at_first (is_called name n) (d ∷ rest) d (let g : first_place name (d ∷ rest) n < length (d ∷ rest) = subst (λ m. m < length (d ∷ rest)) e h in g)) in
      cc (got, passes)

  none_there : (xs : List A) (n : List ℕ) (k : ℕ) (o : Option A) → slice_get xs k ≡ o → length xs ≤ first_place name xs n → if_called name n o ≡ None
  none_there xs n k None at far = refl
  none_there xs n k (Some x) at far = elim (cases_Bool (is_called name n x)) [
    | inl t ↦ absurd (within xs n k x at t far)
    | inr f ↦ ap (λ b. cond b (Some x) None) f
  ]

  none_placed : (xs : List A) (n : List ℕ) (o : Option ℕ) → length xs ≤ first_place name xs n → placed name xs n o ≡ None
  none_placed xs n None far = refl
  none_placed xs n (Some k) far = none_there xs n k (slice_get xs k) refl far

  past : (xs : List A) (n : List ℕ) → length xs ≤ first_place name xs n → find (is_called name n) xs ≡ None
  past xs n far = find_at (is_called name n) xs ∙ slice_get_past xs (first_place name xs n) far

  module _ (places : MapOf ℕ) (xs : List A) (finds : Finds name places xs) where
    -- what is found at its place is the first value of the name
    pub found : (n : List ℕ) → placed name xs n (finite.get places n) ≡ find (is_called name n) xs
    found n = elim (cases_lt (first_place name xs n) (length xs)) [
      | inl near ↦ ap (placed name xs n) (finds.place n near) ∙ here xs n (first_place name xs n) refl near ∙ sym (find_at (is_called name n) xs)
      | inr far ↦ none_placed xs n (finite.get places n) far ∙ sym (past xs n far)
    ]

    there : (n : List ℕ) → first_place name xs n < length xs → is_some (placed name xs n (finite.get places n)) ≡ true
    there n near = ap is_some (ap (placed name xs n) (finds.place n near) ∙ here xs n (first_place name xs n) refl near) ∙ got xs (first_place name xs n) near
      where
        got : (ys : List A) (k : ℕ) → k < length ys → is_some (slice_get ys k) ≡ true
        got [] k h = absurd (omega arith)
        got (d ∷ rest) k h = ap is_some (slice_get-get_or (d ∷ rest) k d h)

    not_there : (n : List ℕ) → length xs ≤ first_place name xs n → is_some (placed name xs n (finite.get places n)) ≡ false
    not_there n far = ap is_some (none_placed xs n (finite.get places n) far)

    chosen : (n : List ℕ) (b : Bool) → is_some (placed name xs n (finite.get places n)) ≡ b → with_place name xs n places ≡ cond b places (finite.insert places n (length xs))
    chosen n b e = ap (λ c. cond c places (finite.insert places n (length xs))) e

    -- a further place changes nothing for the values that are there
    pub still_finds : (n : List ℕ) → Finds name (with_place name xs n places) xs
    still_finds n = record { place = λ q near. by_name q near (same_name n q) }
      where
        by_name : (q : List ℕ) → first_place name xs q < length xs → (n ≡ q) ⊎ (n ≡ q → ⊥) → finite.get (with_place name xs n places) q ≡ Some (first_place name xs q)
        by_name q near (inl e) = ap (λ m. finite.get m q) (chosen n true (subst (λ m. is_some (placed name xs m (finite.get places m)) ≡ true) (sym e) (there q near))) ∙ finds.place q near
        by_name q near (inr other) = elim (cases_Bool (is_some (placed name xs n (finite.get places n)))) [
          | inl t ↦ ap (λ m. finite.get m q) (chosen n true t) ∙ finds.place q near
          | inr f ↦ ap (λ m. finite.get m q) (chosen n false f) ∙ get-insert_other places n (length xs) q other ∙ finds.place q near
        ]

    -- and finds the next value of this name
    pub finds_more : (x : A) → Finds name (with_place name xs (name x) places) (xs ++ x ∷ [])
    finds_more x = record { place = λ q h. by_place q h (cases_lt (first_place name xs q) (length xs)) }
      where
        pushed : (q : List ℕ) → first_place name (xs ++ x ∷ []) q ≡ cond (nat_eq (first_place name xs q) (length xs)) (length xs + cond (is_called name q x) 0 1) (first_place name xs q)
        pushed q = position_or_len_push (is_called name q) xs x

        last : (q : List ℕ) (b : Bool) → is_called name q x ≡ b → length xs ≤ first_place name xs q → first_place name (xs ++ x ∷ []) q ≡ length xs + cond b 0 1 → first_place name (xs ++ x ∷ []) q < length (xs ++ x ∷ []) → finite.get (with_place name xs (name x) places) q ≡ Some (first_place name (xs ++ x ∷ []) q)
        last q true is far e h =
            let same : name x ≡ q = same_text (name x) q (sym is) in
            let none : is_some (placed name xs (name x) (finite.get places (name x))) ≡ false = subst (λ m. is_some (placed name xs m (finite.get places m)) ≡ false) (sym same) (not_there q far) in
            let at : first_place name (xs ++ x ∷ []) q ≡ length xs = e ∙ (let z : length xs + 0 ≡ length xs = omega arith in z) in
            ap (λ m. finite.get m q) (chosen (name x) false none) ∙ ap (finite.get (finite.insert places (name x) (length xs))) (sym same) ∙ get-insert_here places (name x) (length xs) ∙ ap Some (sym at)
        last q false is far e h =
            let more = length-append xs (x ∷ []) in
            absurd (let z : ⊥ = omega arith in z)

        all_passed : (q : List ℕ) → length xs ≤ first_place name xs q → cond (nat_eq (first_place name xs q) (length xs)) (length xs + cond (is_called name q x) 0 1) (first_place name xs q) ≡ length xs + cond (is_called name q x) 0 1
        all_passed q far =
            let le = prefix_len-le-length (λ i. not (is_called name q i)) xs in
            let e : first_place name xs q ≡ length xs = omega arith in
            ap (λ b. cond b (length xs + cond (is_called name q x) 0 1) (first_place name xs q)) (eq-eqb (first_place name xs q) (length xs) e)

        by_place : (q : List ℕ) → first_place name (xs ++ x ∷ []) q < length (xs ++ x ∷ []) → (first_place name xs q < length xs) ⊎ (length xs ≤ first_place name xs q) → finite.get (with_place name xs (name x) places) q ≡ Some (first_place name (xs ++ x ∷ []) q)
        by_place q h (inl near) =
            let same : first_place name (xs ++ x ∷ []) q ≡ first_place name xs q = pushed q ∙ (let z : cond (nat_eq (first_place name xs q) (length xs)) (length xs + cond (is_called name q x) 0 1) (first_place name xs q) ≡ first_place name xs q = grind (arith, common_steps) in z) in
            (still_finds (name x)).place q near ∙ ap Some (sym same)
        by_place q h (inr far) = last q (is_called name q x) refl far (pushed q ∙ all_passed q far) h

    -- fewer values are found as they were
    pub finds_fewer : (k : ℕ) → Finds name places (take k xs)
    finds_fewer k = record { place = λ q h. fewer q xs refl h }
      where
        fewer : (q : List ℕ) (all : List A) → xs ≡ all → first_place name (take k xs) q < length (take k xs) → finite.get places q ≡ Some (first_place name (take k xs) q)
        fewer q [] e h = absurd (let z : ⊥ = grind (arith, common_steps, h, e) in z)
        fewer q (d ∷ rest) e h =
            let same = taken (is_called name q) xs k d h in
            let near : first_place name xs q < length xs = taken_near (is_called name q) xs k d h in
            finds.place q near ∙ ap Some same

among_step : (b : Bool) (m : List ℕ) (o : Option (List ℕ)) (r : Bool) → is_some o ≡ r → is_some (cond b (Some m) o) ≡ (b || r)
among_step true m o r e = refl
among_step false m o r e = e

-- a name is among some exactly where one of them is found
found_among : (n : List ℕ) (names : List (List ℕ)) → is_some (find (is_called itself n) names) ≡ is_among names n
found_among n [] = refl
found_among n (m ∷ names) = among_step (pointwise nat_eq m n) m (find (is_called itself n) names) (is_among names n) (found_among n names)

-- so it is where it stands at its place
pub among : (places : MapOf ℕ) (names : List (List ℕ)) → Finds itself places names → (n : List ℕ) → is_some (placed itself names n (finite.get places n)) ≡ is_among names n
among places names finds n = ap is_some (found itself places names finds n) ∙ found_among n names
