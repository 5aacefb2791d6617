-- How many items pass a test, one of them above all.
use Rattle.std.proofs.Common.{arith, inl, inr, ◌≡◌, refl, sym, ◌∙◌, ap, ◌+◌, ◌<◌, ◌≤◌, suc, zero, cond, List, [], ◌∷◌, ◌++◌, ℕ, Bool, true, false, length, set, take, drop, Some, None, count_by}
use Rattle.std.specs.Prelude.{◌||◌, not, nat_lt}
use Rattle.std.specs.List.{list_any, flat_map, slice_get, position, position_or_len}
use Rattle.std.proofs.lemmas.Bool.{or_parts, or_from, false≢true, cases_Bool, cond-true, cond-false, ltb-true}
use Rattle.std.proofs.lemmas.List.Sums.{sum_by-cons, sum_by-append}
use Rattle.std.proofs.lemmas.List.{length-append}
use Rattle.std.proofs.lemmas.List.Concat.{flat_map-append}
use Rattle.std.proofs.lemmas.List.Folds.{list_any-append}
use Rattle.std.proofs.lemmas.List.Quantifiers.{position-Some}
use Rattle.std.proofs.lemmas.Option.{get_or_from_slice_get}
use Rattle.std.proofs.lemmas.Bool.Decides.{nat_tests}

indicator : (b : Bool) → cond {A = ℕ} b 1 0 ≡ 0 → b ≡ false
indicator true e = absurd (omega arith)
indicator false e = refl

module _ {X : Type 0} (q : X → Bool) where
  pub count_by-cons : (x : X) (xs : List X) → count_by q (x ∷ xs) ≡ cond (q x) 1 0 + count_by q xs
  count_by-cons x xs = sum_by-cons (λ y. cond (q y) 1 0) x xs

  pub count_by-append : (xs ys : List X) → count_by q (xs ++ ys) ≡ count_by q xs + count_by q ys
  count_by-append xs ys = sum_by-append (λ y. cond (q y) 1 0) xs ys

  -- none passes where none is counted
  pub none_any : (xs : List X) → count_by q xs ≡ 0 → list_any q xs ≡ false
  none_any [] none = refl
  none_any (x ∷ xs) none = let more = count_by-cons x xs in or_from (q x) (list_any q xs) (indicator (q x) (omega arith)) (none_any xs (omega arith))

  -- and none is counted where none passes
  pub any_none : (xs : List X) → list_any q xs ≡ false → count_by q xs ≡ 0
  any_none [] none = refl
  any_none (x ∷ xs) none = let parts = or_parts (q x) (list_any q xs) none in let first : cond {A = ℕ} (q x) 1 0 ≡ 0 = ap (λ b. cond {A = ℕ} b 1 0) parts.0 in
      let rest = any_none xs parts.1 in let more = count_by-cons x xs in omega arith

  -- one is counted where one passes
  pub any_some : (xs : List X) → list_any q xs ≡ true → 0 < count_by q xs
  any_some xs some = go (count_by q xs) (λ none. none_any xs none)
    where
      go : (n : ℕ) → (n ≡ 0 → list_any q xs ≡ false) → 0 < n
      go zero none = absurd (false≢true (sym (none refl) ∙ some))
      go (suc n) none = omega arith

-- a list about what stands at a place
pub split_at : {X : Type 0} (xs : List X) (at : ℕ) (x : X) → slice_get xs at ≡ Some x → xs ≡ take at xs ++ x ∷ drop (suc at) xs
split_at [] at x e = cc
split_at (y ∷ xs) zero x e = let same : y ≡ x = cc in ap (λ z. z ∷ xs) same
split_at (y ∷ xs) (suc at) x e = ap (λ rest. y ∷ rest) (split_at xs at x e)

-- and with something else there
pub set_at : {X : Type 0} (xs : List X) (at : ℕ) (x z : X) → slice_get xs at ≡ Some x → set xs at z ≡ take at xs ++ z ∷ drop (suc at) xs
set_at [] at x z e = cc
set_at (y ∷ xs) zero x z e = refl
set_at (y ∷ xs) (suc at) x z e = ap (λ rest. y ∷ rest) (set_at xs at x z e)

-- where none passes a weaker test, none passes
pub any_weaker : {X : Type 0} (p q : X → Bool) → ((x : X) → q x ≡ false → p x ≡ false) → (xs : List X) → list_any q xs ≡ false → list_any p xs ≡ false
any_weaker p q weaker [] none = refl
any_weaker p q weaker (x ∷ xs) none = let parts = or_parts (q x) (list_any q xs) none in or_from (p x) (list_any p xs) (weaker x parts.0) (any_weaker p q weaker xs parts.1)

-- what passes in pieces passes in all of them together
pub list_any-flat_map : {X Y : Type 0} (q : Y → Bool) (f : X → List Y) (xs : List X) → list_any (λ x. list_any q (f x)) xs ≡ list_any q (flat_map f xs)
list_any-flat_map q f [] = refl
list_any-flat_map q f (x ∷ xs) = ap (λ b. list_any q (f x) || b) (list_any-flat_map q f xs) ∙ sym (list_any-append q (f x) (flat_map f xs))

-- a position is found where one passes, at one that passes
pub position_some : {X : Type 0} (p : X → Bool) (xs : List X) (at : ℕ) (x : X) → position p xs ≡ Some at → slice_get xs at ≡ Some x → p x ≡ true
position_some p xs at x found is = ap p (sym (get_or_from_slice_get xs at x x is)) ∙ (position-Some p xs at x found).1

within_any : {X : Type 0} (p : X → Bool) (xs : List X) → nat_lt (position_or_len p xs) (length xs) ≡ list_any p xs
within_any p [] = refl
within_any p (x ∷ xs) = step (p x) (position_or_len p xs) (length xs) (list_any p xs) (within_any p xs)
  where
    step : (b : Bool) (n m : ℕ) (t : Bool) → nat_lt n m ≡ t → nat_lt (cond (not b) (1 + n) 0) (suc m) ≡ (b || t)
    step true n m t e = grind (arith, nat_tests)
    step false n m t e = grind (arith, nat_tests)

-- none is found where none passes
pub position_none : {X : Type 0} (p : X → Bool) (xs : List X) → position p xs ≡ None → list_any p xs ≡ false
position_none p xs e = sym (within_any p xs) ∙ by_test _ _ e
  where
    by_test : (b : Bool) (n : ℕ) → cond b (Some n) None ≡ None → b ≡ false
    by_test true n e = cc
    by_test false n e = refl

-- a piece is no longer than all of them together
pub length_piece : {X Y : Type 0} (f : X → List Y) (xs : List X) (at : ℕ) (x : X) → slice_get xs at ≡ Some x → length (f x) ≤ length (flat_map f xs)
length_piece f xs at x is =
    let whole = ap length (ap (flat_map f) (split_at xs at x is) ∙ flat_map-append f (take at xs) (x ∷ drop (suc at) xs)) in
    let front = length-append (flat_map f (take at xs)) (f x ++ flat_map f (drop (suc at) xs)) in
    let back = length-append (f x) (flat_map f (drop (suc at) xs)) in
    omega arith

-- a list with its own item in the place is the list
pub set_own : {X : Type 0} (xs : List X) (at : ℕ) (x z : X) → slice_get xs at ≡ Some x → z ≡ x → set xs at z ≡ xs
set_own xs at x z is same = ap (set xs at) same ∙ set_at xs at x x is ∙ sym (split_at xs at x is)

-- where one is counted, there is a way to it
pub none_way : {X Y : Type 0} (q : Y → Bool) (f : X → List Y) (xs : List X) → position (λ x. list_any q (f x)) xs ≡ None → count_by q (flat_map f xs) ≡ 1 → ⊥
none_way q f xs none one = let zero_of = any_none q (flat_map f xs) (sym (list_any-flat_map q f xs) ∙ position_none (λ x. list_any q (f x)) xs none) in absurd (omega arith)

-- a position is within the list
pub position_within : {X : Type 0} (p : X → Bool) (xs : List X) (at : ℕ) → position p xs ≡ Some at → at < length xs
position_within p xs at found = go (position_or_len p xs) (length xs) found
  where
    go : (n m : ℕ) → cond (nat_lt n m) (Some n) None ≡ Some at → at < m
    go n m e = elim (cases_Bool (nat_lt n m)) [
      | inl below_len ↦ let same : n ≡ at = one (sym (cond-true (nat_lt n m) (Some n) None below_len) ∙ e) in let below = ltb-true n m below_len in omega arith
      | inr past ↦ absurd (none (sym (cond-false (nat_lt n m) (Some n) None past) ∙ e))
    ]
      where
        one : Some n ≡ Some at → n ≡ at
        one e = cc

        none : None ≡ Some at → ⊥
        none e = cc
