-- Where a name stands among bound names.
use Rattle.std.proofs.Common.{◌≡◌, ℕ, suc, ◌+◌, Bool, true, false, ◌||◌, cond, nat_lt, nat_eq, List, [], ◌∷◌, ◌++◌, length, reverse, slice_get, Option, Some, None, refl, ap, sym, ◌∙◌, arith}
use Rattle.std.specs.List.{list_any, position}
use Rattle.std.proofs.lemmas.List.Recursion.{is_position_or_len}
use Rattle.std.specs.Option.{option_map}
use Rattle.std.specs.Cmp.Lexicographic.{pointwise, same_text}
use Rattle.std.proofs.lemmas.List.{reverse-append, length-reverse}
use Rattle.std.proofs.lemmas.List.Folds.{list_any-append}
use Rattle.mu_tree.specs.Names.{is_among}
use Rattle.mu_decl.specs.Nameless.{place}

-- `position`, by recursion
abbrev pub find_at : {X : Type 0} → (X → Bool) → List X → Option ℕ
find_at p [] = None
find_at p (x ∷ xs) = cond (p x) (Some 0) (option_map suc (find_at p xs))

lt_suc : (k n : ℕ) → nat_lt (1 + k) (suc n) ≡ nat_lt k n
lt_suc k n = grind arith

lt_zero : (n : ℕ) → nat_lt 0 (suc n) ≡ true
lt_zero n = grind arith

map_cond : (b : Bool) (k : ℕ) → option_map suc (cond b (Some k) None) ≡ cond b (Some (1 + k)) None
map_cond true k = let e : suc k ≡ 1 + k = omega arith in ap Some e
map_cond false k = refl

abbrev at_or_len : {X : Type 0} → (X → Bool) → List X → ℕ
at_or_len p [] = 0
at_or_len p (x ∷ xs) = cond (p x) 0 (1 + at_or_len p xs)

abbrev within : ℕ → ℕ → Option ℕ
within k n = cond (nat_lt k n) (Some k) None

position_step : (b : Bool) (k n : ℕ) → within (cond b 0 (1 + k)) (suc n) ≡ cond b (Some 0) (option_map suc (within k n))
position_step true k n = cc (lt_zero n)
position_step false k n = cc (lt_suc k n, map_cond (nat_lt k n) k)

position-at : {X : Type 0} (p : X → Bool) (xs : List X) → position p xs ≡ within (at_or_len p xs) (length xs)
position-at p xs = ap (λ k. within k (length xs)) (sym (is_position_or_len (at_or_len p) p refl (λ x ys. refl) xs))

at-find : {X : Type 0} (p : X → Bool) (xs : List X) → within (at_or_len p xs) (length xs) ≡ find_at p xs
at-find p [] = refl
at-find p (x ∷ xs) = position_step (p x) (at_or_len p xs) (length xs) ∙ ap (λ o. cond (p x) (Some 0) (option_map suc o)) (at-find p xs)

pub position-is : {X : Type 0} (p : X → Bool) (xs : List X) → position p xs ≡ find_at p xs
position-is p xs = position-at p xs ∙ at-find p xs

-- the first of two, the second moved by `n`
abbrev pub onto : ℕ → Option ℕ → Option ℕ → Option ℕ
onto n (Some i) o = Some i
onto n None o = option_map (λ j. n + j) o

onto_zero : (o : Option ℕ) → o ≡ onto 0 None o
onto_zero None = refl
onto_zero (Some j) = let e : j ≡ 0 + j = omega arith in ap Some e

onto_suc : (n : ℕ) (a o : Option ℕ) → option_map suc (onto n a o) ≡ onto (suc n) (option_map suc a) o
onto_suc n (Some i) o = refl
onto_suc n None None = refl
onto_suc n None (Some j) = let e : suc (n + j) ≡ suc n + j = omega arith in ap Some e

onto_step : (b : Bool) (n : ℕ) (a o r : Option ℕ) → r ≡ onto n a o → cond b (Some 0) (option_map suc r) ≡ onto (suc n) (cond b (Some 0) (option_map suc a)) o
onto_step true n a o r e = refl
onto_step false n a o r e = ap (option_map suc) e ∙ onto_suc n a o

find_append : {X : Type 0} (p : X → Bool) (xs ys : List X) → find_at p (xs ++ ys) ≡ onto (length xs) (find_at p xs) (find_at p ys)
find_append p [] ys = onto_zero (find_at p ys)
find_append p (x ∷ xs) ys = onto_step (p x) (length xs) (find_at p xs) (find_at p ys) (find_at p (xs ++ ys)) (find_append p xs ys)

abbrev is : List ℕ → List ℕ → Bool
is n m = pointwise nat_eq m n

pub place-is : (bound : List (List ℕ)) (n : List ℕ) → place bound n ≡ find_at (is n) (reverse bound)
unfolding place
place-is bound n = position-is (is n) (reverse bound)

pub place-append : (xs ys : List (List ℕ)) (n : List ℕ) → place (xs ++ ys) n ≡ onto (length ys) (place ys n) (place xs n)
place-append xs ys n = cc (place-is (xs ++ ys) n, place-is xs n, place-is ys n, reverse-append xs ys, find_append (is n) (reverse ys) (reverse xs), length-reverse ys)

-- what stands at the place is the name
found_step : (n x : List ℕ) (xs : List (List ℕ)) (b : Bool) (a : Option ℕ) (i : ℕ) → pointwise nat_eq x n ≡ b → ((j : ℕ) → a ≡ Some j → slice_get xs j ≡ Some n) → cond b (Some 0) (option_map suc a) ≡ Some i → slice_get (x ∷ xs) i ≡ Some n
found_step n x xs true a i t ih e =
    let s : x ≡ n = same_text x n (sym t) in
    let z : 0 ≡ i = cc in
    ap (slice_get (x ∷ xs)) (sym z) ∙ ap Some s
found_step n x xs false None i t ih e = cc
found_step n x xs false (Some j) i t ih e =
    let z : suc j ≡ i = cc in
    ap (slice_get (x ∷ xs)) (sym z) ∙ ih j refl

pub found_at : (n : List ℕ) (xs : List (List ℕ)) (i : ℕ) → find_at (is n) xs ≡ Some i → slice_get xs i ≡ Some n
found_at n [] i e = cc
found_at n (x ∷ xs) i e = found_step n x xs (pointwise nat_eq x n) (find_at (is n) xs) i refl (found_at n xs) e

or_comm : (a b : Bool) → (a || b) ≡ (b || a)
or_comm true true = refl
or_comm true false = refl
or_comm false true = refl
or_comm false false = refl

or_false : (a : Bool) → (a || false) ≡ a
or_false true = refl
or_false false = refl

any_reverse : {X : Type 0} (p : X → Bool) (xs : List X) → list_any p (reverse xs) ≡ list_any p xs
any_reverse p [] = refl
any_reverse p (x ∷ xs) = cc (reverse-append (x ∷ []) xs, list_any-append p (reverse xs) (x ∷ []), any_reverse p xs, or_comm (list_any p xs) (p x), or_false (p x))

-- a name is among some exactly where it has a place
any_step : (b c : Bool) (a : Option ℕ) → (a ≡ None → c ≡ false) → cond b (Some 0) (option_map suc a) ≡ None → (b || c) ≡ false
any_step true c a ih e = cc
any_step false c None ih e = ih refl
any_step false c (Some j) ih e = cc

none_at : {X : Type 0} (p : X → Bool) (xs : List X) → find_at p xs ≡ None → list_any p xs ≡ false
none_at p [] e = refl
none_at p (x ∷ xs) e = any_step (p x) (list_any p xs) (find_at p xs) (none_at p xs) e

some_step : (b c : Bool) (a : Option ℕ) (i : ℕ) → ((j : ℕ) → a ≡ Some j → c ≡ true) → cond b (Some 0) (option_map suc a) ≡ Some i → (b || c) ≡ true
some_step true c a i ih e = refl
some_step false c None i ih e = cc
some_step false c (Some j) i ih e = ih j refl

some_at : {X : Type 0} (p : X → Bool) (xs : List X) (i : ℕ) → find_at p xs ≡ Some i → list_any p xs ≡ true
some_at p [] i e = cc
some_at p (x ∷ xs) i e = some_step (p x) (list_any p xs) (find_at p xs) i (some_at p xs) e

pub is_among_none : (xs : List (List ℕ)) (n : List ℕ) → place xs n ≡ None → is_among xs n ≡ false
is_among_none xs n e = cc (none_at (is n) (reverse xs) (sym (place-is xs n) ∙ e), any_reverse (is n) xs)

pub is_among_some : (xs : List (List ℕ)) (n : List ℕ) (i : ℕ) → place xs n ≡ Some i → is_among xs n ≡ true
is_among_some xs n i e = cc (some_at (is n) (reverse xs) i (sym (place-is xs n) ∙ e), any_reverse (is n) xs)

pub place_get : (xs : List (List ℕ)) (n : List ℕ) (i : ℕ) → place xs n ≡ Some i → slice_get (reverse xs) i ≡ Some n
place_get xs n i e = found_at n (reverse xs) i (sym (place-is xs n) ∙ e)
