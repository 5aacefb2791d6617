-- How many of a list pass a test, and what is found where one does.
use Rattle.std.proofs.Common.{arith, ◌≡◌, ◌≤◌, ◌+◌, refl, sym, ap, subst, ◌∙◌, ℕ, zero, suc, Bool, true, false, cond, List, [], ◌∷◌, ◌++◌}
use Rattle.std.specs.Prelude.{◌||◌, not, Option, Some, find}
use Rattle.std.specs.Bool.{nat_eq}
use Rattle.std.specs.List.{AllByRecursion, IsDistinct, Contains, list_any}
use Rattle.std.proofs.lemmas.Bool.{and_parts, and_from, not-true, not_from_false, or_right}
use Rattle.std.proofs.lemmas.Map.Keys.{IsDistinct-cons, IsDistinct-head, IsDistinct-tail}
use Rattle.std.proofs.lemmas.Map.Views.{Contains-from_any}
use Rattle.std.proofs.lemmas.Map.Made.{IsDistinct-from_count}
use Rattle.mu_tree.specs.Names.{is_among}
use Rattle.mu_check.specs.Instances.{are_distinct}
use Rattle.std.specs.Cmp.Lexicographic.{pointwise, nat_list_eq_equiv, same_text}

pub neither : (a b : Bool) → (a || b) ≡ false → (a ≡ false) × (b ≡ false)
neither true b e = absurd (cc)
neither false b e = (refl, e)

module _ {A : Type 0} (test : A → Bool) where
  abbrev pub count : List A → ℕ
  count [] = 0
  count (x ∷ xs) = cond (test x) 1 0 + count xs

  pub count-append : (xs ys : List A) → count (xs ++ ys) ≡ count xs + count ys
  count-append [] ys = omega arith
  count-append (x ∷ xs) ys = let e : count (xs ++ ys) ≡ count xs + count ys = count-append xs ys in omega arith

  one_more : (b : Bool) (n : ℕ) → b ≡ true → 1 ≤ cond b 1 0 + n
  one_more true n e = omega arith
  one_more false n e = absurd (cc)

  pub counted : (front : List A) (x : A) (back : List A) → test x ≡ true → 1 ≤ count (front ++ x ∷ back)
  counted [] x back t = one_more (test x) (count back) t
  counted (y ∷ front) x back t = let h : 1 ≤ count (front ++ x ∷ back) = counted front x back t in omega arith

  only_one : (x y : A) (b : Bool) (n : ℕ) (o : Option A) → cond b 1 0 + n ≤ 1 → 1 ≤ n → (n ≤ 1 → o ≡ Some x) → cond b (Some y) o ≡ Some x
  only_one x y true n o h k f = absurd (omega arith)
  only_one x y false n o h k f = f (omega arith)

  -- the one that passes is found
  pub find_once : (front : List A) (x : A) (back : List A) → test x ≡ true → count (front ++ x ∷ back) ≤ 1 → find test (front ++ x ∷ back) ≡ Some x
  find_once [] x back t h = ap (λ b. cond b (Some x) (find test back)) t
  find_once (y ∷ front) x back t h = only_one x y (test y) (count (front ++ x ∷ back)) (find test (front ++ x ∷ back)) h (counted front x back t) (λ k. find_once front x back t k)

abbrev pub is_called : List ℕ → List ℕ → Bool
is_called l n = pointwise nat_eq n l

no_more : (b : Bool) (n : ℕ) → b ≡ false → n ≡ 0 → cond b 1 0 + n ≡ 0
no_more true n e h = absurd (cc)
no_more false n e h = omega arith

none_named : (l : List ℕ) (names : List (List ℕ)) → AllByRecursion (λ n. pointwise nat_eq l n ≡ false) names → count (is_called l) names ≡ 0
none_named l [] others = refl
none_named l (n ∷ names) (other, others) =
    no_more (is_called l n) (count (is_called l) names) (nat_list_eq_equiv.symm n l ∙ other) (none_named l names others)

first_named : (l n : List ℕ) (names : List (List ℕ)) (b : Bool) → is_called l n ≡ b → AllByRecursion (λ m. pointwise nat_eq n m ≡ false) names → count (is_called l) names ≤ 1 → cond b 1 0 + count (is_called l) names ≤ 1
first_named l n names false e others h = omega arith
first_named l n names true e others h = let k : count (is_called l) names ≡ 0 = none_named l names (subst (λ k. AllByRecursion (λ m. pointwise nat_eq k m ≡ false) names) (same_text n l (sym e)) others) in omega arith

-- in a list of distinct names each is there once at most
pub named_once : (l : List ℕ) (names : List (List ℕ)) → IsDistinct (pointwise nat_eq) names → count (is_called l) names ≤ 1
named_once l [] d = omega arith
named_once l (n ∷ names) d = first_named l n names (is_called l n) refl (IsDistinct-head (pointwise nat_eq) n names d) (named_once l names (IsDistinct-tail (pointwise nat_eq) n names d))

-- ---- the test of distinct names
others_differ : (n : List ℕ) (names : List (List ℕ)) → is_among names n ≡ false → AllByRecursion (λ m. pointwise nat_eq n m ≡ false) names
others_differ n [] e = tt
others_differ n (m ∷ names) e = let none = neither (pointwise nat_eq m n) (is_among names n) e in (nat_list_eq_equiv.symm n m ∙ none.0, others_differ n names none.1)

none_among : (n : List ℕ) (names : List (List ℕ)) → AllByRecursion (λ m. pointwise nat_eq n m ≡ false) names → is_among names n ≡ false
none_among n [] all = refl
none_among n (m ∷ names) (e, all) = ap (λ b. b || is_among names n) (nat_list_eq_equiv.symm m n ∙ e) ∙ none_among n names all

pub distinct_names : (names : List (List ℕ)) → are_distinct names ≡ true → IsDistinct (pointwise nat_eq) names
distinct_names [] e = IsDistinct-from_count nat_list_eq_equiv [] refl
distinct_names (n ∷ names) e =
    let parts = and_parts (not (is_among names n)) (are_distinct names) e in
    IsDistinct-cons (pointwise nat_eq) n names (others_differ n names (not-true (is_among names n) parts.0)) (distinct_names names parts.1)

pub names_distinct : (names : List (List ℕ)) → IsDistinct (pointwise nat_eq) names → are_distinct names ≡ true
names_distinct [] d = refl
names_distinct (n ∷ names) d = and_from _ _ (not_from_false (is_among names n) (none_among n names (IsDistinct-head (pointwise nat_eq) n names d))) (names_distinct names (IsDistinct-tail (pointwise nat_eq) n names d))

-- an element splits the list
pub contains_split : {A : Type 0} (xs : List A) (x : A) → Contains xs x → (front : List A) × (back : List A) × (xs ≡ front ++ x ∷ back)
contains_split [] x (k, within, e) = absurd (omega arith)
contains_split (y ∷ ys) x (zero, within, e) = ([], ys, ap (λ z. z ∷ ys) e)
contains_split (y ∷ ys) x (suc k, within, e) = let later = contains_split ys x (k, omega arith, e) in (y ∷ later.0, later.1, ap (λ zs. y ∷ zs) later.2)

-- ---- a test that one element alone passes tells whether it is there
module _ {A : Type 0} (test : A → Bool) (x : A) where
  pub passes_contained : test x ≡ true → (xs : List A) → Contains xs x → list_any test xs ≡ true
  passes_contained t [] (k, within, e) = absurd (omega arith)
  passes_contained t (y ∷ ys) (zero, within, e) = ap (λ b. b || list_any test ys) (ap test e ∙ t)
  passes_contained t (y ∷ ys) (suc k, within, e) = or_right (test y) (list_any test ys) (passes_contained t ys (k, omega arith, e))

pub among_contained : (names : List (List ℕ)) (n : List ℕ) → is_among names n ≡ true → Contains names n
among_contained names n e = Contains-from_any {eq = λ q m. pointwise nat_eq m q} (λ q m t. sym (same_text m q (sym t))) n names e

pub contained_among : (names : List (List ℕ)) (n : List ℕ) → Contains names n → is_among names n ≡ true
contained_among names n c = passes_contained (λ m. pointwise nat_eq m n) n (nat_list_eq_equiv.refl n) names c
