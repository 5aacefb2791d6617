-- The places of abstractions that come one after another.
use Rattle.std.proofs.Common.{◌≡◌, inl, inr, refl, sym, ap, subst, ◌∙◌, ℕ, true, false, nat_eq, cond, List, [], ◌∷◌, ◌++◌, Some, None}
use Rattle.std.specs.Prelude.{Option, slice_get, option_and_then, is_some}
use Rattle.std.specs.Option.{option_or}
use Rattle.std.specs.Ordering.{nat_cmp}
use Rattle.std.specs.Cmp.Lexicographic.{pointwise, slice_cmp, same_text, nat_list_eq_equiv}
use Rattle.std.specs.FinMap as finite
use Rattle.std.proofs.lemmas.Bool.{cases_Bool, false_from_ne_true}
use Rattle.mu_tree.specs.Maps.{MapOf}
use Rattle.mu_tree.proofs.MapLemmas.{same_name, get-insert_here, get-insert_other}
use Rattle.mu_decl.specs.declared.instantiating.Abstraction.{Abstraction}
use Rattle.mu_decl.specs.Instantiating.{abstraction_of}
use Rattle.mu_decl.specs.Abstractions.{located, with_place, Locates}

first_more : (xs : List Abstraction) (a : Abstraction) (m : List ℕ) → abstraction_of (xs ++ a ∷ []) m ≡ option_or (abstraction_of xs m) (cond (pointwise nat_eq a.meta m) (Some a) None)
first_more [] a m = refl
first_more (x ∷ xs) a m = elim (cases_Bool (pointwise nat_eq x.meta m)) [
  | inl t ↦ cc t
  | inr f ↦ (let r = first_more xs a m in cc (f, r))
]

or_none : (x : Option Abstraction) → option_or x None ≡ x
or_none None = refl
or_none (Some x) = refl

or_there : (x y : Option Abstraction) → is_some x ≡ true → x ≡ option_or x y
or_there None y h = cc
or_there (Some x) y h = refl

or_first : (x : Option Abstraction) (y : Option Abstraction) → is_some x ≡ false → y ≡ option_or x y
or_first None y h = refl
or_first (Some x) y h = cc

module _ (places : MapOf ℕ) (given xs : List Abstraction) (i : ℕ) (a : Abstraction) (at : slice_get given i ≡ Some a) (locates : Locates places given xs) where
  other : (m : List ℕ) → (a.meta ≡ m → ⊥) → abstraction_of xs m ≡ abstraction_of (xs ++ a ∷ []) m
  other m n = sym (or_none (abstraction_of xs m)) ∙ ap (λ b. option_or (abstraction_of xs m) (cond b (Some a) None)) (sym (false_from_ne_true (pointwise nat_eq a.meta m) (λ t. n (same_text a.meta m (sym t))))) ∙ sym (first_more xs a m)

  kept : is_some (located given places a.meta) ≡ true → Locates places given (xs ++ a ∷ [])
  kept is = record {
    first = λ m. elim (same_name a.meta m) [
      | inl e ↦ locates.first m ∙ or_there (abstraction_of xs m) (cond (pointwise nat_eq a.meta m) (Some a) None) (ap is_some (sym (locates.first m)) ∙ subst (λ n. is_some (located given places n) ≡ true) e is) ∙ sym (first_more xs a m)
      | inr n ↦ locates.first m ∙ other m n
    ];
  }

  put : is_some (located given places a.meta) ≡ false → Locates (finite.insert places a.meta i) given (xs ++ a ∷ [])
  put free = record {
    first = λ m. elim (same_name a.meta m) [
      | inl e ↦
          (let yes : pointwise nat_eq a.meta m ≡ true = subst (λ n. pointwise nat_eq a.meta n ≡ true) e (nat_list_eq_equiv.refl a.meta) in
          let none : is_some (abstraction_of xs m) ≡ false = ap is_some (sym (locates.first m)) ∙ subst (λ n. is_some (located given places n) ≡ false) e free in
          ap (option_and_then (slice_get given)) (ap (finite.get (finite.insert places a.meta i)) (sym e) ∙ get-insert_here places a.meta i) ∙ at
          ∙ or_first (abstraction_of xs m) (Some a) none ∙ ap (λ b. option_or (abstraction_of xs m) (cond b (Some a) None)) (sym yes) ∙ sym (first_more xs a m))
      | inr n ↦ ap (option_and_then (slice_get given)) (get-insert_other places a.meta i m n) ∙ locates.first m ∙ other m n
    ];
  }

  -- with the place of one abstraction more
  pub locates_more : Locates (with_place given i a.meta places) given (xs ++ a ∷ [])
  locates_more = elim (cases_Bool (is_some (located given places a.meta))) [
    | inl t ↦ subst (λ b. Locates (cond b places (finite.insert places a.meta i)) given (xs ++ a ∷ [])) (sym t) (kept t)
    | inr f ↦ subst (λ b. Locates (cond b places (finite.insert places a.meta i)) given (xs ++ a ∷ [])) (sym f) (put f)
  ]

-- before the first abstraction
pub locates_none : (given : List Abstraction) → Locates finite.empty given []
locates_none given = record { first = λ m. ap (option_and_then (slice_get given)) (finite.get-empty (slice_cmp nat_cmp) m) }
