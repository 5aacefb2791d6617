-- The least context: nothing is declared, so a unit sees itself and `base` alone.
use Rattle.std.specs.Prelude.{◌≡◌, ◌⊎◌, ◌||◌, ◌&&◌, ℕ, Bool, true, false, List, [], ◌∷◌, length, map, is_some, None, suc, zero, nat_eq, refl}
use Rattle.std.specs.Option.{option_map_or}
use Rattle.std.specs.Ordering.{nat_cmp, ordering_reverse, is_eq}
use Rattle.std.specs.declared.cmp.Ordering.{Ordering}
use Rattle.std.specs.declared.cmp.Ordering.TheVariants.{Less, Equal, Greater}
use Rattle.std.specs.Cmp.Lexicographic.{slice_cmp, pointwise, same_text, nat_list_cmp_total}
use Rattle.std.specs.List.{filter}
use Rattle.std.specs.List.Sorted.{IsStrictlySortedBy}
use Rattle.std.specs.FinMap as finite
use Rattle.std.proofs.Common.{sym, ap, ◌∙◌, subst, inl, inr, rules, arith}
use Rattle.std.proofs.lemmas.Map.Lookups.{exact_bytes}
use Rattle.std.proofs.lemmas.Map.Views.{tells_apart}
use Rattle.mu_tree.specs.Names.{is_among}
use Rattle.mu_tree.specs.Maps.{MapOf}
use Rattle.mu_decl.specs.Contexts.{World, IsSeen, IsLawful, HasOrderedParents, Sees, Climbs, parents_of, own_constants, own_axioms, base}
use Rattle.mu_decl.specs.declared.declaration.ConstDecl.{ConstDecl}
use Rattle.mu_decl.specs.declared.declaration.Statement.{Statement}

-- two names in byte order, once each, by how `base` compares with the other
abbrev pub seen_by : List ℕ → Ordering → List (List ℕ)
seen_by u Less = base ∷ u ∷ []
seen_by u Equal = base ∷ []
seen_by u Greater = u ∷ base ∷ []

-- a unit and `base`, in byte order
abbrev pub seen_alone : List ℕ → List (List ℕ)
seen_alone u = seen_by u (slice_cmp nat_cmp base u)

-- a world in which nothing is declared
abbrev pub nothing : World
nothing = record {
  parents = finite.empty;
  constants = finite.empty;
  definitions = finite.empty;
  rules = finite.empty;
  morphisms = finite.empty;
  seen = seen_alone;
}

same_self : (n : List ℕ) → pointwise nat_eq n n ≡ true
same_self n = search rules

is_name : (m n : List ℕ) → m ≡ n → pointwise nat_eq m n ≡ true
is_name m n e = subst (λ k. pointwise nat_eq m k ≡ true) e (same_self m)

either : (a b : Bool) → (a || b) ≡ true → (a ≡ true) ⊎ (b ≡ true)
either true b e = inl refl
either false b e = inr e

or_left : (a b : Bool) → a ≡ true → (a || b) ≡ true
or_left a b e = ap (λ c. c || b) e

or_right : (a b : Bool) → b ≡ true → (a || b) ≡ true
or_right true b e = refl
or_right false b e = e

module _ (u n : List ℕ) where
  one_of : (m : List ℕ) (rest : List (List ℕ)) → is_among (m ∷ rest) n ≡ true → (m ≡ n) ⊎ (is_among rest n ≡ true)
  one_of m rest e = elim (either (pointwise nat_eq m n) (is_among rest n) e) [
    | inl t ↦ inl (same_text m n (sym t))
    | inr t ↦ inr t
  ]

  is_base : base ≡ n → Sees nothing u n
  is_base e = inl (sym e)

  is_unit : u ≡ n → Sees nothing u n
  is_unit e = inr (0, e)

  no_more : {A : Type 0} → is_among [] n ≡ true → A
  no_more e = cc

  listed : (o : Ordering) → is_among (seen_by u o) n ≡ true → Sees nothing u n
  listed Less e = elim (one_of base (u ∷ []) e) [
    | inl b ↦ is_base b
    | inr r ↦ elim (one_of u [] r) [ inl b ↦ is_unit b | inr s ↦ no_more s ]
  ]
  listed Equal e = elim (one_of base [] e) [ inl b ↦ is_base b | inr s ↦ no_more s ]
  listed Greater e = elim (one_of u (base ∷ []) e) [
    | inl b ↦ is_unit b
    | inr r ↦ elim (one_of base [] r) [ inl b ↦ is_base b | inr s ↦ no_more s ]
  ]

  first : (m : List ℕ) (rest : List (List ℕ)) → m ≡ n → is_among (m ∷ rest) n ≡ true
  first m rest e = or_left (pointwise nat_eq m n) (is_among rest n) (is_name m n e)

  later : (m : List ℕ) (rest : List (List ℕ)) → is_among rest n ≡ true → is_among (m ∷ rest) n ≡ true
  later m rest e = or_right (pointwise nat_eq m n) (is_among rest n) e

  base_listed : (o : Ordering) → base ≡ n → is_among (seen_by u o) n ≡ true
  base_listed Less e = first base (u ∷ []) e
  base_listed Equal e = first base [] e
  base_listed Greater e = later u (base ∷ []) (first base [] e)

  unit_listed : (o : Ordering) → slice_cmp nat_cmp base u ≡ o → u ≡ n → is_among (seen_by u o) n ≡ true
  unit_listed Less c e = later base (u ∷ []) (first u [] e)
  unit_listed Equal c e = first base [] (tells_apart exact_bytes base u (ap is_eq c) ∙ e)
  unit_listed Greater c e = first u (base ∷ []) e

no_parents : (u : List ℕ) → parents_of nothing u ≡ []
no_parents u = ap (λ o. option_map_or (λ names. names) o []) (finite.get-empty (slice_cmp nat_cmp) u)

climbed : (k : ℕ) (u n : List ℕ) → Climbs nothing k u n → u ≡ n
climbed zero u n c = c
climbed (suc k) u n (p, among, c) = let z : false ≡ true = ap (λ names. is_among names p) (sym (no_parents u)) ∙ among in absurd (none z)
  where
    none : false ≡ true → ⊥
    none e = cc

seen_listed : (u n : List ℕ) → Sees nothing u n → is_among (seen_alone u) n ≡ true
seen_listed u n (inl e) = base_listed u n (slice_cmp nat_cmp base u) (sym e)
seen_listed u n (inr (k, c)) = unit_listed u n (slice_cmp nat_cmp base u) refl (climbed k u n c)

ascends : (u : List ℕ) (o : Ordering) → slice_cmp nat_cmp base u ≡ o → IsStrictlySortedBy (slice_cmp nat_cmp) (seen_by u o)
unfolding IsStrictlySortedBy
ascends u Less c = ((c, tt), (tt, tt))
ascends u Equal c = (tt, tt)
ascends u Greater c = ((nat_list_cmp_total.antisymm u base ∙ ap ordering_reverse c, tt), (tt, tt))

-- what is seen in it is listed
pub nothing_seen : (u : List ℕ) → IsSeen nothing u
nothing_seen u = ((λ n. (listed u n (slice_cmp nat_cmp base u), seen_listed u n)), ascends u (slice_cmp nat_cmp base u) refl)

empty_ordered : IsStrictlySortedBy (slice_cmp nat_cmp) []
unfolding IsStrictlySortedBy
empty_ordered = tt

-- where there are no parents they are in order
pub none_ordered : (w : World) (u : List ℕ) → parents_of w u ≡ [] → HasOrderedParents w u
none_ordered w u e = subst (IsStrictlySortedBy (slice_cmp nat_cmp)) (sym e) empty_ordered

-- the law of a context holds of it
pub nothing_lawful : (u : List ℕ) → IsLawful nothing u
nothing_lawful u = record { parents = none_ordered nothing u (no_parents u); seen = nothing_seen u }

no_items : {X : Type 0} (xs : List X) → length xs ≡ 0 → xs ≡ []
no_items [] e = refl
no_items (x ∷ xs) e = absurd (let z : ⊥ = omega arith in z)

module _ {V : Type 0} where
  abbrev none : MapOf V
  none = finite.empty

  no_entries : finite.entries none ≡ []
  no_entries = no_items (finite.entries none) (sym (finite.len-entries none) ∙ finite.len-empty (slice_cmp nat_cmp) V)

  pub no_value : (n : List ℕ) → None ≡ finite.get none n
  no_value n = sym (finite.get-empty (slice_cmp nat_cmp) n)

pub no_theory : (n : List ℕ) → false ≡ finite.contains_key nothing.parents n
no_theory n = ap is_some (no_value {V = List (List ℕ)} n)

pub no_parents_of : (u : List ℕ) → [] ≡ parents_of nothing u
no_parents_of u = sym (no_parents u)

pub no_own_constants : (u : List ℕ) → [] ≡ own_constants nothing u
no_own_constants u = ap (λ entries. map (λ entry. entry.0) (filter (λ entry. pointwise nat_eq entry.1.theory u) entries)) (sym (no_entries {V = ConstDecl}))

pub no_own_axioms : (u : List ℕ) → [] ≡ own_axioms nothing u
no_own_axioms u = ap (λ entries. map (λ entry. entry.0) (filter (λ entry. pointwise nat_eq entry.1.theory u && entry.1.is_axiom) entries)) (sym (no_entries {V = Statement}))

-- what each look-up answers in it
pub ruleset nothing_equations = (no_value, no_theory, no_parents_of, no_own_constants, no_own_axioms)
