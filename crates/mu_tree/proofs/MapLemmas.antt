-- Finite maps by name, one name at a time.
use Rattle.std.proofs.Common.{◌≡◌, ◌⊎◌, inl, inr, sym, ap, subst, ◌∙◌, ℕ, true, false, cond, List, Some, None}
use Rattle.std.specs.Prelude.{is_some}
use Rattle.std.specs.Ordering.{nat_cmp, eq_by_cmp, is_eq}
use Rattle.std.specs.Cmp.{tied_itself}
use Rattle.std.specs.Cmp.Lexicographic.{slice_cmp, nat_list_cmp_total}
use Rattle.std.specs.FinMap as map
use Rattle.std.proofs.lemmas.Bool.{false≢true, cases_Bool}
use Rattle.std.proofs.lemmas.Map.Lookups.{exact_bytes}
use Rattle.std.proofs.lemmas.Map.Views.{tells_apart}
use Rattle.mu_tree.specs.Maps.{MapOf}

-- two names are one or they are not
pub same_name : (a b : List ℕ) → (a ≡ b) ⊎ (a ≡ b → ⊥)
same_name a b = elim (cases_Bool (eq_by_cmp (slice_cmp nat_cmp) a b)) [
  | inl e ↦ inl (tells_apart exact_bytes a b e)
  | inr n ↦ inr (λ e. false≢true (sym n ∙ subst (λ c. eq_by_cmp (slice_cmp nat_cmp) a c ≡ true) e (ap is_eq (tied_itself nat_list_cmp_total a))))
]

apart : (a b : List ℕ) → (a ≡ b → ⊥) → eq_by_cmp (slice_cmp nat_cmp) a b ≡ false
apart a b n = elim (cases_Bool (eq_by_cmp (slice_cmp nat_cmp) a b)) [ inl e ↦ absurd (n (tells_apart exact_bytes a b e)) | inr f ↦ f ]

itself : (a : List ℕ) → eq_by_cmp (slice_cmp nat_cmp) a a ≡ true
itself a = ap is_eq (tied_itself nat_list_cmp_total a)

module _ {V : Type 0} (m : MapOf V) (k : List ℕ) (v : V) where
  -- at the name itself
  pub get-insert_here : map.get (map.insert m k v) k ≡ Some v
  get-insert_here = map.get-insert nat_list_cmp_total m k v k ∙ ap (λ b. cond b (Some v) (map.get m k)) (itself k)

  -- at every other name
  pub get-insert_other : (q : List ℕ) → (k ≡ q → ⊥) → map.get (map.insert m k v) q ≡ map.get m q
  get-insert_other q n = map.get-insert nat_list_cmp_total m k v q ∙ ap (λ b. cond b (Some v) (map.get m q)) (apart q k (λ e. n (sym e)))

  -- what holds of the new entry and of all that were there holds of each entry
  pub inserted : (P : List ℕ → V → Type 0) → P k v → ((q : List ℕ) (w : V) → map.get m q ≡ Some w → P q w) → (q : List ℕ) (w : V) → map.get (map.insert m k v) q ≡ Some w → P q w
  inserted P here there q w is = elim (same_name k q) [
    | inl e ↦ subst (λ r. P r w) e (subst (λ u. P k u) (let same : v ≡ w = some_same (sym get-insert_here ∙ ap (map.get (map.insert m k v)) e ∙ is) in same) here)
    | inr n ↦ there q w (sym (get-insert_other q n) ∙ is)
  ]
    where
      some_same : {A : Type 0} {x y : A} → Some x ≡ Some y → x ≡ y
      some_same e = cc

  -- a name that was there is there
  pub contains_key-insert : (q : List ℕ) → map.contains_key m q ≡ true → map.contains_key (map.insert m k v) q ≡ true
  contains_key-insert q is = elim (same_name k q) [
    | inl e ↦ ap is_some (ap (map.get (map.insert m k v)) (sym e) ∙ get-insert_here)
    | inr n ↦ ap is_some (get-insert_other q n) ∙ is
  ]

-- a second value at a name replaces the first
pub insert_twice : {V : Type 0} (m : MapOf V) (k : List ℕ) (v w : V) → map.insert (map.insert m k v) k w ≡ map.insert m k w
insert_twice m k v w = map.same_map nat_list_cmp_total exact_bytes _ _ (λ q. elim (same_name k q) [
  | inl e ↦ ap (map.get (map.insert (map.insert m k v) k w)) (sym e) ∙ get-insert_here (map.insert m k v) k w ∙ sym (get-insert_here m k w) ∙ ap (map.get (map.insert m k w)) e
  | inr n ↦ get-insert_other (map.insert m k v) k w q n ∙ get-insert_other m k v q n ∙ sym (get-insert_other m k w q n)
])

-- the value that a name has already changes nothing
pub insert_got : {V : Type 0} (m : MapOf V) (k : List ℕ) (v : V) → map.get m k ≡ Some v → map.insert m k v ≡ m
insert_got m k v got = map.same_map nat_list_cmp_total exact_bytes _ _ (λ q. elim (same_name k q) [
  | inl e ↦ ap (map.get (map.insert m k v)) (sym e) ∙ get-insert_here m k v ∙ sym got ∙ ap (map.get m) e
  | inr n ↦ get-insert_other m k v q n
])

module _ {V : Type 0} (m : MapOf V) (k : List ℕ) where
  -- a name that is taken out is not there
  pub get-remove_here : map.get (map.remove m k) k ≡ None
  get-remove_here = map.get-remove nat_list_cmp_total m k k ∙ ap (λ b. cond b None (map.get m k)) (itself k)

  -- every other name stays
  pub get-remove_other : (q : List ℕ) → (k ≡ q → ⊥) → map.get (map.remove m k) q ≡ map.get m q
  get-remove_other q n = map.get-remove nat_list_cmp_total m k q ∙ ap (λ b. cond b None (map.get m q)) (apart q k (λ e. n (sym e)))

  -- what is there afterwards was there, at another name
  pub left_by : (q : List ℕ) (w : V) → map.get (map.remove m k) q ≡ Some w → (k ≡ q → ⊥) × (map.get m q ≡ Some w)
  left_by q w is = elim (same_name k q) [
    | inl e ↦ absurd (some_none (sym is ∙ ap (map.get (map.remove m k)) (sym e) ∙ get-remove_here))
    | inr n ↦ (n, sym (get-remove_other q n) ∙ is)
  ]
    where
      some_none : {A : Type 0} {x : A} → Some x ≡ None → ⊥
      some_none e = false≢true (sym (ap is_some e))

  -- to take out what is not there changes nothing
  pub remove_absent : map.get m k ≡ None → map.remove m k ≡ m
  remove_absent none = map.same_map nat_list_cmp_total exact_bytes _ _ (λ q. elim (same_name k q) [
    | inl e ↦ ap (map.get (map.remove m k)) (sym e) ∙ get-remove_here ∙ sym none ∙ ap (map.get m) e
    | inr n ↦ get-remove_other q n
  ])

-- to take a name out after its value is set is to take it out
pub remove_inserted : {V : Type 0} (m : MapOf V) (k : List ℕ) (v : V) → map.remove (map.insert m k v) k ≡ map.remove m k
remove_inserted m k v = map.same_map nat_list_cmp_total exact_bytes _ _ (λ q. elim (same_name k q) [
  | inl e ↦ ap (map.get (map.remove (map.insert m k v) k)) (sym e) ∙ get-remove_here (map.insert m k v) k ∙ sym (get-remove_here m k) ∙ ap (map.get (map.remove m k)) e
  | inr n ↦ get-remove_other (map.insert m k v) k q n ∙ get-insert_other m k v q n ∙ sym (get-remove_other m k q n)
])

-- to set the value of a name after the name is taken out is to set it
pub insert_removed : {V : Type 0} (m : MapOf V) (k : List ℕ) (v : V) → map.insert (map.remove m k) k v ≡ map.insert m k v
insert_removed m k v = map.same_map nat_list_cmp_total exact_bytes _ _ (λ q. elim (same_name k q) [
  | inl e ↦ ap (map.get (map.insert (map.remove m k) k v)) (sym e) ∙ get-insert_here (map.remove m k) k v ∙ sym (get-insert_here m k v) ∙ ap (map.get (map.insert m k v)) e
  | inr n ↦ get-insert_other (map.remove m k) k v q n ∙ get-remove_other m k q n ∙ sym (get-insert_other m k v q n)
])
