-- Membership in lists, and derivations put together.
use Rattle.std.proofs.Common.{refl, sym, ap, subst, ◌∙◌, ◌≡◌, cond, Bool, true, false, List, [], ◌∷◌, ◌++◌, inl, inr}
use Rattle.std.specs.Prelude.{◌⊎◌, ◌||◌, map}
use Rattle.std.specs.List.{AllByRecursion, filter, flat_map, list_any, list_all}
use Rattle.std.proofs.lemmas.Bool.{false≢true, cond-true, and_parts, and_from, or_cases}
pub use Rattle.mu_graph.specs.Members.{stands_front, stands_back}
use Rattle.mu_graph.specs.Derivations.{Stands, AllStand, IsDerivation, StandsInSome, MayStart, is_ready, IsReached}

or_left : (a b : Bool) → a ≡ true → (a || b) ≡ true
or_left a b e = ap (λ c. c || b) e

or_right : (a b : Bool) → b ≡ true → (a || b) ≡ true
or_right true b e = refl
or_right false b e = e

module _ {N : Type 0} where
  -- ---- membership
  pub stands_either : (n : N) (xs ys : List N) → Stands n (xs ++ ys) → Stands n xs ⊎ Stands n ys
  stands_either n [] ys h = inr h
  stands_either n (x ∷ xs) ys (inl e) = inl (inl e)
  stands_either n (x ∷ xs) ys (inr s) = elim (stands_either n xs ys s) [ inl t ↦ inl (inr t) | inr t ↦ inr t ]

  pub stands_one : (n m : N) → Stands n (m ∷ []) → m ≡ n
  stands_one n m (inl e) = e
  stands_one n m (inr s) = absurd s

  pub stands_last : (n : N) (xs : List N) → Stands n (xs ++ n ∷ [])
  stands_last n xs = stands_back n xs (n ∷ []) (inl refl)

  pub stands_map : {M : Type 0} (f : N → M) (n : N) (ns : List N) → Stands n ns → Stands (f n) (map f ns)
  stands_map f n [] s = absurd s
  stands_map f n (k ∷ ns) (inl e) = inl (ap f e)
  stands_map f n (k ∷ ns) (inr s) = inr (stands_map f n ns s)

  pub stands_from : {M : Type 0} (f : N → M) (m : M) (ns : List N) → Stands m (map f ns) → (n : N) × Stands n ns × (f n ≡ m)
  stands_from f m [] s = absurd s
  stands_from f m (k ∷ ns) (inl e) = (k, inl refl, e)
  stands_from f m (k ∷ ns) (inr s) = let n = stands_from f m ns s in (n.0, inr n.1, n.2)

  pub stands_filter : (p : N → Bool) (n : N) (ns : List N) → Stands n ns → p n ≡ true → Stands n (filter p ns)
  stands_filter p n [] s h = s
  stands_filter p n (k ∷ ns) (inl e) h = subst (Stands n) (sym (cond-true (p k) (k ∷ filter p ns) (filter p ns) (ap p e ∙ h))) (inl e)
  stands_filter p n (k ∷ ns) (inr s) h =
      elim (p k) as (λ b. Stands n (cond b (k ∷ filter p ns) (filter p ns))) [ true ↦ inr (stands_filter p n ns s h) | false ↦ stands_filter p n ns s h ]

  pub filter_stands : (p : N → Bool) (n : N) (ns : List N) → Stands n (filter p ns) → Stands n ns × (p n ≡ true)
  filter_stands p n [] s = absurd s
  filter_stands p n (k ∷ ns) s =
      let later : Stands n (filter p ns) → Stands n (k ∷ ns) × (p n ≡ true) = λ t. let kept = filter_stands p n ns t in (inr kept.0, kept.1) in
      elim (p k) as (λ b. p k ≡ b → Stands n (cond b (k ∷ filter p ns) (filter p ns)) → Stands n (k ∷ ns) × (p n ≡ true)) [
        | true ↦ λ h t. elim t [ inl e ↦ (inl e, ap p (sym e) ∙ h) | inr u ↦ later u ]
        | false ↦ λ _ t. later t
      ] refl s

  -- some member passes a test where the test of any passes, and only there
  pub any_some : (p : N → Bool) (ns : List N) → list_any p ns ≡ true → (n : N) × Stands n ns × (p n ≡ true)
  any_some p [] h = absurd (false≢true h)
  any_some p (n ∷ ns) h = elim (or_cases _ _ h) [ inl e ↦ (n, inl refl, e) | inr r ↦ let k = any_some p ns r in (k.0, inr k.1, k.2) ]

  pub some_any : (p : N → Bool) (ns : List N) (n : N) → Stands n ns → p n ≡ true → list_any p ns ≡ true
  some_any p [] n s h = absurd s
  some_any p (k ∷ ns) n (inl e) h = or_left _ _ (ap p e ∙ h)
  some_any p (k ∷ ns) n (inr s) h = or_right _ _ (some_any p ns n s h)

  pub all_at : (P : N → Type 0) (ns : List N) (n : N) → AllByRecursion P ns → Stands n ns → P n
  all_at P [] n h s = absurd s
  all_at P (m ∷ ms) n h (inl e) = subst P e h.0
  all_at P (m ∷ ms) n h (inr s) = all_at P ms n h.1 s

  pub all_from : (P : N → Type 0) (ns : List N) → ((n : N) → Stands n ns → P n) → AllByRecursion P ns
  all_from P [] f = tt
  all_from P (n ∷ ns) f = (f n (inl refl), all_from P ns (λ k s. f k (inr s)))

  pub all_stand : (ns before : List N) (n : N) → AllStand ns before → Stands n ns → Stands n before
  all_stand ns before n h s = all_at (λ k. Stands k before) ns n h s

  pub all_front : (ns xs ys : List N) → AllStand ns xs → AllStand ns (xs ++ ys)
  all_front [] xs ys h = tt
  all_front (n ∷ ns) xs ys h = (stands_front n xs ys h.0, all_front ns xs ys h.1)

  pub all_back : (ns xs ys : List N) → AllStand ns ys → AllStand ns (xs ++ ys)
  all_back [] xs ys h = tt
  all_back (n ∷ ns) xs ys h = (stands_back n xs ys h.0, all_back ns xs ys h.1)

  -- ---- tests
  all_marked : (m : N → Bool) (way : List N) → list_all m way ≡ true → (n : N) → Stands n way → m n ≡ true
  all_marked m [] h n s = absurd s
  all_marked m (k ∷ way) h n (inl e) = subst (λ j. m j ≡ true) e (and_parts _ _ h).0
  all_marked m (k ∷ way) h n (inr s) = all_marked m way (and_parts _ _ h).1 n s

  marked_all : (m : N → Bool) (way : List N) → ((n : N) → Stands n way → m n ≡ true) → list_all m way ≡ true
  marked_all m [] f = refl
  marked_all m (n ∷ way) f = and_from _ _ (f n (inl refl)) (marked_all m way (λ k s. f k (inr s)))

  -- a key is ready where all premises of one of its ways are marked, and only there
  pub ready_some : (m : N → Bool) (ways : List (List N)) → is_ready m ways ≡ true → (way : List N) × Stands way ways × ((n : N) → Stands n way → m n ≡ true)
  ready_some m [] h = absurd (false≢true h)
  ready_some m (way ∷ ways) h = elim (or_cases _ _ h) [
    | inl e ↦ (way, inl refl, all_marked m way e)
    | inr r ↦ let p = ready_some m ways r in (p.0, inr p.1, p.2)
  ]

  pub some_ready : (m : N → Bool) (ways : List (List N)) (way : List N) → Stands way ways → ((n : N) → Stands n way → m n ≡ true) → is_ready m ways ≡ true
  some_ready m [] way s f = absurd s
  some_ready m (w ∷ ways) way (inl e) f = or_left _ _ (marked_all m w (λ n t. f n (subst (λ v. Stands n v) e t)))
  some_ready m (w ∷ ways) way (inr s) f = or_right _ _ (some_ready m ways way s f)

  -- ---- derivations
  -- where a member may follow by one condition whenever it may by another, derivations by the second are so by the first
  pub derivation_by : (may other : N → List N → Type 0) → ((n : N) (before : List N) → may n before → other n before) → (d : List N) → IsDerivation may d → IsDerivation other d
  derivation_by may other f [] h = tt
  derivation_by may other f (n ∷ d) h = (f n d h.0, derivation_by may other f d h.1)

  pub stands_in_some_by : (may other : N → List N → Type 0) → ((n : N) (before : List N) → may n before → other n before) → (n : N) → StandsInSome may n → StandsInSome other n
  stands_in_some_by may other f n s = (s.0, derivation_by may other f s.0 s.1, s.2)

  module _ (start : N → Bool) (ways : N → List (List N)) where
    may_front : (n : N) (xs ys : List N) → MayStart start ways n xs → MayStart start ways n (xs ++ ys)
    may_front n xs ys (inl at) = inl at
    may_front n xs ys (inr may) = inr (may.0, may.1, all_front may.0 xs ys may.2)

    -- two derivations, one after the other, are one
    pub derivation_append : (xs ys : List N) → IsDerivation (MayStart start ways) xs → IsDerivation (MayStart start ways) ys → IsDerivation (MayStart start ways) (xs ++ ys)
    derivation_append [] ys h k = k
    derivation_append (n ∷ xs) ys h k = (may_front n xs ys h.0, derivation_append xs ys h.1 k)

    -- keys that are derivable one by one are so in one derivation
    pub derivation_of_all : (ns : List N) → ((n : N) → Stands n ns → IsReached start ways n) → (d : List N) × IsDerivation (MayStart start ways) d × AllStand ns d
    derivation_of_all [] f = ([], tt, tt)
    derivation_of_all (n ∷ ns) f =
        let r = f n (inl refl) in
        let rest = derivation_of_all ns (λ k s. f k (inr s)) in
        (r.0 ++ rest.0, derivation_append r.0 rest.0 r.1 rest.1, (stands_front n r.0 rest.0 r.2, all_back ns r.0 rest.0 rest.2))

    pub reached_start : (n : N) → start n ≡ true → IsReached start ways n
    reached_start n at = (n ∷ [], (inl at, tt), inl refl)

    pub reached_by : (n : N) (way : List N) → Stands way (ways n) → ((m : N) → Stands m way → IsReached start ways m) → IsReached start ways n
    reached_by n way s f = let d = derivation_of_all way f in (n ∷ d.0, (inr (way, s, d.2), d.1), inl refl)

    members_in : (P : N → Type 0) → ((n : N) → start n ≡ true → P n) → ((n : N) (way : List N) → Stands way (ways n) → ((m : N) → Stands m way → P m) → P n)
        → (d : List N) → IsDerivation (MayStart start ways) d → (n : N) → Stands n d → P n
    members_in P starts closed [] h n s = absurd s
    members_in P starts closed (k ∷ d) h n (inr s) = members_in P starts closed d h.1 n s
    members_in P starts closed (k ∷ d) (inl at, h) n (inl e) = subst P e (starts k at)
    members_in P starts closed (k ∷ d) (inr may, h) n (inl e) = subst P e (closed k may.0 may.1 (λ j t. members_in P starts closed d h j (all_stand may.0 d j may.2 t)))

    -- what holds at the start, and of each key with a way of whose premises it holds, holds of all that is derivable
    pub reached_in : (P : N → Type 0) → ((n : N) → start n ≡ true → P n) → ((n : N) (way : List N) → Stands way (ways n) → ((m : N) → Stands m way → P m) → P n) → (n : N) → IsReached start ways n → P n
    reached_in P starts closed n r = members_in P starts closed r.0 r.1 n r.2

-- what a member gives is among what all give
pub all_flat_map : {N M : Type 0} (f : N → List M) (n : N) (ns : List N) → Stands n ns → AllStand (f n) (flat_map f ns)
all_flat_map f n [] s = absurd s
all_flat_map f n (k ∷ ns) (inl e) = subst (λ j. AllStand (f j) (f k ++ flat_map f ns)) e (all_front (f k) (f k) (flat_map f ns) (all_from (λ m. Stands m (f k)) (f k) (λ m t. t)))
all_flat_map f n (k ∷ ns) (inr s) = all_back (f n) (f k) (flat_map f ns) (all_flat_map f n ns s)
