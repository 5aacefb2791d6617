-- What the tests decide: each is true exactly where the definition holds.
use Rattle.std.proofs.Common.{arith, refl, sym, ap, subst, ◌∙◌, ◌≡◌, ◌<◌, ◌≤◌, ℕ, zero, suc, Bool, true, false, cond, List, [], ◌∷◌, length, count_by, find, Option, Some, None, MatchOption, option_map, IsTrue, ◌↔◌, inl, inr}
use Rattle.std.specs.Prelude.{◌⊎◌}
use Rattle.std.specs.List.{AllByRecursion}
use Rattle.std.proofs.lemmas.Bool.{false≢true, false_from_ne_true, cond-true, cond-false}
use Rattle.std.proofs.lemmas.List.Sums.{sum_by-cons, count_by-le-length}
use Rattle.mu_graph.specs.Circles.{OnCircle, IsFirstOf, NoneOf}
use Rattle.mu_graph.specs.Decisions.{derivable, is_derivable, arrival, arrivals, leads_to, on_circle}
use Rattle.mu_graph.specs.Derivations.{Stands, AllStand, StandsInSome, MayFollow, MayStart, is_ready, IsReached}
use Rattle.mu_graph.specs.KeySets.{IsBlank}
use Rattle.mu_graph.specs.Walks.{Steps, LeadsTo, IsLedTo}
use Rattle.mu_graph.proofs.PathLemmas.{edge_then_path}
use Rattle.mu_graph.proofs.DerivationLemmas.{stands_one, stands_map, stands_from, all_at, all_from, all_stand, ready_some, some_ready, stands_in_some_by, reached_by, reached_in}
use Rattle.mu_graph.proofs.WalkLemmas.{led_next}

-- ---- counts of what passes a test
cond_grows : (a b : Bool) → (a ≡ true → b ≡ true) → (b ≡ true → a ≡ true) ⊎ (cond a 1 0 < cond b 1 0)
cond_grows true b f = inl (λ _. refl)
cond_grows false true f = inr (omega arith)
cond_grows false false f = inl (λ e. e)

cond_le : (a b : Bool) → (a ≡ true → b ≡ true) → cond a 1 0 ≤ cond b 1 0
cond_le true true f = omega arith
cond_le true false f = absurd (false≢true (f refl))
cond_le false true f = omega arith
cond_le false false f = omega arith

module _ {N : Type 0} where
  module _ (p q : N → Bool) (wider : (n : N) → p n ≡ true → q n ≡ true) where
    count_le : (ns : List N) → count_by p ns ≤ count_by q ns
    count_le [] = omega arith
    count_le (n ∷ ns) =
        omega (arith, sum_by-cons (λ k. cond (p k) 1 0) n ns, sum_by-cons (λ k. cond (q k) 1 0) n ns, cond_le (p n) (q n) (wider n), count_le ns)

    -- of two tests, the wider one passes no other member of a list, or more of them
    count_grows : (ns : List N) → ((n : N) → Stands n ns → q n ≡ true → p n ≡ true) ⊎ (count_by p ns < count_by q ns)
    count_grows [] = inl (λ n s. absurd s)
    count_grows (n ∷ ns) =
        let here = sum_by-cons (λ k. cond (p k) 1 0) n ns in
        let there = sum_by-cons (λ k. cond (q k) 1 0) n ns in
        elim (cond_grows (p n) (q n) (wider n)) [
          | inr less ↦ inr (omega (arith, here, there, less, count_le ns))
          | inl same ↦ elim (count_grows ns) [
            | inl all ↦ inl (λ k s h. elim s [ inl e ↦ subst (λ j. p j ≡ true) e (same (subst (λ j. q j ≡ true) (sym e) h)) | inr t ↦ all k t h ])
            | inr less ↦ inr (omega (arith, here, there, less, cond_le (p n) (q n) (wider n)))
          ]
        ]

  -- ---- derivations by ways alone
  module _ (ways : N → List (List N)) where
    -- from no key at the start what is reached is what is derivable
    pub reached_from_none : (start : N → Bool) → IsBlank start → (n : N) → IsReached start ways n ↔ StandsInSome (MayFollow ways) n
    reached_from_none start blank n = (
      stands_in_some_by (MayStart start ways) (MayFollow ways) (λ k before may. elim may [ inl e ↦ absurd (false≢true (sym (blank k) ∙ e)) | inr w ↦ w ]) n,
      stands_in_some_by (MayFollow ways) (MayStart start ways) (λ k before may. inr may) n,
    )

    as_reached : (n : N) → StandsInSome (MayFollow ways) n → IsReached (λ _. false) ways n
    as_reached n s = (reached_from_none (λ _. false) (λ _. refl) n).1 s

    from_reached : (n : N) → IsReached (λ _. false) ways n → StandsInSome (MayFollow ways) n
    from_reached n r = (reached_from_none (λ _. false) (λ _. refl) n).0 r

    -- a key with a way whose premises are derivable is derivable
    pub derived_by : (n : N) (way : List N) → Stands way (ways n) → ((m : N) → Stands m way → StandsInSome (MayFollow ways) m) → StandsInSome (MayFollow ways) n
    derived_by n way s f = from_reached n (reached_by (λ _. false) ways n way s (λ m t. as_reached m (f m t)))

    -- what holds of each key with a way of whose premises it holds, holds of all that is derivable
    pub derived_least : (P : N → Type 0) → ((n : N) (way : List N) → Stands way (ways n) → AllByRecursion P way → P n) → (n : N) → StandsInSome (MayFollow ways) n → P n
    derived_least P closed n s = reached_in (λ _. false) ways P (λ k e. absurd (false≢true e)) (λ k way t f. closed k way t (all_from P way f)) n (as_reached n s)

    -- ---- heights
    ready_wider : (p q : N → Bool) → ((n : N) → p n ≡ true → q n ≡ true) → (n : N) → is_ready p (ways n) ≡ true → is_ready q (ways n) ≡ true
    ready_wider p q wider n h = let way = ready_some p (ways n) h in some_ready q (ways n) way.0 way.1 (λ k s. wider k (way.2 k s))

    higher : (k : ℕ) (n : N) → derivable ways k n ≡ true → derivable ways (suc k) n ≡ true
    higher zero n h = absurd (false≢true h)
    higher (suc k) n h = ready_wider (derivable ways k) (derivable ways (suc k)) (higher k) n h

    height_sound : (k : ℕ) (n : N) → derivable ways k n ≡ true → StandsInSome (MayFollow ways) n
    height_sound zero n h = absurd (false≢true h)
    height_sound (suc k) n h = let way = ready_some (derivable ways k) (ways n) h in derived_by n way.0 way.1 (λ m s. height_sound k m (way.2 m s))

    -- no key has a derivation one higher only
    abbrev IsStable : ℕ → Type 0
    IsStable k = (n : N) → derivable ways (suc k) n ≡ true → derivable ways k n ≡ true

    stable_next : (k : ℕ) → IsStable k → IsStable (suc k)
    stable_next k stable n h = ready_wider (derivable ways (suc k)) (derivable ways k) stable n h

    stable_complete : (k : ℕ) → IsStable k → (n : N) → StandsInSome (MayFollow ways) n → derivable ways k n ≡ true
    stable_complete k stable n s = derived_least (λ m. derivable ways k m ≡ true) (λ m way t all. stable m (some_ready (derivable ways k) (ways m) way t (λ j u. all_at (λ i. derivable ways k i ≡ true) way j all u))) n s

    module _ (keys : List N) (covers : (n : N) (way : List N) → Stands way (ways n) → Stands n keys) where
      stable_or_more : (k : ℕ) → IsStable k ⊎ (count_by (derivable ways k) keys < count_by (derivable ways (suc k)) keys)
      stable_or_more k = elim (count_grows (derivable ways k) (derivable ways (suc k)) (higher k) keys) [
        | inl all ↦ inl (λ n h. let way = ready_some (derivable ways k) (ways n) h in all n (covers n way.0 way.1) h)
        | inr more ↦ inr more
      ]

      stable_or_many : (k : ℕ) → IsStable k ⊎ (k < count_by (derivable ways (suc k)) keys)
      stable_or_many zero = elim (stable_or_more zero) [ inl s ↦ inl s | inr more ↦ inr (omega arith) ]
      stable_or_many (suc k) = elim (stable_or_many k) [
        | inl s ↦ inl (stable_next k s)
        | inr many ↦ elim (stable_or_more (suc k)) [ inl s ↦ inl s | inr more ↦ inr (omega arith) ]
      ]

      -- there are no more heights than keys
      stable_by_keys : IsStable (length keys)
      stable_by_keys = elim (stable_or_many (length keys)) [ inl s ↦ s | inr many ↦ absurd (omega (arith, count_by-le-length (derivable ways (suc (length keys))) keys)) ]

      -- the law: the test tells what is derivable
      pub derivable_decides : (n : N) → IsTrue (is_derivable ways keys n) ↔ StandsInSome (MayFollow ways) n
      derivable_decides n = (height_sound (length keys) n, stable_complete (length keys) stable_by_keys n)

  -- derivability looks only at what a key leads to: other ways that are the same at all that n leads to, and have no way of their own, derive n just as well
  pub derived_locally : (ways other : N → List (List N)) (leads : N → List N) (n : N)
      → ((k : N) (way : List N) → Stands way (ways k) → AllStand way (leads k))
      → ((k : N) → IsLedTo leads (n ∷ []) k → other k ≡ ways k)
      → ((k : N) (way : List N) → Stands way (other k) → Stands way (ways k))
      → StandsInSome (MayFollow ways) n ↔ StandsInSome (MayFollow other) n
  derived_locally ways other leads n within same fewer = (
    λ s. derived_least ways (λ k. IsLedTo leads (n ∷ []) k → StandsInSome (MayFollow other) k)
        (λ k way t all led. derived_by other k way (subst (λ ws. Stands way ws) (sym (same k led)) t)
        (λ m u. all_at (λ j. IsLedTo leads (n ∷ []) j → StandsInSome (MayFollow other) j) way m all u (led_next leads (n ∷ []) k m led (all_stand way (leads k) m (within k way t) u))))
        n s (inl (inl refl)),
    λ s. stands_in_some_by (MayFollow other) (MayFollow ways) (λ k before may. (may.0, fewer k may.0 may.1, may.2)) n s,
  )

  -- ---- paths
  module _ (leads : N → List N) where
    -- the last edge of a path
    pub last_edge : (k : ℕ) (a b : N) → Steps leads k a b → (c : N) × Stands b (leads c)
    last_edge zero a b s = (a, s)
    last_edge (suc k) a b s = last_edge k s.0 b s.2

    first_edge : (k : ℕ) (a b : N) → Steps leads k a b → (c : N) × Stands c (leads a)
    first_edge zero a b s = (b, s)
    first_edge (suc k) a b s = (s.0, s.1)

    -- some edge begins at a key that is on a circle
    pub circle_leaves : (n : N) → OnCircle leads n → (m : N) × Stands m (leads n)
    circle_leaves n o = first_edge o.0 n n o.1

    module _ (same : N → N → Bool) (exact : (a b : N) → IsTrue (same a b) ↔ (a ≡ b)) where
      arrive_steps : (to : N) (k : ℕ) (a : N) → Steps leads k a to → StandsInSome (MayFollow (arrivals same leads to)) a
      arrive_steps to zero a s =
          derived_by (arrivals same leads to) a (arrival same to to) (stands_map (arrival same to) to (leads a) s)
          (λ k t. absurd (subst (Stands k) (cond-true (same to to) [] (to ∷ []) ((exact to to).1 refl)) t))
      arrive_steps to (suc k) a s =
          derived_by (arrivals same leads to) a (arrival same to s.0) (stands_map (arrival same to) s.0 (leads a) s.1)
          (λ j t. subst (StandsInSome (MayFollow (arrivals same leads to))) (sole j t) (arrive_steps to k s.0 s.2))
        where
          sole : (j : N) → Stands j (arrival same to s.0) → s.0 ≡ j
          sole j t = elim (same s.0 to) as (λ b. Stands j (cond b [] (s.0 ∷ [])) → s.0 ≡ j) [ true ↦ λ u. absurd u | false ↦ λ u. stands_one j s.0 u ] t

      -- an edge of a key from whose end, if it is not `to` itself, a path goes to `to`
      by_arrival : (to a m : N) → Stands m (leads a) → AllByRecursion (λ k. LeadsTo leads k to) (arrival same to m) → LeadsTo leads a to
      by_arrival to a m s all =
          elim (same m to) as (λ b. same m to ≡ b → AllByRecursion (λ k. LeadsTo leads k to) (cond b [] (m ∷ [])) → LeadsTo leads a to) [
            | true ↦ λ e _. (0, subst (λ k. Stands k (leads a)) ((exact m to).0 e) s)
            | false ↦ λ _ rest. edge_then_path leads a m to s rest.0
          ] refl all

      departs : (to a : N) → StandsInSome (MayFollow (arrivals same leads to)) a → LeadsTo leads a to
      departs to a s = derived_least (arrivals same leads to) (λ k. LeadsTo leads k to)
          (λ k way t all. let m = stands_from (arrival same to) way (leads k) t in by_arrival to k m.0 m.1 (subst (AllByRecursion (λ j. LeadsTo leads j to)) (sym m.2) all)) a s

      module _ (keys : List N) (covers : (n m : N) → Stands m (leads n) → Stands n keys) where
        -- the laws: the tests tell what leads where, and what leads back to itself
        pub leads_to_decides : (a b : N) → IsTrue (leads_to same leads keys a b) ↔ LeadsTo leads a b
        leads_to_decides a b =
            let told = derivable_decides (arrivals same leads b) keys (λ n way s. let m = stands_from (arrival same b) way (leads n) s in covers n m.0 m.1) a in
            (λ h. departs b a (told.0 h), λ path. told.1 (arrive_steps b path.0 a path.1))

        pub on_circle_decides : (n : N) → IsTrue (on_circle same leads keys n) ↔ OnCircle leads n
        on_circle_decides n = leads_to_decides n n

  -- ---- the first
  module _ (d : N → Bool) (P : N → Type 0) (decides : (n : N) → IsTrue (d n) ↔ P n) where
    pub find_first : (listed : List N) (n : N) → IsFirstOf P listed n → find d listed ≡ Some n
    find_first [] n first = absurd first
    find_first (m ∷ ms) n (inl here) = cond-true (d m) (Some m) (find d ms) ((decides m).1 here.1) ∙ ap Some here.0
    find_first (m ∷ ms) n (inr later) = cond-false (d m) (Some m) (find d ms) (false_from_ne_true (d m) (λ h. later.0 ((decides m).0 h))) ∙ find_first ms n later.1

    pub find_none : (listed : List N) → NoneOf P listed → find d listed ≡ None
    find_none [] none = refl
    find_none (m ∷ ms) none = cond-false (d m) (Some m) (find d ms) (false_from_ne_true (d m) (λ h. none m (inl refl) ((decides m).0 h))) ∙ find_none ms (λ n s. none n (inr s))

    -- what a search finds is the first
    pub found_first : (listed : List N) (n : N) → find d listed ≡ Some n → IsFirstOf P listed n
    found_first [] n is = absurd (cc)
    found_first (m ∷ ms) n is = go (found_first ms n) (d m) refl is
      where
        go : (find d ms ≡ Some n → IsFirstOf P ms n) → (passes : Bool) → d m ≡ passes → cond passes (Some m) (find d ms) ≡ Some n → ((m ≡ n) × P m) ⊎ ((P m → ⊥) × IsFirstOf P ms n)
        go rest true passes found = inl (cc (found), (decides m).0 passes)
        go rest false fails found = inr (λ p. false≢true (sym fails ∙ (decides m).1 p), rest found)

    -- and where it finds none, there is none
    pub found_none : (listed : List N) → find d listed ≡ None → NoneOf P listed
    found_none [] none n s p = s
    found_none (m ∷ ms) none n s p = go (found_none ms) (d m) refl none
      where
        go : (find d ms ≡ None → NoneOf P ms) → (passes : Bool) → d m ≡ passes → cond passes (Some m) (find d ms) ≡ None → ⊥
        go rest true passes found = absurd (cc)
        go rest false fails found = elim s [ inl e ↦ false≢true (sym fails ∙ (decides m).1 (subst P (sym e) p)) | inr t ↦ rest found n t p ]

    -- what is told as the first is what the test finds; `at` is the key behind what is told, such as a reference
    pub first_found_at : {M : Type 0} (at : M → N) (listed : List N) (first : Option M) → MatchOption first (NoneOf P listed) (λ m. IsFirstOf P listed (at m)) → find d listed ≡ option_map at first
    first_found_at at listed None none = find_none listed none
    first_found_at at listed (Some m) is_first = find_first listed (at m) is_first

    pub first_found : (listed : List N) (first : Option N) → MatchOption first (NoneOf P listed) (λ n. IsFirstOf P listed n) → find d listed ≡ first
    first_found listed None none = find_none listed none
    first_found listed (Some n) is_first = find_first listed n is_first
