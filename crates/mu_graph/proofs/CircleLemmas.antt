-- Circles, and the keys that stand on them after a change of what one key leads to.
use Rattle.std.proofs.lemmas.Bool.{false≢true, or_cases}
use Rattle.std.proofs.lemmas.List.{take-append-drop}
use Rattle.std.proofs.Math.Seq.{drop-cons}
use Rattle.std.proofs.Common.{◌<◌, length, take, drop, get_or, sym, ap, subst, ◌∙◌, ◌≡◌, ℕ, zero, suc, Bool, true, false, List, [], ◌∷◌, ◌++◌, inl, inr}
use Rattle.std.specs.Prelude.{◌⊎◌, ◌||◌, ◌↔◌, IsTrue, not, refl}
use Rattle.std.specs.List.{list_any}
use Rattle.mu_graph.specs.Derivations.{Stands}
use Rattle.mu_graph.specs.Circles.{OnCircle, IsBetween, IsTurned, DiffersAt, GainsAt, IsAcyclic, CirclesPass, CirclesClose, Traced}
use Rattle.mu_graph.specs.KeySets.{Adds, IsBlank}
use Rattle.mu_graph.specs.Walks.{Steps, LeadsTo, Reaches, IsLedTo, AreInOrder}
use Rattle.mu_graph.proofs.DerivationLemmas.{stands_front, stands_back, stands_either, stands_one, any_some, some_any}
use Rattle.mu_graph.proofs.PathLemmas.{edge_then_path, path_then_edge, paths_joined}
use Rattle.mu_graph.proofs.WalkLemmas.{ordered_at}

or_first : (a b : Bool) → a ≡ true → (a || b) ≡ true
or_first a b e = ap (λ c. c || b) e

or_later : (a b : Bool) → b ≡ true → (a || b) ≡ true
or_later true b e = refl
or_later false b e = e

pub not_so : (b : Bool) → not b ≡ true → b ≡ false
not_so true e = sym e
not_so false e = refl

module _ {N : Type 0} where
  -- ---- what one key leads to is changed
  through : (old new : N → List N) (u : N) → DiffersAt old new u → (k : ℕ) (a b : N) → Steps new k a b → LeadsTo old a b ⊎ (((u ≡ a) ⊎ LeadsTo new a u) × LeadsTo new u b)
  through old new u same zero a b s = elim (same a) [
    | inl e ↦ inr (inl e, (0, subst (λ k. Stands b (new k)) (sym e) s))
    | inr e ↦ inl (0, subst (λ ns. Stands b ns) e s)
  ]
  through old new u same (suc k) a b s = elim (same a) [
    | inl e ↦ inr (inl e, (suc k, subst (λ j. Steps new (suc k) j b) (sym e) s))
    | inr e ↦ elim (through old new u same k s.0 b s.2) [
      | inl t ↦ inl (edge_then_path old a s.0 b (subst (λ ns. Stands s.0 ns) e s.1) t)
      | inr t ↦ inr (
        inr (elim t.0 [
          | inl here ↦ (0, subst (λ j. Stands j (new a)) (sym here) s.1)
          | inr far ↦ edge_then_path new a s.0 u s.1 far
        ]),
        t.1,
      )
    ]
  ]

  -- where no key was on a circle and u alone leads elsewhere now, what is on a circle now is so through u
  circle_through : (new old : N → List N) (u : N) → DiffersAt old new u → IsAcyclic old → CirclesPass new u
  circle_through new old u same none n o = elim (through old new u same o.0 n n o.1) [
    | inl t ↦ absurd (none n t)
    | inr t ↦ (
      elim t.0 [
        | inl e ↦ subst (λ k. OnCircle new k) (sym e) o
        | inr far ↦ paths_joined new u n u t.1 far
      ],
      elim t.0 [ inl e ↦ inl (sym e) | inr far ↦ inr far ],
      t.1,
    )
  ]

  -- ---- circles that are closed by what u leads to now
  -- a path to u needs no edge of u
  same_to : (leads other : N → List N) (u : N) → DiffersAt leads other u → (k : ℕ) (a : N) → Steps other k a u → Reaches leads a u
  same_to leads other u same zero a s = elim (same a) [ inl e ↦ inl (sym e) | inr e ↦ inr (0, subst (Stands u) e s) ]
  same_to leads other u same (suc k) a (c, s, t) = elim (same a) [
    | inl e ↦ inl (sym e)
    | inr e ↦ inr (elim (same_to leads other u same k c t) [
      | inl here ↦ (0, subst (λ j. Stands j (leads a)) here (subst (Stands c) e s))
      | inr far ↦ edge_then_path leads a c u (subst (Stands c) e s) far
    ])
  ]

  -- a path that takes an edge of u arrives from u
  same_from : (leads other : N → List N) (u : N) → DiffersAt leads other u → (k : ℕ) (a b : N) → Steps leads k a b → LeadsTo other a b ⊎ LeadsTo leads u b
  same_from leads other u same zero a b s = elim (same a) [ inl e ↦ inr (0, subst (λ j. Stands b (leads j)) (sym e) s) | inr e ↦ inl (0, subst (Stands b) (sym e) s) ]
  same_from leads other u same (suc k) a b (c, s, t) = elim (same_from leads other u same k c b t) [
    | inr far ↦ inr far
    | inl far ↦ elim (same a) [
      | inl e ↦ inr (edge_then_path leads u c b (subst (λ j. Stands c (leads j)) (sym e) s) (k, t))
      | inr e ↦ inl (edge_then_path other a c b (subst (Stands c) (sym e) s) far)
    ]
  ]

  reverse : (old new : N → List N) (u : N) → DiffersAt old new u → DiffersAt new old u
  reverse old new u same n = elim (same n) [ inl e ↦ inl e | inr e ↦ inr (sym e) ]

  module _ (old new : N → List N) (u : N) (gained : List N) (acyclic : IsAcyclic old) (gains : GainsAt old new u gained) where
    -- a path in the new graph is one in the old graph, or begins anew at what u gained
    gained_path : (k : ℕ) (a b : N) → Steps new k a b → LeadsTo old a b ⊎ IsLedTo old gained b
    gained_path zero a b s = elim (gains.others a) [
      | inl e ↦ elim (gains.only b (subst (λ j. Stands b (new j)) (sym e) s)) [ inl g ↦ inr (inl g) | inr o ↦ inl (0, subst (λ j. Stands b (old j)) e o) ]
      | inr e ↦ inl (0, subst (Stands b) e s)
    ]
    gained_path (suc k) a b (c, s, t) = elim (gained_path k c b t) [
      | inr led ↦ inr led
      | inl far ↦ elim (gains.others a) [
        | inl e ↦ elim (gains.only c (subst (λ j. Stands c (new j)) (sym e) s)) [
          | inl g ↦ inr (inr (c, g, far))
          | inr o ↦ inl (edge_then_path old a c b (subst (λ j. Stands c (old j)) e o) far)
        ]
        | inr e ↦ inl (edge_then_path old a c b (subst (Stands c) e s) far)
      ]
    ]

    no_return : (n : N) → Reaches old n u → LeadsTo old u n → ⊥
    no_return n (inl e) far = acyclic u (subst (LeadsTo old u) e far)
    no_return n (inr back) far = acyclic u (paths_joined old u n u far back)

    -- an old path to a key from which u is reached is a new one
    path_stays : (a n : N) → Reaches old n u → LeadsTo old a n → LeadsTo new a n
    path_stays a n back far = elim (same_from old new u gains.others far.0 a n far.1) [ inl same ↦ same | inr from ↦ absurd (no_return n back from) ]

    returns : (n : N) → Reaches old n u → LeadsTo new u n → OnCircle new n
    returns n (inl e) far = subst (λ j. LeadsTo new j n) (sym e) far
    returns n (inr back) far = elim (same_to new old u (reverse old new u gains.others) back.0 n back.1) [
      | inl e ↦ subst (λ j. LeadsTo new j n) (sym e) far
      | inr there ↦ paths_joined new n u n there far
    ]

    closed : (n : N) → IsBetween old gained u n → OnCircle new n
    closed n (inl g, back) = returns n back (0, gains.there n g)
    closed n (inr (a, g, far), back) = returns n back (edge_then_path new u a n (gains.there a g) (path_stays a n back far))

    found_between : (n : N) → OnCircle new n → IsBetween old gained u n
    found_between n o =
        let through = circle_through new old u gains.others acyclic n o in (
          elim (gained_path o.0 n n o.1) [ inl far ↦ absurd (acyclic n far) | inr led ↦ led ],
          elim through.1 [ inl e ↦ inl e | inr far ↦ same_to old new u gains.others far.0 n far.1 ],
        )

  -- the law
  pub circles_close : (old : N → List N) → CirclesClose old
  unfolding CirclesClose
  circles_close old new u gained acyclic gains = (circle_through new old u gains.others acyclic, λ n. (found_between old new u gained acyclic gains n, closed old new u gained acyclic gains n))

  -- ---- keys that lead to another one
  module _ (leads : N → List N) (to : N) where
    pub none_traced : (none marked : N → Bool) → IsBlank none → Adds none marked to → Traced leads to marked [] []
    none_traced none marked blank added = record {
      target = added.1 to (inl refl);
      sound = λ n m. elim (added.0 n m) [ inl e ↦ inl (sym e) | inr o ↦ absurd (false≢true (sym (blank n) ∙ o)) ];
      complete = λ n s. absurd s;
      among = λ n s. absurd s;
    }

    module _ (marked : N → Bool) (done found : List N) (n : N) (t : Traced leads to marked done found) where
      -- one more key leads to it
      pub one_traced : (next : N → Bool) → Adds marked next n → (marked n || list_any marked (leads n)) ≡ true → Traced leads to next (done ++ n ∷ []) (found ++ n ∷ [])
      one_traced next added leading = record {
        target = added.1 to (inr t.target);
        sound = λ k m. elim (added.0 k m) [
          | inr o ↦ t.sound k o
          | inl e ↦ subst (λ j. Reaches leads j to) e (elim (or_cases _ _ leading) [
            | inl here ↦ t.sound n here
            | inr some ↦ let next = any_some marked (leads n) some in inr (elim (t.sound next.0 next.2) [
              | inl end ↦ (0, subst (λ j. Stands j (leads n)) end next.1)
              | inr far ↦ edge_then_path leads n next.0 to next.1 far
            ])
          ])
        ];
        complete = λ k s r. elim (stands_either k done (n ∷ []) s) [
          | inl u ↦ stands_front k found (n ∷ []) (t.complete k u r)
          | inr u ↦ stands_back k found (n ∷ []) u
        ];
        among = λ k s. elim (stands_either k found (n ∷ []) s) [
          | inl u ↦ (stands_front k done (n ∷ []) (t.among k u).0, added.1 k (inr (t.among k u).1))
          | inr u ↦ (stands_back k done (n ∷ []) u, added.1 k (inl (stands_one k n u)))
        ];
      }

      -- one more key doesn't, where all that it leads to is done
      pub one_passed : ((m : N) → Stands m (leads n) → Stands m done) → (marked n || list_any marked (leads n)) ≡ false → Traced leads to marked (done ++ n ∷ []) found
      one_passed behind leadless = record {
        target = t.target;
        sound = t.sound;
        complete = λ k s r. elim (stands_either k done (n ∷ []) s) [
          | inl u ↦ t.complete k u r
          | inr u ↦ absurd (leads_not (subst (λ j. Reaches leads j to) (sym (stands_one k n u)) r))
        ];
        among = λ k s. (stands_front k done (n ∷ []) (t.among k s).0, (t.among k s).1);
      }
        where
          none_marked : (m : N) → Stands m (leads n) → Reaches leads m to → ⊥
          none_marked m s r = false≢true (sym leadless ∙ or_later (marked n) (list_any marked (leads n)) (some_any marked (leads n) m s (t.among m (t.complete m (behind m s) r)).1))

          leads_not : Reaches leads n to → ⊥
          leads_not (inl e) = false≢true (sym leadless ∙ or_first (marked n) (list_any marked (leads n)) (subst (λ j. marked j ≡ true) (sym e) t.target))
          leads_not (inr (zero, s)) = none_marked to s (inl refl)
          leads_not (inr (suc k, (c, s, far))) = none_marked c s (inr (k, far))

  -- where all keys are done, those that lead to it are found
  pub all_traced : (leads : N → List N) (to : N) (marked : N → Bool) (listed found : List N) → Traced leads to marked listed found → (n : N) → Stands n found ↔ (Stands n listed × Reaches leads n to)
  all_traced leads to marked listed found t n = (λ s. let among = t.among n s in (among.0, t.sound n among.1), λ both. t.complete n both.0 both.1)

  split_at : (xs : List N) (i : ℕ) (x : N) → i < length xs → x ≡ get_or xs i x → take i xs ++ (x ∷ drop (suc i) xs) ≡ xs
  split_at xs i x l e = ap (λ y. take i xs ++ (y ∷ drop (suc i) xs)) e ∙ ap (λ t. take i xs ++ t) (sym (drop-cons xs i x l)) ∙ take-append-drop i xs

  -- in an acyclic graph all that a key leads to stands before it
  pub behind : (leads : N → List N) → IsAcyclic leads → (listed : List N) → AreInOrder leads [] listed → (i : ℕ) (n : N) → i < length listed → n ≡ get_or listed i n → (m : N) → Stands m (leads n) → Stands m (take i listed)
  behind leads acyclic listed o i n l e m s =
      elim (ordered_at leads [] (take i listed) (drop (suc i) listed) n (subst (AreInOrder leads []) (sym (split_at listed i n l e)) o) m s) [
        | inl (inl none) ↦ absurd none
        | inl (inr t) ↦ t
        | inr far ↦ absurd (acyclic n (edge_then_path leads n m n s far))
      ]

  -- from where a key is reached, all that is reachable by paths to it is reachable
  pub reached_end : (leads : N → List N) (starts : List N) (to n : N) → IsBetween leads starts to n → IsLedTo leads starts to
  reached_end leads starts to n (led, inl e) = subst (IsLedTo leads starts) e led
  reached_end leads starts to n (inl s, inr far) = inr (n, s, far)
  reached_end leads starts to n (inr (a, s, near), inr far) = inr (a, s, paths_joined leads a n to near far)

  -- ---- fewer edges
  fewer_steps : (new old : N → List N) → ((n m : N) → Stands m (new n) → Stands m (old n)) → (k : ℕ) (a b : N) → Steps new k a b → Steps old k a b
  fewer_steps new old fewer zero a b s = fewer a b s
  fewer_steps new old fewer (suc k) a b s = (s.0, fewer a s.0 s.1, fewer_steps new old fewer k s.0 b s.2)

  -- a graph with no other edges than an acyclic one is acyclic
  pub fewer_edges_acyclic : (new old : N → List N) → ((n m : N) → Stands m (new n) → Stands m (old n)) → IsAcyclic old → IsAcyclic new
  fewer_edges_acyclic new old fewer none n o = none n (o.0, fewer_steps new old fewer o.0 n n o.1)

  -- ---- walks from both ends
  module _ (leads back : N → List N) (to : N) (turned : IsTurned leads back to) where
    -- a path to the key `to` is one of the other graph, turned round
    turned_steps : (k : ℕ) (a : N) → Steps leads k a to → LeadsTo back to a
    turned_steps zero a s = elim (turned a to s) [ inl t ↦ (0, t) | inr none ↦ absurd (none.1 refl) ]
    turned_steps (suc k) a (c, s, t) = elim (turned a c s) [
      | inl u ↦ let near = turned_steps k c t in path_then_edge back near.0 to c a near.1 u
      | inr none ↦ absurd (leads_on_not k none.0 t)
    ]
      where
        leads_on_not : (j : ℕ) → leads c ≡ [] → Steps leads j c to → ⊥
        leads_on_not zero e u = subst (Stands to) e u
        leads_on_not (suc j) e (d, u, far) = subst (Stands d) e u

    -- so where none of the starts is reached from there, it is not reached from them
    pub none_met : (starts : List N) (marked : N → Bool) → ((n : N) → IsTrue (marked n) ↔ IsLedTo back (to ∷ []) n) → list_any marked starts ≡ false → IsLedTo leads starts to → ⊥
    none_met starts marked all none led = false≢true (sym none ∙ elim led [
      | inl s ↦ some_any marked starts to s ((all to).1 (inl (inl refl)))
      | inr (a, s, far) ↦ some_any marked starts a s ((all a).1 (inr (to, inl refl, turned_steps far.0 a far.1)))
    ])

  -- where a walk from the starts ended without a key, it is not reached from them
  pub none_seen : (leads : N → List N) (starts : List N) (marked : N → Bool) (to : N) → ((n : N) → IsTrue (marked n) ↔ IsLedTo leads starts n) → marked to ≡ false → IsLedTo leads starts to → ⊥
  none_seen leads starts marked to all none led = false≢true (sym none ∙ (all to).1 led)
