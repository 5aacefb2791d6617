-- One key after another in a walk, and what stands where none is left to look at.
use Rattle.std.proofs.Common.{arith, refl, sym, ap, subst, ◌∙◌, ◌≡◌, ◌<◌, ◌≤◌, ◌+◌, append_assoc, length-append, map, ℕ, zero, suc, Bool, true, false, cond, List, [], ◌∷◌, ◌++◌, length, inl, inr}
use Rattle.std.specs.Prelude.{◌⊎◌, ◌↔◌, IsTrue}
use Rattle.std.proofs.lemmas.Bool.{false≢true}
use Rattle.std.proofs.lemmas.List.{append-nil, length-map}
use Rattle.mu_graph.specs.Derivations.{Stands}
use Rattle.mu_graph.specs.KeySets.{Adds, IsBlank}
use Rattle.mu_graph.specs.Walks.{Steps, LeadsTo, IsLedTo, Walked, AreDistinct, Lists, AreInOrder, AreAwaited, IsWalk, Advances, entering, leaving, unmarked}
use Rattle.mu_graph.specs.declared.walks.Step.{Step}
use Rattle.mu_graph.specs.declared.walks.Step.TheVariants.{Enter, Leave}
use Rattle.mu_graph.proofs.DerivationLemmas.{stands_front, stands_back, stands_either, stands_one, stands_last}
use Rattle.mu_graph.proofs.PathLemmas.{path_then_edge}

module _ {N : Type 0} where
  -- ---- steps
  pub entering_append : (xs ys : List (Step N)) → entering (xs ++ ys) ≡ entering xs ++ entering ys
  entering_append [] ys = refl
  entering_append (Enter n ∷ xs) ys = ap (λ ns. n ∷ ns) (entering_append xs ys)
  entering_append (Leave n ∷ xs) ys = entering_append xs ys

  pub leaving_append : (xs ys : List (Step N)) → leaving (xs ++ ys) ≡ leaving ys ++ leaving xs
  leaving_append [] ys = sym (append-nil (leaving ys))
  leaving_append (Enter n ∷ xs) ys = leaving_append xs ys
  leaving_append (Leave n ∷ xs) ys = ap (λ ns. ns ++ n ∷ []) (leaving_append xs ys) ∙ append_assoc (leaving ys) (leaving xs) (n ∷ [])

  pub entering_all : (ns : List N) → entering (map Enter ns) ≡ ns
  entering_all [] = refl
  entering_all (n ∷ ns) = ap (λ ms. n ∷ ms) (entering_all ns)

  pub leaving_none : (ns : List N) → leaving (map Enter ns) ≡ []
  leaving_none [] = refl
  leaving_none (n ∷ ns) = leaving_none ns

  -- the last step is to look at a key
  pub entering_last : (steps : List (Step N)) (n : N) → entering (steps ++ Enter n ∷ []) ≡ entering steps ++ n ∷ []
  entering_last steps n = entering_append steps (Enter n ∷ [])

  pub leaving_last : (steps : List (Step N)) (n : N) → leaving (steps ++ Enter n ∷ []) ≡ leaving steps
  leaving_last steps n = leaving_append steps (Enter n ∷ [])

  -- the last step is to leave a key
  pub entering_left : (steps : List (Step N)) (n : N) → entering (steps ++ Leave n ∷ []) ≡ entering steps
  entering_left steps n = entering_append steps (Leave n ∷ []) ∙ append-nil (entering steps)

  pub leaving_left : (steps : List (Step N)) (n : N) → leaving (steps ++ Leave n ∷ []) ≡ n ∷ leaving steps
  leaving_left steps n = leaving_append steps (Leave n ∷ [])

  -- a key is to be left after all that it leads to
  pub entering_visit : (steps : List (Step N)) (n : N) (ns : List N) → entering (steps ++ Leave n ∷ map Enter ns) ≡ entering steps ++ ns
  entering_visit steps n ns = entering_append steps (Leave n ∷ map Enter ns) ∙ ap (λ ms. entering steps ++ ms) (entering_all ns)

  pub leaving_visit : (steps : List (Step N)) (n : N) (ns : List N) → leaving (steps ++ Leave n ∷ map Enter ns) ≡ n ∷ leaving steps
  leaving_visit steps n ns = leaving_append steps (Leave n ∷ map Enter ns) ∙ ap (λ ms. (ms ++ n ∷ []) ++ leaving steps) (leaving_none ns)

  -- ---- what is listed
  -- where no key is marked none is listed
  pub none_listed : (marked : N → Bool) → IsBlank marked → Lists marked []
  none_listed marked blank = record {
    marks = λ k s. absurd s;
    marked_stand = λ k m. absurd (false≢true (sym (blank k) ∙ m));
    once = tt;
  }

  distinct_between : (front back : List N) (n : N) → (Stands n (front ++ back) → ⊥) → AreDistinct (front ++ back) → AreDistinct (front ++ n ∷ back)
  distinct_between [] back n not_yet distinct = (not_yet, distinct)
  distinct_between (m ∷ front) back n not_yet distinct = (
    λ s. elim (stands_either m front (n ∷ back) s) [
      | inl t ↦ distinct.0 (stands_front m front back t)
      | inr (inl e) ↦ not_yet (inl (sym e))
      | inr (inr t) ↦ distinct.0 (stands_back m front back t)
    ],
    distinct_between front back n (λ s. not_yet (inr s)) distinct.1,
  )

  -- one more key is marked and listed
  pub one_listed : (marked next : N → Bool) (front back : List N) (n : N) → Lists marked (front ++ back) → marked n ≡ false → Adds marked next n → Lists next (front ++ n ∷ back)
  one_listed marked next front back n l not_yet added = record {
    marks = λ k s. elim (stands_either k front (n ∷ back) s) [
      | inl t ↦ added.1 k (inr (l.marks k (stands_front k front back t)))
      | inr (inl e) ↦ added.1 k (inl e)
      | inr (inr t) ↦ added.1 k (inr (l.marks k (stands_back k front back t)))
    ];
    marked_stand = λ k m. elim (added.0 k m) [
      | inl e ↦ stands_back k front (n ∷ back) (inl e)
      | inr o ↦ elim (stands_either k front back (l.marked_stand k o)) [
        | inl t ↦ stands_front k front (n ∷ back) t
        | inr t ↦ stands_back k front (n ∷ back) (inr t)
      ]
    ];
    once = distinct_between front back n (λ s. false≢true (sym not_yet ∙ l.marks n s)) l.once;
  }

cond_le : (before after : Bool) (k : ℕ) → (before ≡ true → after ≡ true) → cond after 0 k ≤ cond before 0 k
cond_le true true k f = omega arith
cond_le true false k f = absurd (false≢true (f refl))
cond_le false true k f = omega arith
cond_le false false k f = omega arith

module _ {N : Type 0} (leads : N → List N) where
  -- ---- reachability
  pub led_next : (starts : List N) (n m : N) → IsLedTo leads starts n → Stands m (leads n) → IsLedTo leads starts m
  led_next starts n m (inl s) t = inr (n, s, (0, t))
  led_next starts n m (inr (a, s, far)) t = inr (a, s, path_then_edge leads far.0 a n m far.1 t)

  path_within : (universe : List N) → ((n m : N) → Stands m (leads n) → Stands m universe) → (k : ℕ) (a b : N) → Steps leads k a b → Stands b universe
  path_within universe within zero a b s = within a b s
  path_within universe within (suc k) a b s = path_within universe within k s.0 b s.2

  -- all that is reachable is among the starts and the universe
  pub led_within : (universe : List N) → ((n m : N) → Stands m (leads n) → Stands m universe) → (starts : List N) (n : N) → IsLedTo leads starts n → Stands n (starts ++ universe)
  led_within universe within starts n (inl s) = stands_front n starts universe s
  led_within universe within starts n (inr (a, s, far)) = stands_back n starts universe (path_within universe within far.0 a n far.1)

  closed_path : (marked : N → Bool) → ((n m : N) → marked n ≡ true → Stands m (leads n) → marked m ≡ true) → (k : ℕ) (a b : N) → Steps leads k a b → marked a ≡ true → marked b ≡ true
  closed_path marked closed zero a b s h = closed a b h s
  closed_path marked closed (suc k) a b s h = closed_path marked closed k s.0 b s.2 (closed a s.0 h s.1)

  -- ---- the walk
  pub walk_begins : (starts : List N) (marked : N → Bool) → IsBlank marked → Walked leads starts marked starts
  walk_begins starts marked blank = record {
    sound = λ n c. elim c [ inl m ↦ absurd (false≢true (sym (blank n) ∙ m)) | inr s ↦ inl s ];
    begun = λ n s. inr s;
    closed = λ n m h s. absurd (false≢true (sym (blank n) ∙ h));
  }

  module _ (starts : List N) (marked : N → Bool) (work : List N) (n : N) (w : Walked leads starts marked (work ++ n ∷ [])) where
    -- a key on the worklist that is marked goes
    pub walk_skips : marked n ≡ true → Walked leads starts marked work
    walk_skips h = record {
      sound = λ k c. w.sound k (elim c [ inl m ↦ inl m | inr s ↦ inr (stands_front k work (n ∷ []) s) ]);
      begun = λ k s. gone k (w.begun k s);
      closed = λ k m at s. gone m (w.closed k m at s);
    }
      where
        gone : (k : N) → (marked k ≡ true) ⊎ Stands k (work ++ n ∷ []) → (marked k ≡ true) ⊎ Stands k work
        gone k (inl m) = inl m
        gone k (inr s) = elim (stands_either k work (n ∷ []) s) [ inl t ↦ inr t | inr one ↦ inl (subst (λ j. marked j ≡ true) (stands_one k n one) h) ]

    -- one that is not is marked, and what it leads to is put on the worklist
    pub walk_visits : (next : N → Bool) → Adds marked next n → Walked leads starts next (work ++ leads n)
    walk_visits next added = record {
      sound = λ k c. elim c [
        | inl m ↦ elim (added.0 k m) [ inl e ↦ subst (λ j. IsLedTo leads starts j) e here | inr o ↦ w.sound k (inl o) ]
        | inr s ↦ elim (stands_either k work (leads n) s) [
          | inl t ↦ w.sound k (inr (stands_front k work (n ∷ []) t))
          | inr t ↦ led_next starts n k here t
        ]
      ];
      begun = λ k s. kept k (w.begun k s);
      closed = λ k m at s. elim (added.0 k at) [
        | inl e ↦ inr (stands_back m work (leads n) (subst (λ j. Stands m (leads j)) (sym e) s))
        | inr o ↦ kept m (w.closed k m o s)
      ];
    }
      where
        here : IsLedTo leads starts n
        here = w.sound n (inr (stands_last n work))

        kept : (k : N) → (marked k ≡ true) ⊎ Stands k (work ++ n ∷ []) → (next k ≡ true) ⊎ Stands k (work ++ leads n)
        kept k (inl m) = inl (added.1 k (inr m))
        kept k (inr s) = elim (stands_either k work (n ∷ []) s) [ inl t ↦ inr (stands_front k work (leads n) t) | inr one ↦ inl (added.1 k (inl (stands_one k n one))) ]

  done : (marked : N → Bool) (k : N) → (marked k ≡ true) ⊎ Stands k [] → marked k ≡ true
  done marked k (inl m) = m
  done marked k (inr s) = absurd s

  -- where the worklist is empty, what is marked is what is reachable
  pub walk_ends : (starts : List N) (marked : N → Bool) → Walked leads starts marked [] → (n : N) → (marked n ≡ true → IsLedTo leads starts n) × (IsLedTo leads starts n → marked n ≡ true)
  walk_ends starts marked w n = (
    λ m. w.sound n (inl m),
    λ led. elim led [
      | inl s ↦ done marked n (w.begun n s)
      | inr far ↦ closed_path marked (λ a b h s. done marked b (w.closed a b h s)) far.2.0 far.0 n far.2.1 (done marked far.0 (w.begun far.0 far.1))
    ],
  )

  -- ---- the measure
  unmarked_le : (marked next : N → Bool) → ((n : N) → marked n ≡ true → next n ≡ true) → (ns : List N) → unmarked leads next ns ≤ unmarked leads marked ns
  unmarked_le marked next stay [] = omega arith
  unmarked_le marked next stay (n ∷ ns) = omega (arith, cond_le (marked n) (next n) (suc (length (leads n))) (stay n), unmarked_le marked next stay ns)

  pub unmarked_falls : (marked next : N → Bool) (n : N) → Adds marked next n → marked n ≡ false → (ns : List N) → Stands n ns → unmarked leads next ns + suc (length (leads n)) ≤ unmarked leads marked ns
  unmarked_falls marked next n added not_yet [] s = absurd s
  unmarked_falls marked next n added not_yet (k ∷ ns) (inr s) =
      omega (arith, cond_le (marked k) (next k) (suc (length (leads k))) (λ m. added.1 k (inr m)), unmarked_falls marked next n added not_yet ns s)
  unmarked_falls marked next n added not_yet (k ∷ ns) (inl e) =
      let size : N → ℕ = λ j. suc (length (leads j)) in
      let here : cond (next k) 0 (size k) ≡ 0 = ap (λ b. cond b 0 (size k)) (added.1 k (inl (sym e))) in
      let there : cond (marked k) 0 (size k) ≡ size k = ap (λ b. cond b 0 (size k)) (subst (λ j. marked j ≡ false) (sym e) not_yet) in
      let same : size k ≡ size n = ap size e in
      omega (arith, here, there, same, unmarked_le marked next (λ j m. added.1 j (inr m)) ns)

  pub walk_falls : (universe : List N) → ((n m : N) → Stands m (leads n) → Stands m universe) → (starts : List N) (marked next : N → Bool) (old new work : List (Step N)) (n : N)
      → old ≡ work ++ Enter n ∷ [] → new ≡ work ++ Leave n ∷ map Enter (leads n) → Walked leads starts marked (entering old) → marked n ≡ false → Adds marked next n
      → unmarked leads next (starts ++ universe) + length new < unmarked leads marked (starts ++ universe) + length old
  walk_falls universe within starts marked next old new work n is_old is_new w not_yet added =
      let here : Stands n (entering old) = subst (λ ns. Stands n ns) (sym (ap entering is_old ∙ entering_last work n)) (stands_last n (entering work)) in
      let longer : length new ≡ length work + suc (length (leads n)) = ap length is_new ∙ length-append work (Leave n ∷ map Enter (leads n)) ∙ ap (λ k. length work + suc k) (length-map (leads n) Enter) in
      omega (arith, ap length is_old, longer, length-append work (Enter n ∷ []), unmarked_falls marked next n added not_yet (starts ++ universe) (led_within universe within starts n (w.sound n (inr here))))

  -- ---- the order in which keys are left
  awaited_all : (marked : N → Bool) (ns : List N) → AreAwaited leads marked (map Enter ns)
  awaited_all marked [] = tt
  awaited_all marked (n ∷ ns) = awaited_all marked ns

  module _ (marked : N → Bool) (n : N) where
    -- all that the last key to be left leads to is marked
    last_awaited : (steps : List (Step N)) → AreAwaited leads marked (steps ++ Leave n ∷ []) → (m : N) → Stands m (leads n) → marked m ≡ true
    last_awaited [] a m s = elim (a.0 m s) [ inl h ↦ h | inr none ↦ absurd none ]
    last_awaited (Enter k ∷ steps) a m s = last_awaited steps a m s
    last_awaited (Leave k ∷ steps) a m s = last_awaited steps a.2 m s

    -- a key that is to be left later leads to it
    later_leads : (steps : List (Step N)) → AreAwaited leads marked (steps ++ Leave n ∷ []) → (m : N) → Stands m (leaving steps) → LeadsTo leads m n
    later_leads [] a m s = absurd s
    later_leads (Enter k ∷ steps) a m s = later_leads steps a m s
    later_leads (Leave k ∷ steps) a m s = elim (stands_either m (leaving steps) (k ∷ []) s) [
      | inl t ↦ later_leads steps a.2 m t
      | inr t ↦ subst (λ j. LeadsTo leads j n) (stands_one m k t) (a.1 n (inr (subst (Stands n) (sym (leaving_left steps n)) (inl refl))))
    ]

    -- it is left: the other steps stay as they are
    awaited_left : (steps : List (Step N)) → AreAwaited leads marked (steps ++ Leave n ∷ []) → AreAwaited leads marked steps
    awaited_left [] a = tt
    awaited_left (Enter k ∷ steps) a = awaited_left steps a
    awaited_left (Leave k ∷ steps) a = (
      λ m s. elim (a.0 m s) [ inl h ↦ inl h | inr t ↦ inr (subst (Stands m) (entering_left steps n) t) ],
      λ m c. a.1 m (elim c [ inl t ↦ inl (subst (Stands m) (sym (entering_left steps n)) t) | inr t ↦ inr (subst (Stands m) (sym (leaving_left steps n)) (inr t)) ]),
      awaited_left steps a.2,
    )

    -- a marked key needn't be looked at
    awaited_skipped : marked n ≡ true → (steps : List (Step N)) → AreAwaited leads marked (steps ++ Enter n ∷ []) → AreAwaited leads marked steps
    awaited_skipped h [] a = tt
    awaited_skipped h (Enter k ∷ steps) a = awaited_skipped h steps a
    awaited_skipped h (Leave k ∷ steps) a = (
      λ m s. elim (a.0 m s) [
        | inl at ↦ inl at
        | inr t ↦ elim (stands_either m (entering steps) (n ∷ []) (subst (Stands m) (entering_last steps n) t)) [
          | inl u ↦ inr u
          | inr u ↦ inl (subst (λ j. marked j ≡ true) (stands_one m n u) h)
        ]
      ],
      λ m c. a.1 m (elim c [
        | inl t ↦ inl (subst (Stands m) (sym (entering_last steps n)) (stands_front m (entering steps) (n ∷ []) t))
        | inr t ↦ inr (subst (Stands m) (sym (leaving_last steps n)) t)
      ]),
      awaited_skipped h steps a.2,
    )

    -- a key is marked, and is to be left after all that it leads to
    awaited_visited : (next : N → Bool) → Adds marked next n → (steps : List (Step N)) → AreAwaited leads marked (steps ++ Enter n ∷ []) → AreAwaited leads next (steps ++ Leave n ∷ map Enter (leads n))
    awaited_visited next added [] a = (
      λ m s. inr (subst (Stands m) (sym (entering_all (leads n))) s),
      λ m c. elim c [
        | inl t ↦ (0, subst (Stands m) (entering_all (leads n)) t)
        | inr t ↦ absurd (subst (Stands m) (leaving_none (leads n)) t)
      ],
      awaited_all next (leads n),
    )
    awaited_visited next added (Enter k ∷ steps) a = awaited_visited next added steps a
    awaited_visited next added (Leave k ∷ steps) a = (
      λ m s. elim (a.0 m s) [
        | inl at ↦ inl (added.1 m (inr at))
        | inr t ↦ elim (stands_either m (entering steps) (n ∷ []) (subst (Stands m) (entering_last steps n) t)) [
          | inl u ↦ inr (subst (Stands m) (sym (entering_visit steps n (leads n))) (stands_front m (entering steps) (leads n) u))
          | inr u ↦ inl (added.1 m (inl (stands_one m n u)))
        ]
      ],
      λ m c. elim c [
        | inl t ↦ elim (stands_either m (entering steps) (leads n) (subst (Stands m) (entering_visit steps n (leads n)) t)) [
          | inl u ↦ to_old m (inl u)
          | inr u ↦ path_then_edge leads to_here.0 k n m to_here.1 u
        ]
        | inr t ↦ elim (subst (Stands m) (leaving_visit steps n (leads n)) t) [
          | inl e ↦ subst (LeadsTo leads k) e to_here
          | inr u ↦ to_old m (inr u)
        ]
      ],
      awaited_visited next added steps a.2,
    )
      where
        to_old : (m : N) → Stands m (entering steps) ⊎ Stands m (leaving steps) → LeadsTo leads k m
        to_old m c = a.1 m (elim c [
          | inl t ↦ inl (subst (Stands m) (sym (entering_last steps n)) (stands_front m (entering steps) (n ∷ []) t))
          | inr t ↦ inr (subst (Stands m) (sym (leaving_last steps n)) t)
        ])

        to_here : LeadsTo leads k n
        to_here = a.1 n (inl (subst (Stands n) (sym (entering_last steps n)) (stands_last n (entering steps))))

  -- one more key behind all that it leads to, but for what leads back to it
  one_ordered : (before left : List N) (n : N) → AreInOrder leads before left → ((m : N) → Stands m (leads n) → (Stands m before ⊎ Stands m left) ⊎ LeadsTo leads m n) → AreInOrder leads before (left ++ n ∷ [])
  one_ordered before [] n o f = (λ m s. elim (f m s) [ inl (inl t) ↦ inl t | inl (inr none) ↦ absurd none | inr back ↦ inr back ], tt)
  one_ordered before (k ∷ left) n o f = (
    o.0,
    one_ordered (k ∷ before) left n o.1 (λ m s. elim (f m s) [
      | inl (inl t) ↦ inl (inl (inr t))
      | inl (inr (inl e)) ↦ inl (inl (inl e))
      | inl (inr (inr t)) ↦ inl (inr t)
      | inr back ↦ inr back
    ]),
  )

  -- what a key in such a list leads to stands before it, but for what leads back to it
  pub ordered_at : (before front back : List N) (n : N) → AreInOrder leads before (front ++ n ∷ back) → (m : N) → Stands m (leads n) → (Stands m before ⊎ Stands m front) ⊎ LeadsTo leads m n
  ordered_at before [] back n o m s = elim (o.0 m s) [ inl t ↦ inl (inl t) | inr far ↦ inr far ]
  ordered_at before (k ∷ front) back n o m s = elim (ordered_at (k ∷ before) front back n o.1 m s) [
    | inl (inl (inl e)) ↦ inl (inr (inl e))
    | inl (inl (inr t)) ↦ inl (inl t)
    | inl (inr t) ↦ inl (inr (inr t))
    | inr far ↦ inr far
  ]

  -- ---- one step
  pub walk_starts : (starts : List N) (marked : N → Bool) → IsBlank marked → IsWalk leads starts marked [] (map Enter starts)
  walk_starts starts marked blank = record {
    walked = subst (Walked leads starts marked) (sym (entering_all starts)) (walk_begins starts marked blank);
    lists = subst (Lists marked) (sym (leaving_none starts)) (none_listed marked blank);
    ordered = tt;
    awaited = awaited_all marked starts;
  }

  pub none_left : (universe : List N) (marked : N → Bool) (left : List N) → Advances leads universe false marked marked left left [] []
  none_left universe marked left = record { walk = λ starts w. w; less = λ e. absurd (false≢true e); ends = λ _. refl }

  pub one_left : (universe : List N) (marked : N → Bool) (left : List N) (steps : List (Step N)) (n : N) → Advances leads universe true marked marked left (left ++ n ∷ []) (steps ++ Leave n ∷ []) steps
  one_left universe marked left steps n = record {
    walk = λ starts w.
        let lists : Lists marked (left ++ n ∷ leaving steps) = subst (λ back. Lists marked (left ++ back)) (leaving_left steps n) w.lists in
        record {
          walked = subst (Walked leads starts marked) (entering_left steps n) w.walked;
          lists = subst (Lists marked) (sym (append_assoc left (n ∷ []) (leaving steps))) lists;
          ordered = one_ordered [] left n w.ordered (λ m s. elim (stands_either m left (n ∷ leaving steps) (lists.marked_stand m (last_awaited marked n steps w.awaited m s))) [
            | inl t ↦ inl (inr t)
            | inr (inl e) ↦ inr (0, subst (λ j. Stands n (leads j)) e (subst (λ j. Stands j (leads n)) (sym e) s))
            | inr (inr t) ↦ inr (later_leads marked n steps w.awaited m t)
          ]);
          awaited = awaited_left marked n steps w.awaited;
        };
    less = λ _ starts w. omega (arith, length-append steps (Leave n ∷ []));
    ends = λ e. absurd (false≢true (sym e));
  }

  pub one_skipped : (universe : List N) (marked : N → Bool) (left : List N) (steps : List (Step N)) (n : N) → marked n ≡ true → Advances leads universe true marked marked left left (steps ++ Enter n ∷ []) steps
  one_skipped universe marked left steps n h = record {
    walk = λ starts w. record {
      walked = walk_skips starts marked (entering steps) n (subst (Walked leads starts marked) (entering_last steps n) w.walked) h;
      lists = subst (λ back. Lists marked (left ++ back)) (leaving_last steps n) w.lists;
      ordered = w.ordered;
      awaited = awaited_skipped marked n h steps w.awaited;
    };
    less = λ _ starts w. omega (arith, length-append steps (Enter n ∷ []));
    ends = λ e. absurd (false≢true (sym e));
  }

  pub one_visited : (universe : List N) → ((n m : N) → Stands m (leads n) → Stands m universe) → (marked next : N → Bool) (left : List N) (steps : List (Step N)) (n : N) → marked n ≡ false → Adds marked next n
      → Advances leads universe true marked next left left (steps ++ Enter n ∷ []) (steps ++ Leave n ∷ map Enter (leads n))
  one_visited universe within marked next left steps n not_yet added = record {
    walk = λ starts w. record {
      walked = subst (Walked leads starts next) (sym (entering_visit steps n (leads n)))
          (walk_visits starts marked (entering steps) n (subst (Walked leads starts marked) (entering_last steps n) w.walked) next added);
      lists = subst (λ back. Lists next (left ++ back)) (sym (leaving_visit steps n (leads n)))
          (one_listed marked next left (leaving steps) n (subst (λ back. Lists marked (left ++ back)) (leaving_last steps n) w.lists) not_yet added);
      ordered = w.ordered;
      awaited = awaited_visited marked n next added steps w.awaited;
    };
    less = λ _ starts w. walk_falls universe within starts marked next (steps ++ Enter n ∷ []) (steps ++ Leave n ∷ map Enter (leads n)) steps n refl refl w.walked not_yet added;
    ends = λ e. absurd (false≢true (sym e));
  }

  -- where a step was the last, what is marked is what is reachable
  pub last_step : (universe : List N) (starts : List N) (marked next : N → Bool) (left then_left : List N) (steps then_steps : List (Step N)) → Advances leads universe false marked next left then_left steps then_steps
      → IsWalk leads starts marked left steps → (n : N) → IsTrue (next n) ↔ IsLedTo leads starts n
  last_step universe starts marked next left then_left steps then_steps a w = walk_ends starts next (subst (λ work. Walked leads starts next (entering work)) (a.ends refl) (a.walk starts w).walked)
