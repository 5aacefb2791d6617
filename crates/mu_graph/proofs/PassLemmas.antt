-- One key after another in a pass, and what stands when a pass marks nothing.
use Rattle.std.proofs.Common.{arith, sym, subst, ◌∙◌, ◌≡◌, Bool, true, false, List, [], ◌∷◌, ◌++◌, length-append, inl, inr}
use Rattle.std.specs.Prelude.{◌⊎◌}
use Rattle.std.proofs.lemmas.Bool.{false≢true}
use Rattle.mu_graph.specs.Derivations.{Stands, is_ready, IsReached, Passed}
use Rattle.mu_graph.specs.KeySets.{Adds}
use Rattle.mu_graph.proofs.DerivationLemmas.{stands_front, stands_either, stands_one, stands_last, ready_some, some_ready, reached_by, reached_in}

module _ {N : Type 0} (ways : N → List (List N)) where
  pub none_passed : (m : N → Bool) → Passed ways m m [] []
  none_passed m = record {
    sound = λ start r. r;
    stay = λ n h. h;
    covers = λ n h. h;
    fewer = omega arith;
    quiet = λ _ n s. absurd s;
  }

  pub one_marked : (before after next : N → Bool) (seen left : List N) (n : N) → Passed ways before after seen left → is_ready after (ways n) ≡ true → Adds after next n → Passed ways before next (seen ++ n ∷ []) left
  one_marked before after next seen left n p h added = record {
    sound = λ start s k m. elim (added.0 k m) [
      | inl e ↦ let way = ready_some after (ways n) h in
          subst (λ j. IsReached start ways j) e (reached_by start ways n way.0 way.1 (λ j t. p.sound start s j (way.2 j t)))
      | inr o ↦ p.sound start s k o
    ];
    stay = λ k m. added.1 k (inr (p.stay k m));
    covers = λ k c. elim c [
      | inl m ↦ elim (p.covers k (inl m)) [ inl a ↦ inl (added.1 k (inr a)) | inr l ↦ inr l ]
      | inr s ↦ elim (stands_either k seen (n ∷ []) s) [
        | inl t ↦ elim (p.covers k (inr t)) [ inl a ↦ inl (added.1 k (inr a)) | inr l ↦ inr l ]
        | inr e ↦ inl (added.1 k (inl (stands_one k n e)))
      ]
    ];
    fewer = omega (arith, p.fewer, length-append seen (n ∷ []));
    quiet = λ e. absurd (omega (arith, e, p.fewer, length-append seen (n ∷ [])));
  }

  pub one_left : (before after : N → Bool) (seen left : List N) (n : N) → Passed ways before after seen left → is_ready after (ways n) ≡ false → Passed ways before after (seen ++ n ∷ []) (left ++ n ∷ [])
  one_left before after seen left n p h = record {
    sound = p.sound;
    stay = p.stay;
    covers = λ k c. elim c [
      | inl m ↦ elim (p.covers k (inl m)) [ inl a ↦ inl a | inr l ↦ inr (stands_front k left (n ∷ []) l) ]
      | inr s ↦ elim (stands_either k seen (n ∷ []) s) [
        | inl t ↦ elim (p.covers k (inr t)) [ inl a ↦ inl a | inr l ↦ inr (stands_front k left (n ∷ []) l) ]
        | inr e ↦ inr (subst (λ j. Stands j (left ++ n ∷ [])) (stands_one k n e) (stands_last n left))
      ]
    ];
    fewer = omega (arith, p.fewer, length-append seen (n ∷ []), length-append left (n ∷ []));
    quiet = λ e k s. elim (stands_either k left (n ∷ []) s) [
      | inl t ↦ p.quiet (omega (arith, e, length-append seen (n ∷ []), length-append left (n ∷ []))) k t
      | inr one ↦ subst (λ j. is_ready after (ways j) ≡ false) (stands_one k n one) h
    ];
  }

  -- where nothing more is ready, each derivable key is marked
  pub all_marked : (start marked : N → Bool) (left : List N)
      → ((n : N) → start n ≡ true → marked n ≡ true)
      → ((n : N) (way : List N) → Stands way (ways n) → (marked n ≡ true) ⊎ Stands n left)
      → ((n : N) → Stands n left → is_ready marked (ways n) ≡ false)
      → (n : N) → IsReached start ways n → marked n ≡ true
  all_marked start marked left starts covers quiet n r =
      reached_in start ways (λ k. marked k ≡ true) starts (λ k way s all. elim (covers k way s) [
        | inl m ↦ m
        | inr l ↦ absurd (false≢true (sym (quiet k l) ∙ some_ready marked (ways k) way s all))
      ]) n r
