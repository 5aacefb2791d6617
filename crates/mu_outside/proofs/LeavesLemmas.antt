-- What runs of calls leave, put together.
use Rattle.std.proofs.Common.{inl, inr, ⊎_elim, ◌≤◌, ℕ, List, arith}
use Rattle.mu_outside.specs.Outsides.{Observed, Passes}
use Rattle.mu_outside.specs.Leaves.{Leaves}

module _ {D : Type 0} (observed : D → Observed) (moment : D → ℕ → List ℕ → List ℕ → Type 0) where
  -- before the first call
  pub at_start : ((out : D) (time later : ℕ) (image told : List ℕ) → time ≤ later → later ≤ (observed out).clock → moment out later image told → moment out time image told) → (old : D) (P : List ℕ → List ℕ → Type 0) → ((image told : List ℕ) → moment old (observed old).clock image told → P image told) → Leaves observed moment old old P
  at_start earlier old P here = record { later = omega arith; each = here; splits = λ time image told le at. inl at; keeps = λ time image told le at. at; own = λ time image told le at. earlier old time (observed old).clock image told le (omega arith) at }

  -- one call
  pub one_call : (old new : D) (P : List ℕ → List ℕ → Type 0) → Passes (observed old).clock (observed new).clock (moment old) (moment new)
      → ((image told : List ℕ) → moment new (observed old).clock image told → P image told) → Leaves observed moment old new P
  one_call old new P time inside = record { later = time.later; each = inside; splits = time.splits; keeps = time.keeps; own = time.own }

  -- one run of calls, and another after it
  pub then_on : (old mid new : D) (P Q R : List ℕ → List ℕ → Type 0) → Leaves observed moment old mid P → Leaves observed moment mid new Q
      → ((image told : List ℕ) → P image told → R image told) → ((image told : List ℕ) → Q image told → R image told)
      → Leaves observed moment old new R
  then_on old mid new P Q R first second p q = record {
    later = omega (arith, first.later, second.later);
    each = λ image told at. ⊎_elim (λ was. p image told (first.each image told was)) (λ now. q image told (second.each image told now))
        (second.splits (observed old).clock image told first.later at);
    splits = λ time image told le at. ⊎_elim
        (λ was. ⊎_elim (λ w. inl w) (λ w. inr (second.keeps (observed old).clock image told first.later w)) (first.splits time image told le was))
        (λ now. inr (second.own (observed old).clock image told first.later now))
        (second.splits time image told (omega (arith, le, first.later)) at);
    keeps = λ time image told le at. second.keeps time image told (omega (arith, le, first.later)) (first.keeps time image told le at);
    own = λ time image told le at. ⊎_elim
        (λ was. second.keeps time image told (omega (arith, le, first.later)) (first.own time image told le was))
        (λ now. second.own time image told (omega (arith, le, first.later)) now)
        (second.splits (observed old).clock image told first.later at);
  }

  -- one run of calls, with a wider fact
  pub widened : (old new : D) (P R : List ℕ → List ℕ → Type 0) → Leaves observed moment old new P → ((image told : List ℕ) → P image told → R image told) → Leaves observed moment old new R
  widened old new P R leaves p = record {
    later = leaves.later;
    each = λ image told at. p image told (leaves.each image told at);
    splits = leaves.splits;
    keeps = leaves.keeps;
    own = leaves.own;
  }
