-- Places in ranges.
use Rattle.std.proofs.Common.{◌⊎◌, inl, inr, ⊎_elim, ◌+◌, ◌≤◌, ◌<◌, ℕ, zero, suc, List, [], ◌∷◌, ◌++◌, length, get_or, take, subst, arith}
use Rattle.std.proofs.lemmas.List.{take_more}
use Rattle.mu_outside.specs.Disks.{InRange}

split : (ranges : List (ℕ × ℕ)) (range : ℕ × ℕ) (place : ℕ) → InRange (ranges ++ range ∷ []) place → InRange ranges place ⊎ ((range.0 ≤ place) × (place < range.1))
split [] range place (inl here) = inr here
split [] range place (inr none) = absurd none
split (one ∷ ranges) range place (inl here) = inl (inl here)
split (one ∷ ranges) range place (inr later) = ⊎_elim (λ was. inl (inr was)) (λ new. inr new) (split ranges range place later)

-- a place that lies in none of the first ranges nor in the next lies in none of these
pub none_more : (ranges : List (ℕ × ℕ)) (index : ℕ) (d : ℕ × ℕ) (place : ℕ) → index < length ranges → (InRange (take index ranges) place → ⊥)
    → (((get_or ranges index d).0 ≤ place) × (place < (get_or ranges index d).1) → ⊥) → InRange (take (index + 1) ranges) place → ⊥
none_more ranges index d place lt none not within =
    ⊎_elim none not (split (take index ranges) (get_or ranges index d) place (subst (λ (l : List (ℕ × ℕ)). InRange l place) (take_more ranges index d lt) within))

-- a place that lies in one of the ranges
pub in_one : (ranges : List (ℕ × ℕ)) (index : ℕ) (d : ℕ × ℕ) (place : ℕ) → index < length ranges
    → ((get_or ranges index d).0 ≤ place) × (place < (get_or ranges index d).1) → InRange ranges place
in_one [] index d place lt is = absurd (let none : ⊥ = omega arith in none)
in_one (one ∷ ranges) zero d place lt is = inl is
in_one (one ∷ ranges) (suc index) d place lt is = inr (in_one ranges index d place (omega arith) is)
