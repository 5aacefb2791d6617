-- Derivations as lists, each member of which has its premises before it.
use Rattle.std.specs.Prelude.{◌≡◌, ◌⊎◌, ◌≤◌, Bool, true, false, List, [], ◌∷◌, length}
use Rattle.std.specs.List.{AllByRecursion, list_any, list_all}

-- n is a member of the list
abbrev pub Stands : {N : Type 0} → N → List N → Type 0
Stands n [] = ⊥
Stands n (m ∷ ms) = (m ≡ n) ⊎ Stands n ms

-- each of ns is a member of the list `before`
abbrev pub AllStand : {N : Type 0} → List N → List N → Type 0
AllStand ns before = AllByRecursion (λ n. Stands n before) ns

-- a derivation, its last member first: `may n before` says that n may follow the members `before`, and each follows those before it
abbrev pub IsDerivation : {N : Type 0} → (N → List N → Type 0) → List N → Type 0
IsDerivation may [] = Unit {0}
IsDerivation may (n ∷ before) = may n before × IsDerivation may before

-- n is derivable: it is a member of some derivation
abbrev pub StandsInSome : {N : Type 0} → (N → List N → Type 0) → N → Type 0
StandsInSome {N} may n = (d : List N) × IsDerivation may d × Stands n d

-- `ways n` are lists of premises, any one of which suffices for n: all premises of one of them stand before n
abbrev pub MayFollow : {N : Type 0} → (N → List (List N)) → N → List N → Type 0
MayFollow {N} ways n before = (way : List N) × Stands way (ways n) × AllStand way before

-- n is at the start, or may follow by one of its ways
abbrev pub MayStart : {N : Type 0} → (N → Bool) → (N → List (List N)) → N → List N → Type 0
MayStart start ways n before = (start n ≡ true) ⊎ MayFollow ways n before

-- n is derivable from the start by the ways
abbrev pub IsReached : {N : Type 0} → (N → Bool) → (N → List (List N)) → N → Type 0
IsReached start ways n = StandsInSome (MayStart start ways) n

-- whether one of the ways has all its premises marked
abbrev pub is_ready : {N : Type 0} → (N → Bool) → List (List N) → Bool
is_ready marked ways = list_any (λ way. list_all marked way) ways

-- each marked key is derivable
abbrev pub AreReached : {N : Type 0} → (N → Bool) → (N → List (List N)) → (N → Bool) → Type 0
AreReached {N} start ways marked = (n : N) → marked n ≡ true → IsReached start ways n

-- a pass from the marks `before` and the keys `pending` to the marks `after` and the keys `left`
pub record Passed {N : Type 0} (ways : N → List (List N)) (before after : N → Bool) (pending left : List N) : Type 0 where
  pub sound : (start : N → Bool) → AreReached start ways before → AreReached start ways after
  pub stay : (n : N) → before n ≡ true → after n ≡ true
  pub covers : (n : N) → (before n ≡ true) ⊎ Stands n pending → (after n ≡ true) ⊎ Stands n left
  pub fewer : length left ≤ length pending
  pub quiet : length left ≡ length pending → (n : N) → Stands n left → is_ready after (ways n) ≡ false
