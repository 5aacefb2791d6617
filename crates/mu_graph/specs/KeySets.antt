-- Sets of keys as tests.
use Rattle.std.specs.Prelude.{◌≡◌, ◌⊎◌, Bool, true, false}

-- no key is marked
abbrev pub IsBlank : {N : Type 0} → (N → Bool) → Type 0
IsBlank {N} marked = (n : N) → marked n ≡ false

-- the marks `after` are those `before` and n
abbrev pub Adds : {N : Type 0} → (N → Bool) → (N → Bool) → N → Type 0
Adds {N} before after n = ((q : N) → after q ≡ true → (n ≡ q) ⊎ (before q ≡ true)) × ((q : N) → (n ≡ q) ⊎ (before q ≡ true) → after q ≡ true)
