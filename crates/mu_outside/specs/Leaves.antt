-- What calls do one after another: their moments are put together.
use Rattle.std.specs.Prelude.{◌⊎◌, ◌≤◌, ℕ, List}
use Rattle.mu_outside.specs.Outsides.{Observed}

-- From the old outside to the new one each moment has P, and the moments since an earlier time are those before and those
-- since the old one.
pub record Leaves {D : Type 0} (observed : D → Observed) (moment : D → ℕ → List ℕ → List ℕ → Type 0) (old new : D) (P : List ℕ → List ℕ → Type 0) : Type 0 where
  pub later : (observed old).clock ≤ (observed new).clock
  pub each : (image told : List ℕ) → moment new (observed old).clock image told → P image told
  pub splits : (time : ℕ) (image told : List ℕ) → time ≤ (observed old).clock → moment new time image told → moment old time image told ⊎ moment new (observed old).clock image told
  pub keeps : (time : ℕ) (image told : List ℕ) → time ≤ (observed old).clock → moment old time image told → moment new time image told
  pub own : (time : ℕ) (image told : List ℕ) → time ≤ (observed old).clock → moment new (observed old).clock image told → moment new time image told
