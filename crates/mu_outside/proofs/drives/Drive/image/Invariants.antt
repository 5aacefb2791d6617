use Rattle.std.proofs.Common.{◌≡◌, ◌<◌, ℕ, List, length, slice_index}
use Rattle.mu_outside.specs.Disks.{InRange}
use Rattle.mu_outside.proofs.drives.Drive.image.Given as goal

-- the bytes before this place are filled, or as they were synced
pub record IsBegun (image synced : List ℕ) (ranges : List (ℕ × ℕ)) (fill place : ℕ) : Type 0 where
  pub long : length image ≡ place
  pub inside : (k : ℕ) → k < place → InRange ranges k → slice_index image k ≡ fill
  pub outside : (k : ℕ) → k < place → (InRange ranges k → ⊥) → slice_index image k ≡ slice_index synced k

abbrev pub invariant-loop-place : goal.invariant-loop-place
invariant-loop-place l = IsBegun l.image.items l.self.synced l.self.ranges l.fill l.place
