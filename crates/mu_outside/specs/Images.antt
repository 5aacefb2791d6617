-- What a crash inside one of a desk's calls may leave.
use Rattle.std.specs.Prelude.{◌≡◌, ◌-◌, ◌<◌, ℕ, Bool, if◌then◌else◌, List, length, take, slice_index, slice_get, Option, option_map, Some}
use Rattle.mu_outside.specs.Disks.{Disk, IsImage, InRange}
use Rattle.mu_outside.specs.Scenes.{Scene, start, played, disk_amid}
use Rattle.mu_outside.specs.Moments.{During}
use Rattle.mu_outside.specs.declared.calls.Call.{Call}

-- the image of a disk that has this byte wherever any may be left, and ends at the highest end or else at the lowest
pub record IsFilled (fill : ℕ) (long : Bool) (disk : Disk) (image : List ℕ) : Type 0 where
  pub is_image : IsImage disk image
  pub ends : length image ≡ (if long then disk.high else disk.low)
  pub filled : (place : ℕ) → place < length image → InRange disk.ranges place → slice_index image place ≡ fill

-- before the call of this number, from 1
abbrev pub scene_before : List ℕ → List Call → ℕ → Scene
scene_before first calls number = played (start first) (take (number - 1) calls)

-- the disk in the midst of the call of this number, from 1
abbrev pub disk_inside : List ℕ → List Call → ℕ → Option Disk
disk_inside first calls number = option_map (λ call. disk_amid (scene_before first calls number).disk call) (slice_get calls (number - 1))

-- a crash inside the call of this number, from 1, may leave this image, with these bytes printed
abbrev pub IsInside : List ℕ → List Call → ℕ → List ℕ → List ℕ → Type 0
IsInside first calls number image told =
    (call : Call) × (slice_get calls (number - 1) ≡ Some call) × During (scene_before first calls number) call image told
