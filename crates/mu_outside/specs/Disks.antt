-- A disk of one file: what a read of it gives, and what a crash may leave.
use Rattle.std.specs.Prelude.{◌≡◌, ◌⊎◌, ◌+◌, ◌≤◌, ◌<◌, min, max, ℕ, List, [], ◌∷◌, ◌++◌, length, take, drop, slice_index, Option, None, Some}

-- a disk between two calls
pub record Disk : Type 0 where
  -- what a read gives
  pub content : List ℕ
  -- what the last sync made sure of
  pub synced : List ℕ
  -- the ranges that were written or cut since: the first place of each, and the place past its last
  pub ranges : List (ℕ × ℕ)
  -- the lowest and the highest end that the content has had since
  pub low : ℕ
  pub high : ℕ

-- the place lies in one of the ranges
abbrev pub InRange : List (ℕ × ℕ) → ℕ → Type 0
InRange [] place = ⊥
InRange (range ∷ ranges) place = ((range.0 ≤ place) × (place < range.1)) ⊎ InRange ranges place

-- A crash may leave these bytes: the end lies between the lowest and the highest, and each byte outside the ranges is as
-- it was synced.
pub record IsImage (disk : Disk) (image : List ℕ) : Type 0 where
  pub no_shorter : disk.low ≤ length image
  pub no_longer : length image ≤ disk.high
  pub outside : (place : ℕ) → place < length image → (InRange disk.ranges place → ⊥) → slice_index image place ≡ slice_index disk.synced place

-- a disk of which a crash leaves these bytes and nothing else
abbrev pub at_rest : List ℕ → Disk
at_rest content = record { content = content; synced = content; ranges = []; low = length content; high = length content }

-- the content after these bytes were written at this place
abbrev pub patched : List ℕ → ℕ → List ℕ → List ℕ
patched old at bytes = take at old ++ bytes ++ drop (at + length bytes) old

-- the disk after these bytes were written at this place
abbrev pub wrote : ℕ → List ℕ → Disk → Disk
wrote at bytes disk = record {
  content = patched disk.content at bytes;
  synced = disk.synced;
  ranges = (at, at + length bytes) ∷ disk.ranges;
  low = disk.low;
  high = max disk.high (at + length bytes);
}

-- the disk after it was cut to so many first bytes
abbrev pub shortened : ℕ → Disk → Disk
shortened at disk = record {
  content = take at disk.content;
  synced = disk.synced;
  ranges = (at, length disk.content) ∷ disk.ranges;
  low = min disk.low at;
  high = disk.high;
}

-- the disk after a sync
abbrev pub settled : Disk → Disk
settled disk = at_rest disk.content

-- what a crash may leave of the one it may leave of the other, and what a read gives is among it
pub record StaysWithin (most now : Disk) : Type 0 where
  pub images : (image : List ℕ) → IsImage now image → IsImage most image
  pub honest : IsImage now now.content

-- a crash may leave these bytes of a disk that is known
abbrev pub Imaged : Option Disk → List ℕ → Type 0
Imaged None image = ⊥
Imaged (Some disk) image = IsImage disk image

-- a disk that is known stays within another, and one that isn't stays unknown
abbrev pub WithinKnown : Option Disk → Option Disk → Type 0
WithinKnown None now = now ≡ None
WithinKnown (Some most) None = ⊥
WithinKnown (Some most) (Some now) = StaysWithin most now
