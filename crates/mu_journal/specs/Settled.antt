-- A disk that rests at a journal's records.
use Rattle.std.specs.Prelude.{◌≡◌, ◌⊎◌, ℕ, List, [], ◌∷◌, ◌++◌, length, Option, None, Some}
use Rattle.mu_outside.specs.Disks.{Disk, IsImage, at_rest}
use Rattle.mu_journal.specs.Formats.{Holding, opened, closed, AllRecords}

-- A crash leaves a journal of these records and nothing else. Its last gate is closed and is its last byte, and the
-- number is its length.
pub record SettledAt (disk : Disk) (records : List (List ℕ)) (number : ℕ) : Type 0 where
  pub rests : disk ≡ at_rest (closed records)
  pub valid : AllRecords records
  pub length_is : number ≡ length (closed records)
  -- each image opens to them
  pub opens : (image : List ℕ) → IsImage disk image → opened image ≡ Holding records

-- a disk that is known is settled at some records, with a journal of this length
abbrev pub IsSettled : Option Disk → ℕ → Type 0
IsSettled None number = Unit {0}
IsSettled (Some disk) number = (records : List (List ℕ)) × SettledAt disk records number

-- an image opens to these records, or to these and one more
abbrev pub BeforeOrAfter : List (List ℕ) → List ℕ → List ℕ → Type 0
BeforeOrAfter records one image = (opened image ≡ Holding records) ⊎ (opened image ≡ Holding (records ++ one ∷ []))
