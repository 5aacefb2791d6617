-- What calls of the disk leave, and what the opening of a journal says of it.
use Rattle.std.specs.Prelude.{◌≡◌, ◌≤◌, ℕ, List, Option, None, Some}
use Rattle.mu_outside.specs.Disks.{Disk, Imaged, at_rest}
use Rattle.mu_outside.specs.Outsides.{Observed, KeepsButDisk}
use Rattle.mu_outside.specs.Leaves.{Leaves}
use Rattle.mu_journal.specs.Formats.{Holding, opened}

-- a crash leaves what a read gives and nothing else, where the disk is known
abbrev pub IsAtRest : Option Disk → Type 0
IsAtRest None = Unit {0}
IsAtRest (Some disk) = disk ≡ at_rest disk.content

-- these bytes open to these records
abbrev pub OpensTo : List ℕ → List (List ℕ) → Type 0
OpensTo content records = opened content ≡ Holding records

-- a moment's image has this, and the bytes printed are these
abbrev pub With : (List ℕ → Type 0) → Option (List ℕ) → List ℕ → List ℕ → Type 0
With P told0 image told = P image × (told0 ≡ Some told)

-- a moment's image opens as this content does, and the bytes printed are these
abbrev pub OpensAs : List ℕ → Option (List ℕ) → List ℕ → List ℕ → Type 0
OpensAs content told0 image told = (opened image ≡ opened content) × (told0 ≡ Some told)

-- calls of the disk, at each moment of which a crash leaves what this disk may
pub record Within {D : Type 0} (observed : D → Observed) (moment : D → ℕ → List ℕ → List ℕ → Type 0) (old new : D) (most : Option Disk) : Type 0 where
  pub rest : KeepsButDisk (observed old) (observed new)
  pub moments : Leaves observed moment old new (With (Imaged most) (observed old).told)
  pub later : (observed old).disk_faults ≤ (observed new).disk_faults

-- calls that leave the disk as it is
pub record Looks {D : Type 0} (observed : D → Observed) (moment : D → ℕ → List ℕ → List ℕ → Type 0) (old new : D) : Type 0 where
  pub disk : (observed new).disk ≡ (observed old).disk
  pub within : Within observed moment old new (observed old).disk
