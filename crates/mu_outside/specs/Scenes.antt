-- What the calls of a desk lead to.
use Rattle.std.specs.Prelude.{ℕ, min, max, List, [], ◌∷◌, ◌++◌, length}
use Rattle.mu_outside.specs.Disks.{Disk, at_rest, wrote, shortened, settled}
use Rattle.mu_outside.specs.declared.calls.Call.{Call}
use Rattle.mu_outside.specs.declared.calls.Call.TheVariants.{Told, Wrote, WriteFailed, Cut, CutFailed, Synced}

-- the disk, and the bytes printed so far
pub record Scene : Type 0 where
  pub disk : Disk
  pub told : List ℕ

-- before the first call, over a disk with these bytes
abbrev pub start : List ℕ → Scene
start first = record { disk = at_rest first; told = [] }

-- the disk after a write of this range failed: a read gives what it gave, and a crash may leave any bytes in the range
abbrev pub half_written : ℕ → ℕ → Disk → Disk
half_written from past disk = record disk { ranges = (from, past) ∷ disk.ranges; high = max disk.high past }

-- the disk after a cut failed: a read gives what it gave, and a crash may leave the bytes cut or not
abbrev pub half_cut : ℕ → Disk → Disk
half_cut at disk = record disk { ranges = (at, length disk.content) ∷ disk.ranges; low = min disk.low at }

-- the bytes that a call printed
abbrev pub piece_of : Call → List ℕ
piece_of (Told piece) = piece
piece_of call = []

-- the disk after a call; a write past the end begins at the end
abbrev pub disk_after : Disk → Call → Disk
disk_after disk (Wrote at bytes) = wrote (min at (length disk.content)) bytes disk
disk_after disk (WriteFailed from past) = half_written from past disk
disk_after disk (Cut at) = shortened at disk
disk_after disk (CutFailed at) = half_cut at disk
disk_after disk Synced = settled disk
disk_after disk call = disk

-- the disk in the midst of a call: a crash may leave of it what it may before the call, and what it may after it
abbrev pub disk_amid : Disk → Call → Disk
disk_amid disk Synced = disk
disk_amid disk call = disk_after disk call

-- after one more call
abbrev pub step : Scene → Call → Scene
step scene call = record { disk = disk_after scene.disk call; told = scene.told ++ piece_of call }

-- after these calls
abbrev pub played : Scene → List Call → Scene
played scene [] = scene
played scene (call ∷ calls) = played (step scene call) calls

-- the bytes that the calls printed, one after another
abbrev pub printed_by : List Call → List ℕ
printed_by [] = []
printed_by (call ∷ calls) = piece_of call ++ printed_by calls
