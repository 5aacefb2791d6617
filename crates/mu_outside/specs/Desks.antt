-- A desk: what its callers know of it, and what a call does to that.
use Rattle.std.specs.Prelude.{◌≡◌, ◌⊎◌, ℕ, Bool, true, false, List, [], ◌∷◌, ◌++◌, length, take, drop, Some}
use Rattle.std.specs.List.{Contains}
use Rattle.mu_outside.specs.Counts.{counted}
use Rattle.mu_outside.specs.Outsides.{Observed}
use Rattle.mu_outside.specs.Scenes.{Scene, start, played}
use Rattle.mu_outside.specs.Moments.{Since}
use Rattle.mu_outside.specs.declared.faults.Faults.{Faults}
use Rattle.mu_outside.specs.declared.calls.Call.{Call}
use Rattle.mu_outside.specs.declared.calls.Call.TheVariants.{Silent, Told, Wrote, Cut, Synced}

-- all that is known of a desk between two calls
pub record DeskState : Type 0 where
  -- the input not yet taken
  pub left : List ℕ
  -- the bytes of the disk before the first call
  pub first : List ℕ
  -- the calls so far, but for those that there was no memory to note
  pub calls : List Call
  -- whether the journal is named
  pub attached : Bool
  -- the numbers of the calls that fail, by their kind
  pub failing_takes : List ℕ
  pub failing_tells : List ℕ
  pub failing_disks : List ℕ
  -- how many calls were made of `take`, of `tell` and of the disk
  pub takes : ℕ
  pub tells : ℕ
  pub disks : ℕ
  -- how many of them failed
  pub read_faults : ℕ
  pub tell_faults : ℕ
  pub disk_faults : ℕ
  -- how many calls there was no memory to note
  pub starved : ℕ

-- what the calls led to
abbrev pub scene_of : DeskState → Scene
scene_of desk = played (start desk.first) desk.calls

-- what a read of the disk gives
abbrev pub content_of : DeskState → List ℕ
content_of desk = (scene_of desk).disk.content

-- what a run knows of the desk
abbrev pub known_by : DeskState → Observed
known_by desk = record {
  left = Some desk.left;
  told = Some (scene_of desk).told;
  disk = Some (scene_of desk).disk;
  attached = desk.attached;
  read_faults = desk.read_faults;
  tell_faults = desk.tell_faults;
  disk_faults = desk.disk_faults;
  clock = length desk.calls;
}

-- at some moment since this time a crash might have left this image of the disk, with these bytes printed
abbrev pub moment_of : DeskState → ℕ → List ℕ → List ℕ → Type 0
moment_of desk = Since (start desk.first) desk.calls

-- a desk before its first call
abbrev pub fresh : List ℕ → List ℕ → Faults → DeskState
fresh input disk faults = record {
  left = input;
  first = disk;
  calls = [];
  attached = false;
  failing_takes = faults.takes;
  failing_tells = faults.tells;
  failing_disks = faults.disks;
  takes = 0;
  tells = 0;
  disks = 0;
  read_faults = 0;
  tell_faults = 0;
  disk_faults = 0;
  starved = 0;
}

-- a buffer after so many first bytes were copied over its own first ones
abbrev pub filled_by : ℕ → List ℕ → List ℕ → List ℕ
filled_by count bytes buf = take count bytes ++ drop count buf

-- a `take` moved so many bytes
abbrev pub with_taken : ℕ → DeskState → DeskState
with_taken count desk = record desk { left = drop count desk.left; calls = desk.calls ++ Silent ∷ []; takes = counted desk.takes }

-- a `take` failed, and was noted
abbrev pub with_failed_take : DeskState → DeskState
with_failed_take desk = record desk { calls = desk.calls ++ Silent ∷ []; takes = counted desk.takes; read_faults = counted desk.read_faults }

-- a `take` failed, since there was no memory to note it
abbrev pub with_starved_take : DeskState → DeskState
with_starved_take desk = record desk { takes = counted desk.takes; read_faults = counted desk.read_faults; starved = counted desk.starved }

-- a `take` failed: it was listed, or there was no memory to note it
abbrev pub FailsTake : DeskState → DeskState → Type 0
FailsTake old new = (Contains old.failing_takes new.takes × (new ≡ with_failed_take old)) ⊎ (new ≡ with_starved_take old)

-- a `tell` printed a piece
abbrev pub with_told : List ℕ → DeskState → DeskState
with_told piece desk = record desk { calls = desk.calls ++ Told piece ∷ []; tells = counted desk.tells }

-- a `tell` failed, and was noted
abbrev pub with_failed_tell : DeskState → DeskState
with_failed_tell desk = record desk { calls = desk.calls ++ Silent ∷ []; tells = counted desk.tells; tell_faults = counted desk.tell_faults }

-- a `tell` failed, since there was no memory to note it
abbrev pub with_starved_tell : DeskState → DeskState
with_starved_tell desk = record desk { tells = counted desk.tells; tell_faults = counted desk.tell_faults; starved = counted desk.starved }

-- a `tell` failed: it was listed, or there was no memory to note it
abbrev pub FailsTell : DeskState → DeskState → Type 0
FailsTell old new = (Contains old.failing_tells new.tells × (new ≡ with_failed_tell old)) ⊎ (new ≡ with_starved_tell old)

-- a call of the disk did this
abbrev pub with_disk_call : Call → DeskState → DeskState
with_disk_call call desk = record desk { calls = desk.calls ++ call ∷ []; disks = counted desk.disks }

-- the journal was named
abbrev pub with_attached : DeskState → DeskState
with_attached desk = record desk { calls = desk.calls ++ Silent ∷ []; attached = true; disks = counted desk.disks }

-- a call of the disk only read
abbrev pub with_read : DeskState → DeskState
with_read desk = with_disk_call Silent desk

-- these bytes were written from this place on
abbrev pub with_written : ℕ → List ℕ → DeskState → DeskState
with_written at bytes desk = with_disk_call (Wrote at bytes) desk

-- the disk was cut to so many first bytes
abbrev pub with_cut : ℕ → DeskState → DeskState
with_cut at desk = with_disk_call (Cut at) desk

-- the disk was made sure of
abbrev pub with_synced : DeskState → DeskState
with_synced desk = with_disk_call Synced desk

-- a call of the disk failed, and was noted as this
abbrev pub with_failed_disk : Call → DeskState → DeskState
with_failed_disk call desk = record desk { calls = desk.calls ++ call ∷ []; disks = counted desk.disks; disk_faults = counted desk.disk_faults }

-- a call of the disk failed, since there was no memory to note it
abbrev pub with_starved_disk : DeskState → DeskState
with_starved_disk desk = record desk { disks = counted desk.disks; disk_faults = counted desk.disk_faults; starved = counted desk.starved }

-- a call of the disk failed: it was listed, and noted as this, or there was no memory to note it
abbrev pub FailsDisk : Call → DeskState → DeskState → Type 0
FailsDisk call old new = (Contains old.failing_disks new.disks × (new ≡ with_failed_disk call old)) ⊎ (new ≡ with_starved_disk old)
