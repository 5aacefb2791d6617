-- What each call of the outside does to what is known of it.
use Rattle.std.specs.Prelude.{◌≡◌, ◌⊎◌, ◌+◌, ◌-◌, ◌^◌, ◌≤◌, ◌<◌, min, ℕ, Bool, List, length, take, drop, Option, option_map, Some, Result, Ok, Err, OnErr, IfOk, IfSome, MatchResult}
use Rattle.std.specs.Io.KnownBytes.{append_known, prepend_known, IsAtEnd}
use Rattle.mu_outside.specs.Disks.{Disk, Imaged, WithinKnown}

-- what is known of the outside between two calls: nothing of the input, of the printed bytes or of the disk where it is `None`
pub record Observed : Type 0 where
  -- the input not yet taken
  pub left : Option (List ℕ)
  -- the bytes printed so far
  pub told : Option (List ℕ)
  -- the journal's disk
  pub disk : Option Disk
  -- whether the journal is named
  pub attached : Bool
  -- how many calls of `take` failed
  pub read_faults : ℕ
  -- how many calls of `tell` failed
  pub tell_faults : ℕ
  -- how many calls of the disk failed
  pub disk_faults : ℕ
  -- the time, which no call turns back
  pub clock : ℕ

-- what a read of the disk gives
abbrev pub content : Observed → Option (List ℕ)
content observed = option_map (λ (disk : Disk). disk.content) observed.disk

-- the count rose, or stands at its last value
abbrev pub Rose : ℕ → ℕ → Type 0
Rose before now = min (before + 1) (2 ^ 64 - 1) ≤ now

-- the count of a call's own kind never falls, and rose where the call failed
pub record HasCause {T E : Type 0} (before now : ℕ) (result : Result T E) : Type 0 where
  pub later : before ≤ now
  pub failed : OnErr result (Rose before now)

-- a call that takes input keeps all else
pub record KeepsButInput (old new : Observed) : Type 0 where
  pub told : new.told ≡ old.told
  pub disk : new.disk ≡ old.disk
  pub attached : new.attached ≡ old.attached
  pub tell_faults : new.tell_faults ≡ old.tell_faults
  pub disk_faults : new.disk_faults ≡ old.disk_faults

-- a call that prints keeps all else
pub record KeepsButTold (old new : Observed) : Type 0 where
  pub left : new.left ≡ old.left
  pub disk : new.disk ≡ old.disk
  pub attached : new.attached ≡ old.attached
  pub read_faults : new.read_faults ≡ old.read_faults
  pub disk_faults : new.disk_faults ≡ old.disk_faults

-- the call that names the journal keeps all else
pub record KeepsButName (old new : Observed) : Type 0 where
  pub left : new.left ≡ old.left
  pub told : new.told ≡ old.told
  pub disk : new.disk ≡ old.disk
  pub read_faults : new.read_faults ≡ old.read_faults
  pub tell_faults : new.tell_faults ≡ old.tell_faults

-- a call of the disk keeps all else
pub record KeepsButDisk (old new : Observed) : Type 0 where
  pub left : new.left ≡ old.left
  pub told : new.told ≡ old.told
  pub attached : new.attached ≡ old.attached
  pub read_faults : new.read_faults ≡ old.read_faults
  pub tell_faults : new.tell_faults ≡ old.tell_faults

-- The clock goes on over a call, and the moments since an earlier time are those from before the call and those since its
-- start.
pub record Passes (before now : ℕ) (was since : ℕ → List ℕ → List ℕ → Type 0) : Type 0 where
  pub later : before ≤ now
  pub splits : (time : ℕ) (image told : List ℕ) → time ≤ before → since time image told → was time image told ⊎ since before image told
  pub keeps : (time : ℕ) (image told : List ℕ) → time ≤ before → was time image told → since time image told
  pub own : (time : ℕ) (image told : List ℕ) → time ≤ before → since before image told → since time image told

-- each moment of a call that prints nothing: the disk leaves what this one may
abbrev pub Quietly : Option Disk → Option (List ℕ) → (List ℕ → List ℕ → Type 0) → Type 0
Quietly most told moments = (image now : List ℕ) → moments image now → Imaged most image × (told ≡ Some now)

-- each moment of a call that prints these bytes: some first ones of them are printed
abbrev pub Telling : Option Disk → Option (List ℕ) → List ℕ → (List ℕ → List ℕ → Type 0) → Type 0
Telling disk told bytes moments =
    (image now : List ℕ) → moments image now → Imaged disk image × ((count : ℕ) × (count ≤ length bytes) × (append_known told (take count bytes) ≡ Some now))

-- a call took so many first bytes of the input into the buffer, none exactly at its end; a failed one took nothing
abbrev pub Takes : {E : Type 0} → Option (List ℕ) → Option (List ℕ) → Result ℕ E → List ℕ → Type 0
Takes old new result buf =
    MatchResult result (λ n. (n ≤ length buf) × (old ≡ prepend_known (take n buf) new) × (n ≡ 0 → IsAtEnd old)) (λ _. new ≡ old)

-- a call printed so many first bytes of the piece, one at least; a failed one printed nothing
abbrev pub Tells : {E : Type 0} → Option (List ℕ) → Option (List ℕ) → Result ℕ E → List ℕ → Type 0
Tells old new result piece =
    MatchResult result (λ n. (0 < n) × (n ≤ length piece) × (new ≡ append_known old (take n piece))) (λ _. new ≡ old)

-- how many bytes a call printed
abbrev pub count_of : {E : Type 0} → Result ℕ E → ℕ
count_of result = elim result [ Ok n ↦ n | Err e ↦ 0 ]

-- a call answered how many bytes a known content has
abbrev pub Measures : {E : Type 0} → Option (List ℕ) → Result ℕ E → Type 0
Measures content result = IfOk result (λ n. IfSome content (λ bytes. n ≡ length bytes))

-- a call copied so many bytes of a known content from this place on, none exactly at or past its end
abbrev pub Reads : {E : Type 0} → Option (List ℕ) → ℕ → Result ℕ E → List ℕ → Type 0
Reads content at result buf =
    IfOk result (λ n. IfSome content (λ bytes. (take n (drop at bytes) ≡ take n buf) × (n ≤ length bytes - at) × (n ≡ 0 → length bytes ≤ at)))

-- a call did this to the disk, or failed on the way
abbrev pub Changes : {T E : Type 0} → (Disk → Disk) → Option Disk → Option Disk → Result T E → Type 0
Changes step old new result = MatchResult result (λ _. new ≡ option_map step old) (λ _. WithinKnown (option_map step old) new)

-- a sync made sure of what a read gives, or failed and made sure of no more than before
abbrev pub Syncs : {T E : Type 0} → (Disk → Disk) → Option Disk → Option Disk → Result T E → Type 0
Syncs step old new result = MatchResult result (λ _. new ≡ option_map step old) (λ _. WithinKnown old new)
