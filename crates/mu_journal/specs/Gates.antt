-- How far a content has been read.
use Rattle.std.specs.Prelude.{◌≡◌, ◌+◌, ◌-◌, ◌≤◌, ◌<◌, ℕ, Bool, true, false, List, ◌∷◌, ◌++◌, length, take, drop}
use Rattle.std.specs.Int.{to_be_bytes, w32}
use Rattle.mu_journal.specs.Formats.{head, open_gate, blocks, ends_at, is_whole, said_length, AllRecords}
use Rattle.mu_journal.specs.declared.gate.Gate.{Gate}
use Rattle.mu_journal.specs.declared.gate.Gate.TheVariants.{End, Broken, Record}

-- so many bytes were read into a buffer from a place on, and fewer than it has room for only up to the end
pub record IsRead (content : List ℕ) (at count : ℕ) (buf : List ℕ) : Type 0 where
  pub bytes : take count (drop at content) ≡ take count buf
  pub within : count ≤ length content - at
  pub whole : count < length buf → length content ≤ at + count

-- these bytes stand at a place
pub record IsKnown (content : List ℕ) (at : ℕ) (known : List ℕ) : Type 0 where
  pub bytes : take (length known) (drop at content) ≡ known
  pub within : length known ≤ length content - at

-- the head and these records stand before a place, and a byte stands there
pub record IsParsed (content : List ℕ) (records : List (List ℕ)) (at : ℕ) : Type 0 where
  pub is : content ≡ (head ++ blocks records) ++ drop at content
  pub long : length (head ++ blocks records) ≡ at
  pub valid : AllRecords records
  pub there : at < length content

-- the journal ends at this gate, which stands at this place
pub record IsEnd (content : List ℕ) (at gate : ℕ) : Type 0 where
  pub rest : List ℕ
  pub is : drop at content ≡ gate ∷ rest
  pub ends : ends_at gate rest ≡ true

-- an open gate stands at this place before a record, whole or not
pub record IsOpen (content : List ℕ) (at : ℕ) (whole : Bool) (rest : List ℕ) : Type 0 where
  pub is : drop at content ≡ open_gate ∷ rest
  pub goes_on : ends_at open_gate rest ≡ false
  pub whole_is : is_whole rest ≡ whole

-- what stands at the place of a gate
abbrev pub IsGate : List ℕ → ℕ → Gate → Type 0
IsGate content at (End gate) = IsEnd content at gate
IsGate content at Broken = (rest : List ℕ) × IsOpen content at false rest
IsGate content at (Record size) = (rest : List ℕ) × IsOpen content at true rest × (said_length rest ≡ size) × (to_be_bytes w32 size ≡ take 4 rest)
