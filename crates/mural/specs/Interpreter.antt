-- How far an input was answered.
use Rattle.std.specs.Prelude.{◌≡◌, ℕ, Bool, false, List, [], ◌++◌, take, Option}
use Rattle.std.specs.Io.KnownBytes.{append_known}
use Rattle.mural.specs.Lines.{whole_lines, unfinished}
use Rattle.mu_flat.specs.Entries.{Entries, initial}
use Rattle.mural.specs.Replies.{replies, entries_after, told_bytes, some_refused}

-- the most bytes that are kept of a line: with them it is known to be too long
abbrev pub kept_length : ℕ
kept_length = 65537

-- Of an input with these first bytes, read into a store and a line in hand, each whole line is answered.
pub record Served (start : Option (List ℕ)) (bytes : List ℕ) (entries : Entries) (line : List ℕ) (refused : Bool) (told : Option (List ℕ)) : Type 0 where
  pub entries_are : entries ≡ entries_after initial (whole_lines bytes)
  pub line_is : line ≡ take kept_length (unfinished bytes)
  pub refused_is : refused ≡ some_refused (replies initial (whole_lines bytes))
  pub told_is : told ≡ append_known start (told_bytes (replies initial (whole_lines bytes)))

-- the first bytes of all
abbrev pub IsFront : List ℕ → List ℕ → Type 0
IsFront front all = (rest : List ℕ) × (front ++ rest ≡ all)

-- first bytes of the replies to these lines are told
abbrev pub TellsFront : Option (List ℕ) → List (List ℕ) → Option (List ℕ) → Type 0
TellsFront start lines told = (front : List ℕ) × (told ≡ append_known start front) × IsFront front (told_bytes (replies initial lines))

-- nothing was read: the store has the base theory alone, no line is begun, and no reply was a refusal
abbrev pub IsFresh : Entries → List ℕ → Bool → Type 0
IsFresh entries line refused = (entries ≡ initial) × (line ≡ []) × (refused ≡ false)
