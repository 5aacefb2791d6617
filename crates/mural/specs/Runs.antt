-- How a run may end.
use Rattle.std.specs.Prelude.{◌≡◌, ◌⊎◌, ℕ, ◌≤◌, ◌<◌, Bool, true, false, List, [], ◌++◌, length, Option, Some}
use Rattle.std.specs.Io.KnownBytes.{append_known}
use Rattle.mu_outside.specs.Outsides.{Observed, Rose}
use Rattle.mural.specs.Lines.{whole_lines, due_lines, most_input}
use Rattle.mu_flat.specs.Entries.{initial}
use Rattle.mural.specs.Replies.{replies, replies_to, told_bytes, some_refused}
use Rattle.mural.specs.Interpreter.{TellsFront}
use Rattle.mural.specs.declared.interpreter.Stop.{Stop}
use Rattle.mural.specs.declared.interpreter.Stop.TheVariants as stop
use Rattle.mural.specs.declared.status.Status.{Status}
use Rattle.mural.specs.declared.status.Status.TheVariants.{AllAccepted, SomeRefused, Usage, ReadFault, TellFault, NoMemory, InputTooLong}

-- the replies that are due are told
abbrev pub TellsAll : List ℕ → Option (List ℕ) → Observed → Type 0
TellsAll input start now = now.told ≡ append_known start (told_bytes (replies_to input))

-- the input was read to its end, and all replies are told
pub record IsDone (input : List ℕ) (start : Option (List ℕ)) (now : Observed) : Type 0 where
  pub within : length input ≤ most_input
  pub read : now.left ≡ Some []
  pub told : TellsAll input start now

-- the input could be read so far and no further: what is told are the replies to the whole lines of what was read
pub record IsCutOff (input : List ℕ) (start : Option (List ℕ)) (now : Observed) (read rest : List ℕ) : Type 0 where
  pub input_is : input ≡ read ++ rest
  pub left : now.left ≡ Some rest
  pub told : now.told ≡ append_known start (told_bytes (replies initial (whole_lines read)))

-- what a run over this input has told, by how it ended, after what was told at its start
abbrev pub Ended : List ℕ → Option (List ℕ) → Observed → Status → Type 0
Ended input start now AllAccepted = IsDone input start now × (some_refused (replies_to input) ≡ false)
Ended input start now SomeRefused = IsDone input start now × (some_refused (replies_to input) ≡ true)
Ended input start now Usage = now.told ≡ start
Ended input start now ReadFault = (read rest : List ℕ) × IsCutOff input start now read rest
Ended input start now TellFault = TellsFront start (due_lines input) now.told
Ended input start now NoMemory = TellsFront start (due_lines input) now.told
Ended input start now InputTooLong = (most_input < length input) × TellsAll input start now

-- a fault comes only where its count rose
abbrev pub HasRisen : Observed → Observed → Status → Type 0
HasRisen old new AllAccepted = Unit {0}
HasRisen old new SomeRefused = Unit {0}
HasRisen old new Usage = Unit {0}
HasRisen old new ReadFault = Rose old.read_faults new.read_faults
HasRisen old new TellFault = Rose old.tell_faults new.tell_faults
HasRisen old new NoMemory = Unit {0}
HasRisen old new InputTooLong = Unit {0}

-- how a run ends over this input where no call fails
pub record IsComplete (input : List ℕ) (status : Status) : Type 0 where
  pub short : length input ≤ most_input → (status ≡ AllAccepted) ⊎ (status ≡ SomeRefused) ⊎ (status ≡ NoMemory)
  pub long : most_input < length input → (status ≡ InputTooLong) ⊎ (status ≡ NoMemory)

-- the status of a run that stopped
abbrev pub of_stop : Stop → Status
of_stop stop.TellFault = TellFault
of_stop stop.NoMemory = NoMemory

-- the status of a run that read its input to the end
abbrev pub of_refused : Bool → Status
of_refused true = SomeRefused
of_refused false = AllAccepted
