-- One step: what a command leads to.
use Rattle.std.specs.Prelude.{◌≡◌, ◌+◌, nat_le, ℕ, if◌then◌else◌, List, length, Option, Some, None}
use Rattle.std.specs.Option.{option_or}
use Rattle.mu_tree.specs.declared.refusal.Refusal.{Refusal}
use Rattle.mu_tree.specs.declared.refusal.Refusal.TheVariants.{JournalFull}
use Rattle.mu_flat.specs.Entries.{Entries}
use Rattle.mu_command.specs.declared.command.Command.{Command}
use Rattle.mu_command.specs.Canonical.{command_text}
use Rattle.mu_edit.specs.Changes.{refusal, changed}
use Rattle.mu_machine.specs.Queries.{queried}
use Rattle.mu_machine.specs.declared.plans.Plan.{Plan}
use Rattle.mu_machine.specs.declared.plans.Plan.TheVariants.{Tell, Change}
use Rattle.mu_machine.specs.declared.replies.Reply.{Reply}
use Rattle.mu_machine.specs.declared.replies.Reply.TheVariants.{Changed, Refused}

-- what a command leads to
pub record Outcome : Type 0 where
  pub entries : Entries
  pub reply : Reply

-- the store stays as it is
abbrev pub keep : Entries → Reply → Outcome
keep e reply = record { entries = e; reply = reply }

-- the bytes of a journal that a change takes: four before its line, a line feed behind it, and one more
abbrev pub record_length : List ℕ → ℕ
record_length line = length line + 6

-- a change whose record would pass the room that a journal has left is refused
abbrev pub full_refusal : ℕ → List ℕ → Option Refusal
full_refusal room line = if nat_le (record_length line) room then None else Some JournalFull

-- the reason for which a change is refused: what the store says comes before the room
abbrev pub change_refusal : Entries → ℕ → Command → Option Refusal
change_refusal e room c = option_or (refusal e c) (full_refusal room (command_text c))

-- the outcome of a change, by the reason for which it is refused
abbrev pub outcome : Entries → Command → Option Refusal → Outcome
outcome e c None = record { entries = changed e c; reply = Changed (command_text c) }
outcome e c (Some refused) = keep e (Refused refused)

-- the outcome of a command, by the reply that it has as a query: where it is none, it is a change
abbrev pub step_by : Entries → ℕ → Command → Option Reply → Outcome
step_by e room c (Some reply) = keep e reply
step_by e room c None = outcome e c (change_refusal e room c)

-- the outcome of a command, where the journal has this many bytes left
unfoldable pub step : Entries → ℕ → Command → Outcome
step e room c = step_by e room c (queried e c)

-- a command is a change, and the room is enough for its line
pub record IsRoomFor (e : Entries) (room : ℕ) (c : Command) (line : List ℕ) : Type 0 where
  pub change : queried e c ≡ None
  pub line_is : line ≡ command_text c
  pub fits : full_refusal room line ≡ None

-- the outcome of a change for which there is room and which has this text, by the reason for which the store refuses it
abbrev pub made_or_refused : Entries → Command → List ℕ → Option Refusal → Outcome
made_or_refused e c line None = record { entries = changed e c; reply = Changed line }
made_or_refused e c line (Some refused) = keep e (Refused refused)

-- what is to be done for a command: a reply to be told, or a change for which there is room
abbrev pub IsPlan : Entries → ℕ → Command → Plan → Type 0
IsPlan e room c (Tell reply) = step e room c ≡ keep e reply
IsPlan e room c (Change line) = IsRoomFor e room c line
