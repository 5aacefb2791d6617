-- The answer to one line: its command carried out on a store, and the reply.
use Rattle.std.specs.Prelude.{ℕ, List, Option, Some, None, Result, Ok, Err}
use Rattle.mu_tree.specs.declared.refusal.Refusal.{Refusal}
use Rattle.mu_flat.specs.Entries.{Entries}
use Rattle.mu_command.specs.declared.command.Command.{Command}
use Rattle.mu_command.specs.Lines.{line_read}
use Rattle.mu_machine.specs.Steps.{Outcome, step}
use Rattle.mu_machine.specs.declared.replies.Reply.{Reply}
use Rattle.mu_machine.specs.declared.replies.Reply.TheVariants.{Refused}

-- what a line leads to: no reply where it is quiet
pub record Answer : Type 0 where
  pub entries : Entries
  pub reply : Option Reply

-- the bytes that a journal may have, 2^26; nothing is written to one yet, so that all of them are left
abbrev pub most_room : ℕ
most_room = 67108864

-- a command leads to what its step does
abbrev pub answered : Outcome → Answer
answered outcome = record { entries = outcome.entries; reply = Some outcome.reply }

-- the answer to a line that is read so
abbrev pub read_out : Entries → Result (Option Command) Refusal → Answer
read_out entries (Ok None) = record { entries = entries; reply = None }
read_out entries (Ok (Some command)) = answered (step entries most_room command)
read_out entries (Err refused) = record { entries = entries; reply = Some (Refused refused) }

-- the answer to a line
unfoldable pub answer : Entries → List ℕ → Answer
answer entries line = read_out entries (line_read line)
