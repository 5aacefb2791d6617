-- After any lines the store is sound.
use Rattle.std.proofs.Common.{◌≡◌, refl, ap, ℕ, true, false, List, [], ◌∷◌, Some, None}
use Rattle.std.specs.Prelude.{Option, Result, Ok, Err, if◌then◌else◌, nat_lt, length}
use Rattle.mu_tree.specs.declared.refusal.Refusal.{Refusal}
use Rattle.mu_tree.specs.declared.refusal.Refusal.TheVariants.{LineTooLong}
use Rattle.mu_flat.specs.Entries.{Entries, IsValid, initial}
use Rattle.mu_command.specs.Canonical.{longest_text}
use Rattle.mu_command.specs.declared.command.Command.{Command}
use Rattle.mu_command.specs.Language.{IsCommand}
use Rattle.mu_command.specs.Lines.{is_quiet, line_read, reading_of, some_command}
use Rattle.mu_command.proofs.Reading.{read_of_language}
use Rattle.mu_status.specs.Statuses.{status_at}
use Rattle.mu_machine.specs.Sound.{IsSound}
use Rattle.mu_machine.proofs.SoundChanges.{sound_initial}
use Rattle.mu_machine.proofs.Steps.{step_sound}
use Rattle.mural.specs.Answers.{answer, most_room, read_out}
use Rattle.mural.specs.Laws.{AreAlike}
use Rattle.mural.specs.Replies.{entries_after, replies}

-- where a line is read as a command, it is one of the language
abbrev Speaks : Result (Option Command) Refusal → Type 0
Speaks (Ok (Some c)) = IsCommand c
Speaks _ = Unit {0}

reads_so : (line : List ℕ) (read : Result Command Refusal) → reading_of line ≡ read → Speaks (some_command read)
reads_so line (Ok c) is = read_of_language line c is
reads_so line (Err refused) is = tt

asked_for : (line : List ℕ) → Speaks (line_read line)
unfolding line_read
asked_for line =
    elim (nat_lt longest_text (length line)) as (λ long. Speaks (if long then Err LineTooLong else (if is_quiet line then Ok None else some_command (reading_of line)))) [
      | true ↦ tt
      | false ↦ elim (is_quiet line) as (λ quiet. Speaks (if quiet then Ok None else some_command (reading_of line))) [ true ↦ tt | false ↦ reads_so line (reading_of line) refl ]
    ]

module _ (e : Entries) (sound : IsSound e) where
  read_so : (read : Result (Option Command) Refusal) → Speaks read → IsSound (read_out e read).entries
  read_so (Ok None) speaks = sound
  read_so (Ok (Some c)) speaks = step_sound e sound most_room c speaks
  read_so (Err refused) speaks = sound

  answered_so : (line : List ℕ) → IsSound (answer e line).entries
  unfolding answer
  answered_so line = read_so (line_read line) (asked_for line)

after : (e : Entries) (lines : List (List ℕ)) → IsSound e → IsSound (entries_after e lines)
after e [] sound = sound
after e (line ∷ lines) sound = after (answer e line).entries lines (answered_so e sound line)

pub reached_sound : (lines : List (List ℕ)) → IsSound (entries_after initial lines)
reached_sound lines = after initial lines sound_initial

pub reached_valid : (lines : List (List ℕ)) → IsValid (entries_after initial lines)
reached_valid lines = (reached_sound lines).valid

-- equal stores show the same
pub alike_after : (first second : List (List ℕ)) → entries_after initial first ≡ entries_after initial second → AreAlike first second
alike_after first second same = record {
  statuses = λ rule. ap (λ e. status_at e rule) same;
  replies_are = λ lines. ap (λ e. replies e lines) same;
}
