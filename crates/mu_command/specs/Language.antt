-- The commands of the language, and what holds of their canonical text.
use Rattle.std.specs.Prelude.{◌≡◌, false, Option, Some, Result, Ok}
use Rattle.mu_grammar.specs.Texts.{IsOfLanguage, ReadsText}
use Rattle.mu_command.specs.declared.command.Command.{Command}
use Rattle.mu_command.specs.declared.lines.LineFault.{LineFault}
use Rattle.mu_command.specs.Canonical.{command_text, is_long}
use Rattle.mu_command.specs.Grammar.{Spells, command_of, trees_of_command}
use Rattle.mu_command.specs.Lines.{line_read}

-- a command of the language: some line reads as it, and neither its names nor its trees pass a limit
abbrev pub IsCommand : Command → Type 0
IsCommand c = IsOfLanguage Spells trees_of_command command_of c

-- where a command is answered, it is one of the language
abbrev pub OfLanguage : Result (Option Command) LineFault → Type 0
OfLanguage (Ok (Some c)) = IsCommand c
OfLanguage _ = Unit {0}

-- what the canonical text of a command reads as: the command by the grammar, and where it is not too long, as a line
pub record ReadsBack (c : Command) : Type 0 where
  pub grammar : ReadsText Spells trees_of_command command_of (command_text c) (Ok c)
  pub line : is_long c ≡ false → line_read (command_text c) ≡ Ok (Some c)

-- each command of the language is what its canonical text reads as
unfoldable pub CommandsReadBack : Type 0
CommandsReadBack = (c : Command) → IsCommand c → ReadsBack c
