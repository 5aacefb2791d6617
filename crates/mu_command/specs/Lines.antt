-- What a line reads as.
use Rattle.std.specs.Prelude.{◌≡◌, ℕ, ◌-◌, ◌==◌, nat_lt, Bool, true, if◌then◌else◌, List, [], ◌∷◌, length, Option, Some, None, Result, Ok, Err}
use Rattle.mu_tree.specs.declared.refusal.LimitWord.{LimitWord}
use Rattle.mu_tree.specs.declared.refusal.LimitWord.TheVariants as limit
use Rattle.mu_tree.specs.declared.refusal.Refusal.{Refusal}
use Rattle.mu_tree.specs.declared.refusal.Refusal.TheVariants.{LineTooLong, Syntax, Limit}
use Rattle.mu_grammar.specs.Reading.{is_blank}
use Rattle.mu_grammar.specs.Tokens.{tokens}
use Rattle.mu_grammar.specs.Lexemes.{items_of}
use Rattle.mu_grammar.specs.Parts.{Out, found, stopped, Refused}
use Rattle.mu_grammar.specs.declared.excess.Excess.{Excess}
use Rattle.mu_grammar.specs.Excesses.{excess_of}
use Rattle.mu_grammar.specs.Texts.{has_short_tokens, column}
use Rattle.mu_command.specs.declared.command.Command.{Command}
use Rattle.mu_command.specs.declared.lines.LineFault.{LineFault}
use Rattle.mu_command.specs.declared.lines.LineFault.TheVariants as fault
use Rattle.mu_command.specs.Canonical.{longest_text, is_long}
use Rattle.mu_command.specs.Grammar.{Written, Spells, command_of, trees_of_command, read_command}

-- the first limit that is passed, by whether the names are within theirs and by the limits that trees pass: names go before nodes, and these before depth
abbrev pub first_limit : Bool → Excess → Option LimitWord
first_limit short e = if short then (if e.nodes then Some limit.Nodes else (if e.depth then Some limit.Depth else None)) else Some limit.Name

-- the limit that is passed, the one on canonical text behind the others
abbrev pub or_text : Option LimitWord → Bool → Option LimitWord
or_text (Some word) long = Some word
or_text None long = if long then Some limit.Text else None

-- the first limit that a line passes on which this command is written
abbrev pub limit_of : List ℕ → Written → Option LimitWord
limit_of line w = or_text (first_limit (has_short_tokens line) (excess_of (trees_of_command w))) (is_long (command_of w))

-- the command, or the limit that is passed
abbrev pub within_limits : Option LimitWord → Command → Result Command Refusal
within_limits None c = Ok c
within_limits (Some word) c = Err (Limit word)

-- what reading a line's tokens says of it
abbrev pub read_as : List ℕ → Out Written → Result Command Refusal
read_as line (found w []) = within_limits (limit_of line w) (command_of w)
read_as line (found w (T ∷ rest)) = Err (Syntax (column (tokens line) (length (tokens line) - length (T ∷ rest))))
read_as line (stopped rest) = Err (Syntax (column (tokens line) (length (tokens line) - length rest)))

-- the command that a line reads as, or why it is refused
unfoldable pub reading_of : List ℕ → Result Command Refusal
reading_of line = read_as line (read_command (items_of line))

-- a line of blanks, or whose first other byte is `#`, asks for nothing
abbrev pub is_quiet : List ℕ → Bool
is_quiet [] = true
is_quiet (byte ∷ bytes) = if is_blank byte then is_quiet bytes else byte == 35

-- what asks for a command
abbrev pub some_command : Result Command Refusal → Result (Option Command) Refusal
some_command (Ok c) = Ok (Some c)
some_command (Err refused) = Err refused

-- what a line asks for: no more than 65,536 bytes are read, and a quiet line asks for nothing
unfoldable pub line_read : List ℕ → Result (Option Command) Refusal
line_read line = if nat_lt longest_text (length line) then Err LineTooLong else (if is_quiet line then Ok None else some_command (reading_of line))

-- a call answers so, unless memory runs out
abbrev pub AnswersAs : {A : Type 0} → Result A Refusal → Result A LineFault → Type 0
AnswersAs is (Ok x) = is ≡ Ok x
AnswersAs is (Err (fault.Refused refused)) = is ≡ Err refused
AnswersAs is (Err fault.NoMemory) = Unit {0}

-- what a reading says of a line: its tokens are those of the command, which passes no limit; or they are those of a command of which this is the first limit that is passed; or commands begin with its
-- tokens up to the column, and none with that one
abbrev pub Says : List ℕ → Result Command Refusal → Type 0
Says line (Ok c) = (w : Written) × Spells (items_of line) w × (limit_of line w ≡ None) × (c ≡ command_of w)
Says line (Err (Limit word)) = (w : Written) × Spells (items_of line) w × (limit_of line w ≡ Some word)
Says line (Err (Syntax at)) = (place : ℕ) × Refused Spells (items_of line) place × (at ≡ column (tokens line) place)
Says line (Err _) = ⊥

-- the law of reading: a line is read as what its tokens say, and as one command at most
pub record IsRead (line : List ℕ) : Type 0 where
  pub says : Says line (reading_of line)
  pub one : (v w : Written) → Spells (items_of line) v → Spells (items_of line) w → v ≡ w

-- each line is read as its tokens say
unfoldable pub ReadingIsExact : Type 0
ReadingIsExact = (line : List ℕ) → IsRead line
