-- Which tokens are those of a command, and which command that is.
use Rattle.std.specs.Prelude.{◌≡◌, List, ◌++◌, Option, Result}
use Rattle.mu_grammar.specs.declared.excess.Excess.{Excess}
use Rattle.mu_grammar.specs.declared.fault.PartFault.{PartFault}
use Rattle.mu_grammar.specs.Lexemes.{Lexeme}
use Rattle.mu_grammar.specs.Parts.{Out, found, ◌>>=◌, Gives}
use Rattle.mu_grammar.specs.Rows.{Values, SpellsRow, read_row}
use Rattle.mu_grammar.specs.Writings.{Writing, tree_of}
use Rattle.mu_grammar.specs.Blocks.{block_of}
use Rattle.mu_grammar.specs.Claims.{claim_of}
use Rattle.mu_grammar.specs.Reasons.{why_of}
use Rattle.mu_grammar.specs.Excesses.{Raising}
use Rattle.mu_command.specs.declared.command.Command.{Command}
use Rattle.mu_command.specs.declared.command.Command.TheVariants as command
use Rattle.mu_command.specs.declared.forms.Form.{Form}
use Rattle.mu_command.specs.declared.forms.Form.TheVariants.{Theory, Parent, Unparent, Const, AlterConst, Define, Undefine, Axiom, Rule, AlterRule, Proof, Line, Box, AlterLine, AlterBox, Move, Cite, Unjustify, DropUnit, DropConst, DropRule, DropProof, DropItem, Status, ShowUnit, ShowRule, ShowProof}
use Rattle.mu_command.specs.declared.parts.Part.{Part}
use Rattle.mu_command.specs.declared.parts.Field.{Field}
use Rattle.mu_command.specs.Forms.{FormWords, read_form}
use Rattle.mu_command.specs.Parts.{Value, SpellsPart, read_part, trees_in, StandsPart}
use Rattle.mu_command.specs.Rows.{row, form_of, fields_of, trees_of, StandsRow}

-- the values of the parts of a form, as they are spelled
abbrev pub Spelled : Form → Type 0
Spelled form = Values Value (row form)

-- a command as it is written: its form and what its parts are spelled for
abbrev pub Written : Type 0
Written = (form : Form) × Spelled form

-- the tokens are those of the written command: the words of its form, and each part behind the one before it
abbrev pub Spells : List Lexeme → Written → Type 0
Spells ts w = (a b : List Lexeme) × (ts ≡ a ++ b) × FormWords a w.0 × SpellsRow Value SpellsPart (row w.0) b w.1

-- the command of a form, by what its parts are spelled for
abbrev pub make : (form : Form) → Spelled form → Command
make Theory v = command.Theory v.0
make Parent v = command.Parent v.0 v.1.0
make Unparent v = command.Unparent v.0 v.1.0
make Const v = command.Const v.0 v.1.0.name v.1.0.shape v.1.0.result
make AlterConst v = command.AlterConst v.0.name v.0.shape v.0.result
make Define v = command.Define v.0 (record { params = v.1.0; body = tree_of v.1.1.1.0 })
make Undefine v = command.Undefine v.0
make Axiom v = command.Axiom v.0 v.1.0 (claim_of v.1.1.1.0)
make Rule v = command.Rule v.0 v.1.0 (claim_of v.1.1.1.0)
make AlterRule v = command.AlterRule v.0 (claim_of v.1.1.0)
make Proof v = command.Proof v.0 v.1.0
make Line v = command.Line v.0 v.1.0 v.1.1.0 v.1.1.1.1.0 v.1.1.1.1.1.0 (tree_of v.1.1.1.1.1.1.1.0)
make Box v = command.Box v.0 v.1.0 v.1.1.0 v.1.1.1.1.0 v.1.1.1.1.1.0 (block_of v.1.1.1.1.1.1.1.0).0 (block_of v.1.1.1.1.1.1.1.0).1
make AlterLine v = command.AlterLine v.0 v.1.0 v.1.1.0 (tree_of v.1.1.1.1.0)
make AlterBox v = command.AlterBox v.0 v.1.0 v.1.1.0 (block_of v.1.1.1.1.0).0 (block_of v.1.1.1.1.0).1
make Move v = command.Move v.0 v.1.0 v.1.1.0 v.1.1.1.1.0 v.1.1.1.1.1.0
make Cite v = command.Cite v.0 v.1.0 v.1.1.0 (why_of v.1.1.1.1.0)
make Unjustify v = command.Unjustify v.0 v.1.0 v.1.1.0
make DropUnit v = command.DropUnit v.0
make DropConst v = command.DropConst v.0
make DropRule v = command.DropRule v.0
make DropProof v = command.DropProof v.0 v.1.0
make DropItem v = command.DropItem v.0 v.1.0 v.1.1.0
make Status v = command.Status v.0
make ShowUnit v = command.ShowUnit v.0
make ShowRule v = command.ShowRule v.0
make ShowProof v = command.ShowProof v.0 v.1.0

-- the command that is written
abbrev pub command_of : Written → Command
command_of w = make w.0 w.1

-- the trees of a written command
abbrev pub trees_of_command : Written → List Writing
trees_of_command w = trees_of (row w.0) w.1

-- reads the parts of a form
unfoldable pub read_parts : (form : Form) → List Lexeme → Out (Spelled form)
read_parts form ts = read_row Value read_part (row form) ts

-- reads a command
unfoldable pub read_command : List Lexeme → Out Written
read_command ts = read_form ts >>= (λ form behind. read_parts form behind >>= (λ v rest. found (form, v) rest))

-- the command stands for the written one: it has its form, and its fields stand for what is spelled
abbrev pub StandsCommand : Written → Command → Type 0
StandsCommand w c = (form_of c ≡ w.0) × StandsRow (row w.0) w.1 (fields_of c)

-- what a call answers stands for what the part gives, and the limits that its trees pass were raised
abbrev pub GivesPart : (each : Part) → Excess → Excess → List Lexeme → Result (Option Field) PartFault → List Lexeme → Type 0
GivesPart each start now ts answer rest = Gives (Raising (StandsPart each) (trees_in each) start now) (read_part each ts) answer rest

-- the same of a row of parts
abbrev pub GivesRow : (parts : List Part) → Excess → Excess → List Lexeme → Result (List Field) PartFault → List Lexeme → Type 0
GivesRow parts start now ts answer rest = Gives (Raising (StandsRow parts) (trees_of parts) start now) (read_row Value read_part parts ts) answer rest

-- and of a command
abbrev pub GivesCommand : Excess → Excess → List Lexeme → Result Command PartFault → List Lexeme → Type 0
GivesCommand start now ts answer rest = Gives (Raising StandsCommand trees_of_command start now) (read_command ts) answer rest
