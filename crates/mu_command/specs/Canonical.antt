-- The canonical text of a command: the words of its form, and its parts in order.
use Rattle.std.specs.Prelude.{ℕ, ◌++◌, Bool, List, [], ◌∷◌, Option, Some, None, codes, length, nat_lt}
use Rattle.mu_tables.specs.Words.{text_of}
use Rattle.mu_tables.specs.Tables.{the_forms}
use Rattle.mu_grammar.specs.Spellings.{mark_text}
use Rattle.mu_print.specs.Canonical.{tree_text}
use Rattle.mu_print.specs.Texts.{block_text, claim_text, declaration_text, formals_text, reason_text}
use Rattle.mu_command.specs.declared.command.Command.{Command}
use Rattle.mu_command.specs.declared.forms.Form.{Form}
use Rattle.mu_command.specs.declared.parts.Part.{Part}
use Rattle.mu_command.specs.declared.parts.Part.TheVariants as part
use Rattle.mu_command.specs.declared.parts.Field.{Field}
use Rattle.mu_command.specs.declared.parts.Field.TheVariants as field
use Rattle.mu_command.specs.Forms.{number}
use Rattle.mu_command.specs.Parts.{keyword_text}
use Rattle.mu_command.specs.Rows.{row, form_of, fields_of}

-- a text behind a blank
abbrev pub spaced : List ℕ → List ℕ
spaced text = codes " " ++ text

-- the item before which another is put
abbrev pub before_text : Option (List ℕ) → List ℕ
before_text None = []
before_text (Some item) = codes " before " ++ item

-- what a part says, behind a blank: but formal parameters stand right behind the name before them, and an item before which another is put may be left out
unfoldable pub field_text : Field → List ℕ
field_text (field.Name name) = spaced name
field_text (field.Declaration d) = spaced (declaration_text d.name d.shape d.result)
field_text (field.Formals names) = formals_text names
field_text (field.Before item) = before_text item
field_text (field.Tree tree) = spaced (tree_text tree)
field_text (field.Claim claim) = spaced (claim_text claim)
field_text (field.Reason why) = spaced (reason_text why)
field_text (field.Block vars assumptions) = spaced (block_text vars assumptions)

-- some parts: words and marks, each behind a blank, as they stand in the row, and what the others say
unfoldable pub row_text : List Part → List Field → List ℕ
row_text [] fields = []
row_text (part.Word keyword ∷ parts) fields = spaced (keyword_text keyword) ++ row_text parts fields
row_text (part.Sign m ∷ parts) fields = spaced (mark_text m) ++ row_text parts fields
row_text (each ∷ parts) [] = []
row_text (each ∷ parts) (first ∷ fields) = field_text first ++ row_text parts fields

-- the canonical text of a form with these fields
abbrev pub form_text : Form → List Field → List ℕ
form_text form fields = text_of (number form) the_forms ++ row_text (row form) fields

-- the canonical text of a command
unfoldable pub command_text : Command → List ℕ
command_text c = form_text (form_of c) (fields_of c)

-- the most bytes of a canonical text
abbrev pub longest_text : ℕ
longest_text = 65536

-- the canonical text of the command is longer
abbrev pub is_long : Command → Bool
is_long c = nat_lt longest_text (length (command_text c))
