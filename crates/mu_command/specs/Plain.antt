-- Which names of a command are plain.
use Rattle.std.specs.Prelude.{◌≡◌, ℕ, true, List, [], ◌∷◌}
use Rattle.mu_tree.specs.Names.{is_segment}
use Rattle.mu_command.specs.declared.command.Command.{Command}
use Rattle.mu_command.specs.declared.parts.Part.{Part}
use Rattle.mu_command.specs.declared.parts.Part.TheVariants as part
use Rattle.mu_command.specs.declared.parts.Field.{Field}
use Rattle.mu_command.specs.declared.parts.Field.TheVariants as field
use Rattle.mu_command.specs.Rows.{row, form_of, fields_of}

-- the name has one segment
abbrev pub IsPlain : List ℕ → Type 0
IsPlain text = is_segment text ≡ true

-- so has what a field names
abbrev pub NamesPlain : Field → Type 0
NamesPlain (field.Name name) = IsPlain name
NamesPlain (field.Declaration d) = IsPlain d.name
NamesPlain _ = Unit {0}

-- the fields of plain names and of declarations name something with one segment
abbrev pub ArePlain : List Part → List Field → Type 0
ArePlain [] fields = Unit {0}
ArePlain (part.Word keyword ∷ parts) fields = ArePlain parts fields
ArePlain (part.Sign m ∷ parts) fields = ArePlain parts fields
ArePlain (each ∷ parts) [] = Unit {0}
ArePlain (part.Plain ∷ parts) (first ∷ fields) = NamesPlain first × ArePlain parts fields
ArePlain (part.Declaration ∷ parts) (first ∷ fields) = NamesPlain first × ArePlain parts fields
ArePlain (each ∷ parts) (first ∷ fields) = ArePlain parts fields

-- what the command declares, and where, have plain names
abbrev pub HasPlainNames : Command → Type 0
HasPlainNames c = ArePlain (row (form_of c)) (fields_of c)
