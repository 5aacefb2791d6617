-- Which commands change the store, and which ask for a page.
use Rattle.std.specs.Prelude.{Bool, true, false, not}
use Rattle.mu_command.specs.declared.command.Command.{Command}
use Rattle.mu_command.specs.declared.forms.Form.{Form}
use Rattle.mu_command.specs.declared.forms.Form.TheVariants.{Status, ShowUnit, ShowRule, ShowProof}
use Rattle.mu_command.specs.Rows.{form_of}

-- the forms that ask for a page
abbrev pub is_query : Form → Bool
is_query Status = true
is_query ShowUnit = true
is_query ShowRule = true
is_query ShowProof = true
is_query _ = false

-- the command changes the store, where it is accepted
abbrev pub is_change : Command → Bool
is_change c = not (is_query (form_of c))
