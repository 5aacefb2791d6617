-- The row of parts that each form has, and what the fields of a command say.
use Rattle.std.specs.Prelude.{◌≡◌, List, [], ◌∷◌, ◌++◌, Option, Some, None}
use Rattle.mu_grammar.specs.declared.symbol.Mark.TheVariants.{Colon, Eq}
use Rattle.mu_grammar.specs.Declarations.{declaring}
use Rattle.mu_grammar.specs.Rows.{Values}
use Rattle.mu_grammar.specs.Writings.{Writing}
use Rattle.mu_command.specs.declared.command.Command.{Command}
use Rattle.mu_command.specs.declared.command.Command.TheVariants as command
use Rattle.mu_command.specs.declared.forms.Form.{Form}
use Rattle.mu_command.specs.declared.forms.Form.TheVariants.{Theory, Parent, Unparent, Const, AlterConst, Define, Undefine, Axiom, Rule, AlterRule, Proof, Line, Box, AlterLine, AlterBox, Move, Cite, Unjustify, DropUnit, DropConst, DropRule, DropProof, DropItem, Status, ShowUnit, ShowRule, ShowProof}
use Rattle.mu_command.specs.declared.parts.Keyword.TheVariants.{In, To}
use Rattle.mu_command.specs.declared.parts.Part.{Part}
use Rattle.mu_command.specs.declared.parts.Part.TheVariants as part
use Rattle.mu_command.specs.declared.parts.Field.{Field}
use Rattle.mu_command.specs.declared.parts.Field.TheVariants as field
use Rattle.mu_command.specs.Parts.{Value, said, trees_in, StandsPart}

-- the parts that follow the words of a form
abbrev pub row : Form → List Part
row Theory = part.Plain ∷ []
row Parent = part.Plain ∷ part.Name ∷ []
row Unparent = part.Plain ∷ part.Name ∷ []
row Const = part.Plain ∷ part.Declaration ∷ []
row AlterConst = part.Declaration ∷ []
row Define = part.Plain ∷ part.Formals ∷ part.Sign Eq ∷ part.Tree ∷ []
row Undefine = part.Plain ∷ []
row Axiom = part.Plain ∷ part.Plain ∷ part.Sign Colon ∷ part.Claim ∷ []
row Rule = part.Plain ∷ part.Plain ∷ part.Sign Colon ∷ part.Claim ∷ []
row AlterRule = part.Plain ∷ part.Sign Colon ∷ part.Claim ∷ []
row Proof = part.Name ∷ part.Plain ∷ []
row Line = part.Name ∷ part.Plain ∷ part.Plain ∷ part.Word In ∷ part.Name ∷ part.Before ∷ part.Sign Colon ∷ part.Tree ∷ []
row Box = part.Name ∷ part.Plain ∷ part.Plain ∷ part.Word In ∷ part.Name ∷ part.Before ∷ part.Sign Colon ∷ part.Block ∷ []
row AlterLine = part.Name ∷ part.Plain ∷ part.Plain ∷ part.Sign Colon ∷ part.Tree ∷ []
row AlterBox = part.Name ∷ part.Plain ∷ part.Plain ∷ part.Sign Colon ∷ part.Block ∷ []
row Move = part.Name ∷ part.Plain ∷ part.Plain ∷ part.Word To ∷ part.Name ∷ part.Before ∷ []
row Cite = part.Name ∷ part.Plain ∷ part.Plain ∷ part.Sign Colon ∷ part.Reason ∷ []
row Unjustify = part.Name ∷ part.Plain ∷ part.Plain ∷ []
row DropUnit = part.Plain ∷ []
row DropConst = part.Plain ∷ []
row DropRule = part.Plain ∷ []
row DropProof = part.Name ∷ part.Plain ∷ []
row DropItem = part.Name ∷ part.Plain ∷ part.Plain ∷ []
row Status = part.Name ∷ []
row ShowUnit = part.Name ∷ []
row ShowRule = part.Name ∷ []
row ShowProof = part.Name ∷ part.Name ∷ []

-- a command taken apart: its form, and what its parts say, in order
abbrev pub apart : Command → Form × List Field
apart (command.Theory u) = (Theory, field.Name u ∷ [])
apart (command.Parent u p) = (Parent, field.Name u ∷ field.Name p ∷ [])
apart (command.Unparent u p) = (Unparent, field.Name u ∷ field.Name p ∷ [])
apart (command.Const u c shape result) = (Const, field.Name u ∷ field.Declaration (declaring c shape result) ∷ [])
apart (command.AlterConst c shape result) = (AlterConst, field.Declaration (declaring c shape result) ∷ [])
apart (command.Define c definition) = (Define, field.Name c ∷ field.Formals definition.params ∷ field.Tree definition.body ∷ [])
apart (command.Undefine c) = (Undefine, field.Name c ∷ [])
apart (command.Axiom u r claim) = (Axiom, field.Name u ∷ field.Name r ∷ field.Claim claim ∷ [])
apart (command.Rule u r claim) = (Rule, field.Name u ∷ field.Name r ∷ field.Claim claim ∷ [])
apart (command.AlterRule r claim) = (AlterRule, field.Name r ∷ field.Claim claim ∷ [])
apart (command.Proof r p) = (Proof, field.Name r ∷ field.Name p ∷ [])
apart (command.Line r p l b x tree) = (Line, field.Name r ∷ field.Name p ∷ field.Name l ∷ field.Name b ∷ field.Before x ∷ field.Tree tree ∷ [])
apart (command.Box r p l b x vars assumptions) = (Box, field.Name r ∷ field.Name p ∷ field.Name l ∷ field.Name b ∷ field.Before x ∷ field.Block vars assumptions ∷ [])
apart (command.AlterLine r p l tree) = (AlterLine, field.Name r ∷ field.Name p ∷ field.Name l ∷ field.Tree tree ∷ [])
apart (command.AlterBox r p l vars assumptions) = (AlterBox, field.Name r ∷ field.Name p ∷ field.Name l ∷ field.Block vars assumptions ∷ [])
apart (command.Move r p l b x) = (Move, field.Name r ∷ field.Name p ∷ field.Name l ∷ field.Name b ∷ field.Before x ∷ [])
apart (command.Cite r p l why) = (Cite, field.Name r ∷ field.Name p ∷ field.Name l ∷ field.Reason why ∷ [])
apart (command.Unjustify r p l) = (Unjustify, field.Name r ∷ field.Name p ∷ field.Name l ∷ [])
apart (command.DropUnit u) = (DropUnit, field.Name u ∷ [])
apart (command.DropConst c) = (DropConst, field.Name c ∷ [])
apart (command.DropRule r) = (DropRule, field.Name r ∷ [])
apart (command.DropProof r p) = (DropProof, field.Name r ∷ field.Name p ∷ [])
apart (command.DropItem r p l) = (DropItem, field.Name r ∷ field.Name p ∷ field.Name l ∷ [])
apart (command.Status r) = (Status, field.Name r ∷ [])
apart (command.ShowUnit u) = (ShowUnit, field.Name u ∷ [])
apart (command.ShowRule r) = (ShowRule, field.Name r ∷ [])
apart (command.ShowProof r p) = (ShowProof, field.Name r ∷ field.Name p ∷ [])

-- the form of a command
abbrev pub form_of : Command → Form
form_of c = (apart c).0

-- what the parts of a command say, in order
abbrev pub fields_of : Command → List Field
fields_of c = (apart c).1

-- a field in front, where there is one
abbrev pub with_first : Option Field → List Field → List Field
with_first None fields = fields
with_first (Some first) fields = first ∷ fields

-- what the spelled values of some parts say
abbrev pub said_by : (parts : List Part) → Values Value parts → List Field
said_by [] v = []
said_by (each ∷ parts) v = with_first (said each v.0) (said_by parts v.1)

-- the trees in the spelled values of some parts
abbrev pub trees_of : (parts : List Part) → Values Value parts → List Writing
trees_of [] v = []
trees_of (each ∷ parts) v = trees_in each v.0 ++ trees_of parts v.1

-- the fields stand, one by one, for the spelled values of the parts that say something
abbrev pub StandsRow : (parts : List Part) → Values Value parts → List Field → Type 0
StandsRow [] v fields = fields ≡ []
StandsRow (each ∷ parts) v fields = (first : Option Field) × (others : List Field) × (fields ≡ with_first first others) × StandsPart each v.0 first × StandsRow parts v.1 others
