-- Which sorts of fields the parts of a form ask for.
use Rattle.std.specs.Prelude.{◌≡◌, List, [], ◌∷◌, Option, Some, None, map, take}
use Rattle.mu_command.specs.declared.parts.Part.{Part}
use Rattle.mu_command.specs.declared.parts.Part.TheVariants as part
use Rattle.mu_command.specs.declared.parts.Field.{Field}
use Rattle.mu_command.specs.declared.parts.Field.TheVariants as field

-- the sorts of fields
pub data Sort : Type 0 where
  name : Sort
  declaration : Sort
  formals : Sort
  before : Sort
  tree : Sort
  claim : Sort
  reason : Sort
  block : Sort

-- the sort of a field
abbrev pub sort_of : Field → Sort
sort_of (field.Name v) = name
sort_of (field.Declaration v) = declaration
sort_of (field.Formals v) = formals
sort_of (field.Before v) = before
sort_of (field.Tree v) = tree
sort_of (field.Claim v) = claim
sort_of (field.Reason v) = reason
sort_of (field.Block vars assumptions) = block

-- the sorts of some fields
unfoldable pub sorts_of : List Field → List Sort
sorts_of fields = map sort_of fields

-- the sorts that some parts ask for
abbrev pub asked : List Part → List Sort
asked [] = []
asked (part.Name ∷ parts) = name ∷ asked parts
asked (part.Plain ∷ parts) = name ∷ asked parts
asked (part.Word keyword ∷ parts) = asked parts
asked (part.Sign m ∷ parts) = asked parts
asked (part.Declaration ∷ parts) = declaration ∷ asked parts
asked (part.Formals ∷ parts) = formals ∷ asked parts
asked (part.Before ∷ parts) = before ∷ asked parts
asked (part.Tree ∷ parts) = tree ∷ asked parts
asked (part.Claim ∷ parts) = claim ∷ asked parts
asked (part.Reason ∷ parts) = reason ∷ asked parts
asked (part.Block ∷ parts) = block ∷ asked parts

-- the first of some sorts
abbrev pub first : List Sort → Option Sort
first [] = None
first (s ∷ sorts) = Some s

-- all sorts but the first
abbrev pub others : List Sort → List Sort
others [] = []
others (s ∷ sorts) = sorts

-- the first of some fields is of this sort
abbrev pub Begins : Sort → List Field → Type 0
Begins s fields = first (sorts_of fields) ≡ Some s

-- the first of some fields are those of an item of a proof: the names of a rule, a proof and the item
abbrev pub BeginsItem : List Field → Type 0
BeginsItem fields = take 3 (sorts_of fields) ≡ name ∷ name ∷ name ∷ []

-- the first of some fields are those of an item of a proof and of its place
abbrev pub BeginsPlaced : List Field → Type 0
BeginsPlaced fields = take 5 (sorts_of fields) ≡ name ∷ name ∷ name ∷ name ∷ before ∷ []
