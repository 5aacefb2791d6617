-- The parts of one token: how each is spelled, and what reads it.
use Rattle.std.specs.Prelude.{◌≡◌, ℕ, ◌+◌, ◌-◌, ◌*◌, Bool, false, ◌&&◌, if◌then◌else◌, nat_le, List, [], ◌∷◌, length, Option, Some, None, codes}
use Rattle.std.specs.Bool.{nat_eq}
use Rattle.std.specs.List.{list_all}
use Rattle.std.specs.Cmp.Lexicographic.{pointwise}
use Rattle.mu_tree.specs.Names.{IsName, is_digit}
use Rattle.mu_tree.specs.declared.claim.Kind.{Kind}
use Rattle.mu_tree.specs.declared.claim.Kind.TheVariants as kind
use Rattle.mu_grammar.specs.declared.symbol.Word.TheVariants.{Plain, Dotted, True, Meta, Place}
use Rattle.mu_grammar.specs.declared.symbol.Mark.{Mark}
use Rattle.mu_grammar.specs.declared.symbol.Mark.TheVariants.{And, Or, Not, Comma}
use Rattle.mu_grammar.specs.Lexemes.{Lexeme, word, mark}
use Rattle.mu_grammar.specs.Marks.{is_mark}
use Rattle.mu_grammar.specs.Reading.{starts_positive}
use Rattle.mu_grammar.specs.Parts.{Out, OneToken, token, Separated, separated}

-- the bytes of a name of one segment; an operator's word and `true` are such names too
abbrev pub plain_name_of : Lexeme → Option (List ℕ)
plain_name_of (word Plain text) = Some text
plain_name_of (word True text) = Some text
plain_name_of (mark And) = Some (codes "and")
plain_name_of (mark Or) = Some (codes "or")
plain_name_of (mark Not) = Some (codes "not")
plain_name_of _ = None

-- the bytes of a name
abbrev pub name_of : Lexeme → Option (List ℕ)
name_of (word Dotted text) = Some text
name_of T = plain_name_of T

-- the bytes of a variable: a name of one segment that is no operator's word and not `true`
abbrev pub var_of : Lexeme → Option (List ℕ)
var_of (word Plain text) = Some text
var_of _ = None

-- the segment of a metavariable
abbrev pub meta_of : Lexeme → Option (List ℕ)
meta_of (word Meta text) = Some text
meta_of _ = None

-- one to nine digits, the first not 0
abbrev pub is_number : List ℕ → Bool
is_number text = starts_positive text && list_all is_digit text && nat_le (length text) 9

-- the number that digits spell behind those of n
abbrev pub number_from : ℕ → List ℕ → ℕ
number_from n [] = n
number_from n (digit ∷ digits) = number_from (n * 10 + (digit - 48)) digits

-- the number that the digits spell
abbrev pub number_of : List ℕ → Option ℕ
number_of text = if is_number text then Some (number_from 0 text) else None

-- the number of a place
abbrev pub place_of : Lexeme → Option ℕ
place_of (word Place text) = number_of text
place_of _ = None

-- the value where the test holds
abbrev pub where_true : {A : Type 0} → Bool → A → Option A
where_true test x = if test then Some x else None

-- whether a name is there, with these bytes
abbrev pub has_bytes : List ℕ → Option (List ℕ) → Bool
has_bytes text None = false
has_bytes text (Some name) = pointwise nat_eq name text

-- whether the token is the name with these bytes
abbrev pub is_word : List ℕ → Lexeme → Bool
is_word text T = has_bytes text (name_of T)

-- the given word
abbrev pub word_of : List ℕ → Lexeme → Option (Unit {0})
word_of text T = where_true (is_word text T) tt

-- the given mark
abbrev pub mark_of : Mark → Lexeme → Option (Unit {0})
mark_of sign T = where_true (is_mark sign T) tt

-- the value of the first test that holds
abbrev pub where_either : {A : Type 0} → Bool → A → Bool → A → Option A
where_either first x second y = if first then Some x else where_true second y

-- a kind: `e` is an element, and `t` a type
abbrev pub kind_of : Lexeme → Option Kind
kind_of T = where_either (is_word (codes "e") T) kind.E (is_word (codes "t") T) kind.T

-- a name of one segment, as a label is, with its bytes
abbrev pub PlainName : List Lexeme → List ℕ → Type 0
PlainName ts text = OneToken plain_name_of ts text

-- a name, with its bytes
abbrev pub AnyName : List Lexeme → List ℕ → Type 0
AnyName ts text = OneToken name_of ts text

-- a variable, with its bytes
abbrev pub VarName : List Lexeme → List ℕ → Type 0
VarName ts text = OneToken var_of ts text

-- a metavariable, with its segment
abbrev pub MetaName : List Lexeme → List ℕ → Type 0
MetaName ts text = OneToken meta_of ts text

-- a place, with its number
abbrev pub PlaceNumber : List Lexeme → ℕ → Type 0
PlaceNumber ts n = OneToken place_of ts n

-- the given word
abbrev pub GivenWord : List ℕ → List Lexeme → Unit {0} → Type 0
GivenWord text ts x = (T : Lexeme) × (ts ≡ T ∷ []) × (name_of T ≡ Some text)

-- the given mark
abbrev pub GivenMark : Mark → List Lexeme → Unit {0} → Type 0
GivenMark sign ts x = ts ≡ mark sign ∷ []

-- a kind
abbrev pub OneKind : List Lexeme → Kind → Type 0
OneKind ts kind.E = GivenWord (codes "e") ts tt
OneKind ts kind.T = GivenWord (codes "t") ts tt

-- kinds between commas, at least one
abbrev pub SomeKinds : List Lexeme → List Kind → Type 0
SomeKinds ts kinds = Separated Comma OneKind ts kinds

-- variables between commas, at least one
abbrev pub SomeVars : List Lexeme → List (List ℕ) → Type 0
SomeVars ts names = Separated Comma VarName ts names

-- a name is kept as it is spelled; where it is past its limit some other name stands for it
abbrev pub StandsName : List ℕ → List ℕ → Type 0
StandsName text name = IsName text → name ≡ text

-- reads a name of one segment
unfoldable pub read_plain_name : List Lexeme → Out (List ℕ)
read_plain_name ts = token plain_name_of ts

-- reads a name
unfoldable pub read_name : List Lexeme → Out (List ℕ)
read_name ts = token name_of ts

-- reads a variable
unfoldable pub read_var : List Lexeme → Out (List ℕ)
read_var ts = token var_of ts

-- reads a metavariable
unfoldable pub read_meta : List Lexeme → Out (List ℕ)
read_meta ts = token meta_of ts

-- reads a place
unfoldable pub read_place : List Lexeme → Out ℕ
read_place ts = token place_of ts

-- reads the given word
unfoldable pub read_word : List ℕ → List Lexeme → Out (Unit {0})
read_word text ts = token (word_of text) ts

-- reads the given mark
unfoldable pub read_mark : Mark → List Lexeme → Out (Unit {0})
read_mark sign ts = token (mark_of sign) ts

-- reads a kind
unfoldable pub read_kind : List Lexeme → Out Kind
read_kind ts = token kind_of ts

-- reads kinds between commas
unfoldable pub read_kinds : List Lexeme → Out (List Kind)
read_kinds ts = separated Comma read_kind ts

-- reads variables between commas
unfoldable pub read_vars : List Lexeme → Out (List (List ℕ))
read_vars ts = separated Comma read_var ts
