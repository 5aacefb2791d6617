-- The forms of commands, and the words that each begins with.
use Rattle.std.specs.Prelude.{ℕ, ◌==◌, List, [], ◌∷◌, Bool, Option, Some, option_and_then, find, ◌≡◌, map}
use Rattle.std.specs.List.{join_with_byte, slice_split}
use Rattle.mu_tables.specs.Words.{number_of, some_begins, text_of}
use Rattle.mu_tables.specs.Tables.{the_forms}
use Rattle.mu_grammar.specs.declared.symbol.Word.TheVariants.{Plain}
use Rattle.mu_grammar.specs.Lexemes.{Lexeme, word}
use Rattle.mu_grammar.specs.Parts.{Out}
use Rattle.mu_command.specs.Words.{read_words}
use Rattle.mu_command.specs.declared.forms.Form.{Form}
use Rattle.mu_command.specs.declared.forms.Form.TheVariants.{Theory, Parent, Unparent, Const, AlterConst, Define, Undefine, Axiom, Rule, AlterRule, Proof, Line, Box, AlterLine, AlterBox, Move, Cite, Unjustify, DropUnit, DropConst, DropRule, DropProof, DropItem, Status, ShowUnit, ShowRule, ShowProof}

-- the number of the form in the table of words
abbrev pub number : Form → ℕ
number Theory = 1
number Parent = 2
number Unparent = 3
number Const = 4
number AlterConst = 5
number Define = 6
number Undefine = 7
number Axiom = 8
number Rule = 9
number AlterRule = 10
number Proof = 11
number Line = 12
number Box = 13
number AlterLine = 14
number AlterBox = 15
number Move = 16
number Cite = 17
number Unjustify = 18
number DropUnit = 19
number DropConst = 20
number DropRule = 21
number DropProof = 22
number DropItem = 23
number Status = 24
number ShowUnit = 25
number ShowRule = 26
number ShowProof = 27

-- all forms
abbrev pub forms : List Form
forms =
    Theory
    ∷ Parent
    ∷ Unparent
    ∷ Const
    ∷ AlterConst
    ∷ Define
    ∷ Undefine
    ∷ Axiom
    ∷ Rule
    ∷ AlterRule
    ∷ Proof
    ∷ Line
    ∷ Box
    ∷ AlterLine
    ∷ AlterBox
    ∷ Move
    ∷ Cite
    ∷ Unjustify
    ∷ DropUnit
    ∷ DropConst
    ∷ DropRule
    ∷ DropProof
    ∷ DropItem
    ∷ Status
    ∷ ShowUnit
    ∷ ShowRule
    ∷ ShowProof
    ∷ []

-- the form of a number
abbrev pub numbered : ℕ → Option Form
numbered n = find (λ form. number form == n) forms

-- the form whose row in the table has the text
abbrev pub named : List ℕ → Option Form
named text = option_and_then numbered (number_of text the_forms)

-- whether the text of some form begins with these bytes
abbrev pub is_front : List ℕ → Bool
is_front front = some_begins front the_forms

-- the words of the form, which are the parts between the blanks in the text of its row
abbrev pub words : Form → List (List ℕ)
words form = slice_split (λ byte. byte == 32) (text_of (number form) the_forms)

-- with one blank between each two, the words of each form are the text of its row in the table
unfoldable pub FormsHaveWords : Type 0
FormsHaveWords = (form : Form) → number_of (join_with_byte 32 (words form)) the_forms ≡ Some (number form)

-- the tokens are the words of the form
abbrev pub FormWords : List Lexeme → Form → Type 0
FormWords ts form = ts ≡ map (word Plain) (words form)

-- reads the words of a form
unfoldable pub read_form : List Lexeme → Out Form
read_form ts = read_words named is_front [] ts
