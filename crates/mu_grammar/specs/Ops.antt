-- The operators: the token, the constant, the level and the side of each.
use Rattle.std.specs.Prelude.{ℕ, ◌+◌, Bool, List, [], ◌∷◌, Option, Some, None, codes, find}
use Rattle.std.specs.Str.{bytes_eq}
use Rattle.mu_grammar.specs.declared.ops.Op.{Op}
use Rattle.mu_tables.specs.declared.ops.Side.{Side}
use Rattle.mu_tables.specs.declared.ops.Side.TheVariants.{Neither, Left, Right}
use Rattle.mu_grammar.specs.declared.symbol.Mark.{Mark}
use Rattle.mu_grammar.specs.declared.symbol.Mark.TheVariants.{And, Or, Not, Iff, Imp, Eq, Colon}
use Rattle.mu_grammar.specs.declared.symbol.Sort.{Sort}
use Rattle.mu_grammar.specs.declared.symbol.Sort.TheVariants as sort
use Rattle.mu_grammar.specs.Lexemes.{Lexeme, sort_of}

-- the least level of the left operand: above the operator's, but for one whose side is the left
abbrev pub left_of : ℕ → Side → ℕ
left_of level Left = level
left_of level _ = level + 1

-- the least level of the right operand
abbrev pub right_of : ℕ → Side → ℕ
right_of level Right = level
right_of level _ = level + 1

-- one whose side is the right opens a level of nesting, until its right operand ends
abbrev pub opens_of : Side → ℕ
opens_of Right = 1
opens_of _ = 0

-- an operator by its row
abbrev pub row : Mark → ℕ → Side → Op
row sign level side = record { mark = sign; level = level; left = left_of level side; right = right_of level side; opens = opens_of side }

-- the operator between two operands that a token is, if it is one
abbrev pub operator_of : Option Sort → Option Op
operator_of (Some (sort.Mark Iff)) = Some (row Iff 1 Neither)
operator_of (Some (sort.Mark Imp)) = Some (row Imp 2 Right)
operator_of (Some (sort.Mark Or)) = Some (row Or 3 Left)
operator_of (Some (sort.Mark And)) = Some (row And 4 Left)
operator_of (Some (sort.Mark Eq)) = Some (row Eq 6 Neither)
operator_of (Some (sort.Mark Colon)) = Some (row Colon 6 Neither)
operator_of _ = None

-- the same of a token
abbrev pub binary : Lexeme → Option Op
binary item = operator_of (Some (sort_of item))

-- the constant that an operator stands for
abbrev pub constant_of : Mark → List ℕ
constant_of Iff = codes "iff"
constant_of Imp = codes "imp"
constant_of Or = codes "or"
constant_of And = codes "and"
constant_of Not = codes "not"
constant_of Eq = codes "eq"
constant_of _ = codes "typing"

-- the level of `not`, whose operand may have the same
abbrev pub prefix_level : ℕ
prefix_level = 5

-- the level of an atom
abbrev pub atom_level : ℕ
atom_level = 7

-- the marks of the operators between two operands
abbrev pub infix_marks : List Mark
infix_marks = Iff ∷ Imp ∷ Or ∷ And ∷ Eq ∷ Colon ∷ []

-- the first of them that stands for the constant
abbrev pub mark_named : List ℕ → Option Mark
mark_named name = find (λ sign. bytes_eq (constant_of sign) name) infix_marks

-- the operator of a mark, where there is one
abbrev pub operator_at : Option Mark → Option Op
operator_at None = None
operator_at (Some sign) = operator_of (Some (sort.Mark sign))

-- the operator between two operands that a constant stands for, if it is an operator's
abbrev pub operator_named : List ℕ → Option Op
operator_named name = operator_at (mark_named name)

-- the constant stands for `not`
abbrev pub is_negation : List ℕ → Bool
is_negation name = bytes_eq (constant_of Not) name
