-- The grammar's operators are those of the table of operators.
use Rattle.std.specs.Prelude.{◌≡◌, ℕ, List, [], ◌∷◌, Option, Some, None, if◌then◌else◌}
use Rattle.std.specs.Str.{bytes_eq}
use Rattle.mu_tables.specs.Operators.{Written}
use Rattle.mu_tables.specs.Tables.{the_operators}
use Rattle.mu_tables.specs.declared.ops.Side.{Side}
use Rattle.mu_tables.specs.declared.ops.Side.TheVariants.{Prefix}
use Rattle.mu_grammar.specs.declared.ops.Op.{Op}
use Rattle.mu_grammar.specs.declared.symbol.Mark.{Mark}
use Rattle.mu_grammar.specs.declared.symbol.Mark.TheVariants.{Not}
use Rattle.mu_grammar.specs.declared.symbol.Sort.TheVariants as sort
use Rattle.mu_grammar.specs.Ops.{row, operator_of, constant_of, prefix_level}
use Rattle.mu_grammar.specs.Spellings.{mark_text}

-- the row of the table that is written like this, if there is one
abbrev pub entry_in : List Written → List ℕ → Option Written
entry_in [] text = None
entry_in (entry ∷ entries) text = if bytes_eq entry.text text then Some entry else entry_in entries text

-- the row of the table whose text is the mark's
abbrev pub entry_of : Mark → Option Written
entry_of sign = entry_in the_operators (mark_text sign)

-- the operator between two operands that a row is: one whose side is no prefix
abbrev pub by_side : Mark → ℕ → Side → Option Op
by_side sign level Prefix = None
by_side sign level side = Some (row sign level side)

-- the operator between two operands that a mark is by the table
abbrev pub by_table : Mark → Option Written → Option Op
by_table sign None = None
by_table sign (Some entry) = by_side sign entry.level entry.side

-- a mark is an operator between two operands exactly where the table says so, with the table's level and side; and where it has a row, its constant is the row's
pub record AgreesWithTable (sign : Mark) : Type 0 where
  pub operator : operator_of (Some (sort.Mark sign)) ≡ by_table sign (entry_of sign)
  pub constant : (entry : Written) → entry_of sign ≡ Some entry → constant_of sign ≡ entry.constant

-- each mark is the operator that the table says, and `not` the prefix of its level
pub record OperatorsAgree : Type 0 where
  pub marks : (sign : Mark) → AgreesWithTable sign
  pub negation : (entry : Written) → entry_of Not ≡ Some entry → (entry.side ≡ Prefix) × (entry.level ≡ prefix_level)
