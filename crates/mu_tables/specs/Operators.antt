-- Operators: how they are found, and their order.
use Rattle.std.specs.Prelude.{ℕ, List, [], ◌∷◌, Option, Some, None, if◌then◌else◌, Bool, true, ◌&&◌, not, map}
use Rattle.std.specs.List.{list_any}
use Rattle.std.specs.Str.{bytes_eq}
use Rattle.mu_tables.specs.declared.ops.Op.{Op}
use Rattle.mu_tables.specs.declared.ops.Side.{Side}
use Rattle.mu_tables.specs.Words.{rise}

-- an operator as it is written down: its text, its constant, its level and its side
pub record Written : Type 0 where
  pub text : List ℕ
  pub constant : List ℕ
  pub level : ℕ
  pub side : Side

-- the operators of the rows, as they are written down
abbrev pub written : List Op → List Written
written rows = map (λ op. record { text = op.text.now; constant = op.constant.now; level = op.level; side = op.side }) rows

-- the first row with the text
abbrev pub row_by_text : List ℕ → List Op → Option Op
row_by_text text [] = None
row_by_text text (row ∷ rows) = if bytes_eq row.text.now text then Some row else row_by_text text rows

-- the first row with the constant
abbrev pub row_by_constant : List ℕ → List Op → Option Op
row_by_constant name [] = None
row_by_constant name (row ∷ rows) = if bytes_eq row.constant.now name then Some row else row_by_constant name rows

-- no text stands twice
abbrev pub texts_differ : List (List ℕ) → Bool
texts_differ [] = true
texts_differ (t ∷ ts) = not (list_any (λ u. bytes_eq u t) ts) && texts_differ ts

-- the texts rise, and no constant stands twice
abbrev pub are_operators : List Op → Bool
are_operators rows = rise (map (λ op. op.text.now) rows) && texts_differ (map (λ op. op.constant.now) rows)
