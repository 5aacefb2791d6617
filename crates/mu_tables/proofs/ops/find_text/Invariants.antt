use Rattle.std.proofs.Common.{◌≡◌, drop}
use Rattle.mu_tables.specs.Operators.{row_by_text}
use Rattle.mu_tables.proofs.ops.find_text.Given as goal

abbrev pub invariant-loop-row : goal.invariant-loop-row
invariant-loop-row l = row_by_text l.text (drop l.row-index l.rows) ≡ row_by_text l.text l.rows
