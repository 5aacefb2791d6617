use Rattle.std.proofs.Common.{◌≡◌, drop}
use Rattle.mu_tables.specs.Operators.{row_by_constant}
use Rattle.mu_tables.proofs.ops.find_constant.Given as goal

abbrev pub invariant-loop-row : goal.invariant-loop-row
invariant-loop-row l = row_by_constant l.name (drop l.row-index l.rows) ≡ row_by_constant l.name l.rows
