use Rattle.std.proofs.Common.{◌≡◌, drop}
use Rattle.mu_tables.specs.Words.{number_of, rows_of}
use Rattle.mu_tables.proofs.words.find_number.Given as goal

abbrev pub invariant-loop-row : goal.invariant-loop-row
invariant-loop-row l = number_of l.text (rows_of (drop l.row-index l.rows)) ≡ number_of l.text (rows_of l.rows)
