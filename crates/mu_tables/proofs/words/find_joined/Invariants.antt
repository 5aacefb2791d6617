use Rattle.std.proofs.Common.{◌≡◌, ◌++◌, drop}
use Rattle.mu_tables.specs.Words.{number_of, rows_of}
use Rattle.mu_tables.proofs.words.find_joined.Given as goal

abbrev pub invariant-loop-row : goal.invariant-loop-row
invariant-loop-row l = number_of (l.front ++ l.word) (rows_of (drop l.row-index l.rows)) ≡ number_of (l.front ++ l.word) (rows_of l.rows)
