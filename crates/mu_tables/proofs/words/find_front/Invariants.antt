use Rattle.std.proofs.Common.{◌≡◌, drop}
use Rattle.mu_tables.specs.Words.{lengthened, rows_of, some_begins}
use Rattle.mu_tables.proofs.words.find_front.Given as goal

abbrev pub invariant-loop-row : goal.invariant-loop-row
invariant-loop-row l = some_begins (lengthened l.front l.word) (rows_of (drop l.row-index l.rows)) ≡ some_begins (lengthened l.front l.word) (rows_of l.rows)
