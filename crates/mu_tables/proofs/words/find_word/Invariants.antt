use Rattle.std.proofs.Common.{◌≡◌, drop}
use Rattle.mu_tables.specs.Words.{word_of}
use Rattle.mu_tables.proofs.words.find_word.Given as goal

abbrev pub invariant-loop-row : goal.invariant-loop-row
invariant-loop-row l = word_of l.number (drop l.row-index l.rows) ≡ word_of l.number l.rows
