use Rattle.std.proofs.Common.{◌≡◌, ◌+◌, length}
use Rattle.mu_grammar.specs.Tokens.{run_length as run_length_of}
use Rattle.mu_text.proofs.tokens.lexer.run_length.Given as goal

abbrev pub invariant-loop-rest : goal.invariant-loop-rest
invariant-loop-rest l = record { runs : l.count + run_length_of l.rest ≡ run_length_of l.text; counts : l.count + length l.rest ≡ length l.text }

abbrev pub decreases-loop-rest : goal.decreases-loop-rest
decreases-loop-rest l = length l.rest
