use Rattle.std.proofs.Common.{length}
use Rattle.mu_grammar.specs.declared.excess.Excess.{Excess}
use Rattle.mu_grammar.specs.declared.symbol.Mark.TheVariants.{Semicolon}
use Rattle.mu_grammar.specs.Claims.{Hypothesis, StandsHypothesis, trees_in_hypothesis, read_hypothesis, read_hypotheses}
use Rattle.mu_grammar.specs.Excesses.{Raising}
use Rattle.mu_text.proofs.Excesses.{RaisingEach}
use Rattle.mu_text.proofs.Turns.{Turn}
use Rattle.mu_text.proofs.parts.claims.hypotheses.Given as goal

abbrev pub invariant-loop-reader : goal.invariant-loop-reader
invariant-loop-reader l =
    (h : Hypothesis) (start : Excess) → Raising StandsHypothesis trees_in_hypothesis start l.fn.excess h l.fn.first
    → Turn (RaisingEach StandsHypothesis trees_in_hypothesis start) Semicolon read_hypothesis (read_hypotheses h l.fn.reader) l.reader (l.excess, l.hyps)

abbrev pub decreases-loop-reader : goal.decreases-loop-reader
decreases-loop-reader l = length l.reader
