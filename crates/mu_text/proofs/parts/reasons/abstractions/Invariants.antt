use Rattle.std.proofs.Common.{length}
use Rattle.mu_grammar.specs.declared.symbol.Mark.TheVariants.{Semicolon}
use Rattle.mu_grammar.specs.Parts.{separated}
use Rattle.mu_grammar.specs.Reasons.{StandsAbstraction, trees_in_abstraction, read_abstraction}
use Rattle.mu_text.proofs.Excesses.{RaisingEach}
use Rattle.mu_text.proofs.Turns.{Turn}
use Rattle.mu_text.proofs.parts.reasons.abstractions.Given as goal

abbrev pub invariant-loop-reader : goal.invariant-loop-reader
invariant-loop-reader l =
    Turn (RaisingEach StandsAbstraction trees_in_abstraction l.fn.excess) Semicolon read_abstraction (separated Semicolon read_abstraction l.fn.reader) l.reader (l.excess, l.inst)

abbrev pub decreases-loop-reader : goal.decreases-loop-reader
decreases-loop-reader l = length l.reader
