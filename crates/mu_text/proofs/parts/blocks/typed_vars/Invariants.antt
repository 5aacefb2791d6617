use Rattle.std.proofs.Common.{length}
use Rattle.mu_grammar.specs.declared.symbol.Mark.TheVariants.{Comma}
use Rattle.mu_grammar.specs.Parts.{separated}
use Rattle.mu_grammar.specs.Blocks.{StandsTyped, trees_in_typed, read_typed}
use Rattle.mu_text.proofs.Excesses.{RaisingEach}
use Rattle.mu_text.proofs.Turns.{Turn}
use Rattle.mu_text.proofs.parts.blocks.typed_vars.Given as goal

abbrev pub invariant-loop-reader : goal.invariant-loop-reader
invariant-loop-reader l = Turn (RaisingEach StandsTyped trees_in_typed l.fn.excess) Comma read_typed (separated Comma read_typed l.fn.reader) l.reader (l.excess, l.vars)

abbrev pub decreases-loop-reader : goal.decreases-loop-reader
decreases-loop-reader l = length l.reader
