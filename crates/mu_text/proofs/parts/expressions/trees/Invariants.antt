use Rattle.std.proofs.Common.{length}
use Rattle.mu_grammar.specs.declared.symbol.Mark.TheVariants.{Comma}
use Rattle.mu_grammar.specs.Parts.{separated}
use Rattle.mu_grammar.specs.Trees.{read_tree}
use Rattle.mu_grammar.specs.Excesses.{StandsTree, one_tree}
use Rattle.mu_text.proofs.Excesses.{RaisingEach}
use Rattle.mu_text.proofs.Turns.{Turn}
use Rattle.mu_text.proofs.parts.expressions.trees.Given as goal

abbrev pub invariant-loop-reader : goal.invariant-loop-reader
invariant-loop-reader l = Turn (RaisingEach StandsTree one_tree l.fn.excess) Comma read_tree (separated Comma read_tree l.fn.reader) l.reader (l.excess, l.read)

abbrev pub decreases-loop-reader : goal.decreases-loop-reader
decreases-loop-reader l = length l.reader
