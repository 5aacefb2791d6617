use Rattle.std.proofs.Common.{length}
use Rattle.mu_grammar.specs.declared.symbol.Mark.TheVariants.{Comma}
use Rattle.mu_grammar.specs.Parts.{Same, StandsEach, separated}
use Rattle.mu_grammar.specs.SimpleParts.{read_kind}
use Rattle.mu_text.proofs.Turns.{Turn}
use Rattle.mu_text.proofs.parts.kinds.Given as goal

abbrev pub invariant-loop-reader : goal.invariant-loop-reader
invariant-loop-reader l = Turn (StandsEach Same) Comma read_kind (separated Comma read_kind l.fn.reader) l.reader l.kinds

abbrev pub decreases-loop-reader : goal.decreases-loop-reader
decreases-loop-reader l = length l.reader
