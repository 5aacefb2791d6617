use Rattle.std.proofs.Common.{length}
use Rattle.mu_grammar.specs.declared.symbol.Mark.TheVariants.{Comma}
use Rattle.mu_grammar.specs.Parts.{StandsEach, separated}
use Rattle.mu_grammar.specs.SimpleParts.{StandsName, read_var}
use Rattle.mu_text.proofs.Turns.{Turn}
use Rattle.mu_text.proofs.parts.vars.Given as goal

abbrev pub invariant-loop-reader : goal.invariant-loop-reader
invariant-loop-reader l = Turn (StandsEach StandsName) Comma read_var (separated Comma read_var l.fn.reader) l.reader l.names

abbrev pub decreases-loop-reader : goal.decreases-loop-reader
decreases-loop-reader l = length l.reader
