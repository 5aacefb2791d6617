use Rattle.std.proofs.Common.{◌≡◌, ◌++◌, [], drop}
use Rattle.mu_check.specs.Hypotheses.{term_typings}
use Rattle.mu_check.proofs.hypotheses.term_typings.Given as goal

abbrev pub invariant-loop-i : goal.invariant-loop-i
invariant-loop-i l = term_typings [] l.terms l.types ≡ l.facts ++ term_typings l.before (drop l.i l.terms) (drop l.i l.types)
