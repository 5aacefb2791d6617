use Rattle.std.proofs.Common.{◌≡◌, drop}
use Rattle.std.specs.Cmp.Lexicographic.{pointwise}
use Rattle.mu_check.specs.Hypotheses.{gives_this}
use Rattle.mu_check.proofs.hypotheses.all_give.Given as goal

abbrev pub invariant-loop-i : goal.invariant-loop-i
invariant-loop-i l = pointwise (gives_this l.environment) l.refs l.facts ≡ pointwise (gives_this l.environment) (drop l.i l.refs) (drop l.i l.facts)
