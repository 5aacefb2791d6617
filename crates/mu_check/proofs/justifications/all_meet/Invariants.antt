use Rattle.std.proofs.Common.{◌≡◌, drop}
use Rattle.std.specs.Cmp.Lexicographic.{pointwise}
use Rattle.mu_check.specs.Causes.{meets}
use Rattle.mu_check.proofs.justifications.all_meet.Given as goal

abbrev pub invariant-loop-i : goal.invariant-loop-i
invariant-loop-i l = pointwise (meets l.environment l.given) l.refs l.hyps ≡ pointwise (meets l.environment l.given) (drop l.i l.refs) (drop l.i l.hyps)
