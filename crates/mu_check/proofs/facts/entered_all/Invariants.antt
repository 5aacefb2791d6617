use Rattle.std.proofs.Common.{◌≡◌, take, map}
use Rattle.mu_check.specs.Facts.{entered}
use Rattle.mu_check.proofs.facts.entered_all.Given as goal

abbrev pub invariant-loop-each : goal.invariant-loop-each
invariant-loop-each l = l.all ≡ map (entered l.scope) (take l.each-index l.given)
