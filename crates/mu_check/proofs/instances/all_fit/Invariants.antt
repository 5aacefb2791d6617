use Rattle.std.proofs.Common.{◌≡◌, true, take}
use Rattle.std.specs.List.{list_all}
use Rattle.mu_check.specs.Instances.{fits}
use Rattle.mu_check.proofs.instances.all_fit.Given as goal

abbrev pub invariant-loop-each : goal.invariant-loop-each
invariant-loop-each g l = list_all (fits (g.C.Context.world l.context) l.allowed l.scope l.all) (take l.each-index l.given) ≡ true
