use Rattle.std.proofs.Common.{◌≡◌, true, take}
use Rattle.std.specs.List.{list_all}
use Rattle.mu_decl.specs.Claims.{hypothesis_formed}
use Rattle.mu_decl.proofs.claims.hypotheses_formed.Given as goal

abbrev pub invariant-loop-hypothesis : goal.invariant-loop-hypothesis
invariant-loop-hypothesis g l = list_all (hypothesis_formed (g.C.Context.world l.context) l.seen) (take l.hypothesis-index l.hypotheses) ≡ true
