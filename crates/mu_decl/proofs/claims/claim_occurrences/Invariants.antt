use Rattle.std.proofs.Common.{◌≡◌, take}
use Rattle.std.specs.List.{flat_map}
use Rattle.mu_decl.specs.Claims.{hypothesis_occurrences}
use Rattle.mu_decl.proofs.claims.claim_occurrences.Given as goal

abbrev pub invariant-loop-hypothesis : goal.invariant-loop-hypothesis
invariant-loop-hypothesis g l = l.found ≡ flat_map (hypothesis_occurrences (g.C.Context.world l.context)) (take l.hypothesis-index l.hypothesis-items)
