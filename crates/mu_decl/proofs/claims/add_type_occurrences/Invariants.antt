use Rattle.std.proofs.Common.{◌≡◌, ◌++◌, take}
use Rattle.std.specs.List.{flat_map}
use Rattle.mu_decl.specs.Claims.{type_occurrences}
use Rattle.mu_decl.proofs.claims.add_type_occurrences.Given as goal

abbrev pub invariant-loop-var : goal.invariant-loop-var
invariant-loop-var g l = l.found ≡ l.initial.found ++ flat_map (type_occurrences (g.C.Context.world l.context)) (take l.var-index l.vars)
