use Rattle.std.proofs.Common.{◌≡◌, ◌++◌, drop, map}
use Rattle.mu_decl.specs.Formation.{occurrences, spread}
use Rattle.mu_decl.proofs.occurring.+occurrences.Given as goal

abbrev pub invariant-spread-loop-i : goal.invariant-spread-loop-i
invariant-spread-loop-i g l = l.initial.found ++ spread l.kinds (map (occurrences (g.C.Context.world l.context)) l.trees) ≡ l.found ++ spread (drop l.i l.kinds) (map (occurrences (g.C.Context.world l.context)) (drop l.i l.trees))
