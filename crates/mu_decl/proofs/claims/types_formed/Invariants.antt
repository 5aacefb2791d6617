use Rattle.std.proofs.Common.{◌≡◌, ◌++◌, take, drop, map}
use Rattle.mu_decl.specs.Formation.{expression}
use Rattle.mu_decl.specs.Claims.{names_of, types_formed}
use Rattle.mu_decl.proofs.claims.types_formed.Given as goal

abbrev pub invariant-loop-var : goal.invariant-loop-var
invariant-loop-var g l = record {
  formed : types_formed (g.C.Context.world l.context) l.seen (map expression l.scope ++ map expression l.initial.own) l.vars ≡ types_formed (g.C.Context.world l.context) l.seen (map expression l.scope ++ map expression l.own) (drop l.var-index l.vars);
  entered : l.own ≡ l.initial.own ++ names_of (take l.var-index l.vars);
}
