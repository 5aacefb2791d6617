use Rattle.std.proofs.Common.{◌≡◌, ◌++◌, take, drop}
use Rattle.mu_decl.specs.Claims.{names_of}
use Rattle.mu_check.specs.Facts.{types_under}
use Rattle.mu_check.proofs.facts.types_under.Given as goal

abbrev pub invariant-loop-var : goal.invariant-loop-var
invariant-loop-var l = record {
  types : types_under l.scope l.initial.bound l.vars ≡ l.types ++ types_under l.scope l.bound (drop l.var-index l.vars);
  bound : l.bound ≡ l.initial.bound ++ names_of (take l.var-index l.vars);
}
