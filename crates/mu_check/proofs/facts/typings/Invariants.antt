use Rattle.std.proofs.Common.{◌≡◌, ◌++◌, take, drop}
use Rattle.mu_decl.specs.Claims.{names_of}
use Rattle.mu_check.specs.Facts.{typings}
use Rattle.mu_check.proofs.facts.typings.Given as goal

abbrev pub invariant-loop-var : goal.invariant-loop-var
invariant-loop-var l = record {
  facts : typings l.initial.scope l.vars ≡ l.facts ++ typings l.scope (drop l.var-index l.vars);
  scope : l.scope ≡ l.initial.scope ++ names_of (take l.var-index l.vars);
}
