use Rattle.std.proofs.Common.{◌≡◌, take}
use Rattle.mu_decl.proofs.binders.Binders.of.Given as goal

abbrev pub invariant-loop-name : goal.invariant-loop-name
invariant-loop-name l = l.binders ≡ take l.name-index l.names
