use Rattle.std.proofs.Common.{take}
use Rattle.mu_decl.specs.Abstractions.{Locates}
use Rattle.mu_decl.proofs.abstractions.places_of.Given as goal

abbrev pub invariant-loop-i : goal.invariant-loop-i
invariant-loop-i l = Locates l.places l.given (take l.i l.given)
