use Rattle.std.proofs.Common.{◌≡◌, drop}
use Rattle.std.specs.FinMap as finite
use Rattle.mu_decl.specs.Arities.{agree_in_turn}
use Rattle.mu_decl.proofs.arities.occurrences_agree.Given as goal

abbrev pub invariant-loop-one : goal.invariant-loop-one
invariant-loop-one l = agree_in_turn finite.empty l.all ≡ agree_in_turn l.known (drop l.one-index l.all)
