use Rattle.std.proofs.Common.{◌≡◌, length}
use Rattle.mu_decl.proofs.pairing.placeholders.Given as goal

abbrev pub invariant-loop-made : goal.invariant-loop-made
invariant-loop-made l = length l.trees ≡ l.made
