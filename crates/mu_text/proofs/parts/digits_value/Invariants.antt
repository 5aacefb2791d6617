use Rattle.std.proofs.Common.{◌≡◌, length}
use Rattle.mu_grammar.specs.SimpleParts.{number_from}
use Rattle.mu_grammar.proofs.Digits.{Room}
use Rattle.mu_text.proofs.parts.digits_value.Given as goal

abbrev pub invariant-loop-digit : goal.invariant-loop-digit
invariant-loop-digit l = record { same : number_from l.value l.rest ≡ number_from 0 l.text; room : Room l.value l.rest }

abbrev pub decreases-loop-digit : goal.decreases-loop-digit
decreases-loop-digit l = length l.rest
