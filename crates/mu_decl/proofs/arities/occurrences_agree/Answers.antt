use Rattle.std.proofs.Common.{◌≡◌, ◌∙◌, true, false, arith}
use Rattle.std.proofs.lemmas.Grind.{common_steps}
use Rattle.std.specs.FinMap as finite
use Rattle.mu_decl.specs.Arities.{agree_in_turn}
use Rattle.mu_decl.proofs.Agreement.{agreement_in_turn}
use Rattle.mu_decl.proofs.arities.occurrences_agree.Goals as goal

pub returns-then-not-has_arity : goal.returns-then-not-has_arity
returns-then-not-has_arity c = let stop : false ≡ agree_in_turn finite.empty c.args.all.now = grind (arith, common_steps) in stop ∙ agreement_in_turn c.args.all.now

pub returns : goal.returns
returns c = let end : true ≡ agree_in_turn finite.empty c.args.all.now = grind (arith, common_steps) in end ∙ agreement_in_turn c.args.all.now
