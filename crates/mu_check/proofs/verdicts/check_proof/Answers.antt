-- The laws of verdicts, whatever the answer is.
use Rattle.mu_check.proofs.Judging.{verdicts_are_exact, found_right}
use Rattle.mu_check.proofs.Testing.{verdicts_are_by_place, citations_are_by_place}
use Rattle.mu_check.proofs.verdicts.check_proof.Goals as goal

pub returns-in_err-goal-clause-exact : goal.returns-in_err-goal-clause-exact
returns-in_err-goal-clause-exact g c = verdicts_are_exact

pub returns-in_err-goal-clause-placed : goal.returns-in_err-goal-clause-placed
returns-in_err-goal-clause-placed g c = verdicts_are_by_place

pub returns-in_err-goal-clause-cited : goal.returns-in_err-goal-clause-cited
returns-in_err-goal-clause-cited g c = citations_are_by_place

pub returns-clause-exact : goal.returns-clause-exact
returns-clause-exact g c = verdicts_are_exact

pub returns-clause-placed : goal.returns-clause-placed
returns-clause-placed g c = verdicts_are_by_place

pub returns-clause-cited : goal.returns-clause-cited
returns-clause-cited g c = citations_are_by_place

pub returns-clause-right : goal.returns-clause-right
returns-clause-right g c = found_right (g.C.Context.world c.args.context.now) c.args.rule.now c.items.result.now c.args.proof.now c.items.ensures.all c.items.ensures.proof.distinct c.verdict.result c.verdict.ensures.verdict
