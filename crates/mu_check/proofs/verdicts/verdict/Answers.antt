-- What is made ready for a rule stays so.
use Rattle.std.proofs.Common.{subst}
use Rattle.mu_check.specs.Goals.{IsGoalOf}
use Rattle.mu_check.proofs.GoalLemmas.{keeps_goal}
use Rattle.mu_check.proofs.verdicts.verdict.Goals as goal

pub returns-in_ok-found-in-Some-clause-kept : goal.returns-in_ok-found-in-Some-clause-kept
returns-in_ok-found-in-Some-clause-kept g c =
    let w = g.C.Context.world c.args.context.now in
    keeps_goal w c.args.rule.now c.in-Some.goal c.goal_fault.new.goal (subst (IsGoalOf w c.args.rule.now) c.in-Some.is c.requires) c.in_ok-found-in-Some.ensures.kept
