use Rattle.std.proofs.Common.{subst, sym}
use Rattle.mu_check.specs.Goals.{IsGoal}
use Rattle.mu_check.proofs.GoalLemmas.{made_ready}
use Rattle.mu_check.proofs.verdicts.goal_of.Goals as goal

pub returns-in_ok-goal-in-Some : goal.returns-in_ok-goal-in-Some
returns-in_ok-goal-in-Some g c =
    subst (IsGoal (g.C.Context.world c.args.context.now) c.args.rule.now) (sym c.in_ok-goal-in-Some.ensures)
    (made_ready (g.C.Context.world c.args.context.now) c.args.rule.now c.in-Some.statement.now (sym c.in-Some.ensures))
