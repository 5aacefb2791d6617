use Rattle.std.proofs.Common.{◌∙◌, sym}
use Rattle.mu_machine.proofs.Steps.{answers_query}
use Rattle.mu_machine.proofs.plans.plan_of.Goals as goal

pub returns-in-Some-clause-value : goal.returns-in-Some-clause-value
returns-in-Some-clause-value c = answers_query c.args.store.now c.args.room c.args.command.now c.in-Some.reply (sym c.in-Some.is ∙ c.in_ok-reply.ensures.value)
