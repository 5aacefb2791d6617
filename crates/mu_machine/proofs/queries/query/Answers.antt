use Rattle.mu_machine.proofs.Commands.{asks_nothing}
use Rattle.mu_machine.proofs.queries.query.Goals as goal

pub returns-in_default-clause-value : goal.returns-in_default-clause-value
returns-in_default-clause-value c = asks_nothing c.args.store.now c.args.command.now c.in_default.not-Status c.in_default.not-ShowUnit c.in_default.not-ShowRule c.in_default.not-ShowProof
