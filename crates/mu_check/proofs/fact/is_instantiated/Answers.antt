use Rattle.mu_check.specs.Facts.{instantiated_fact}
use Rattle.mu_check.proofs.SameLemmas.{equal_back}
use Rattle.mu_check.proofs.fact.is_instantiated.Goals as goal

pub returns : goal.returns
returns c = equal_back c.in_ok-yes.yes c.args.fact.now (instantiated_fact c.args.given.now c.args.stated.now) c.in_ok-yes.ensures
