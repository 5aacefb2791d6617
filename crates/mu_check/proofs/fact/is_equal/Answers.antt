use Rattle.mu_check.proofs.SameLemmas.{equal_from}
use Rattle.mu_check.proofs.fact.is_equal.Goals as goal

pub returns : goal.returns
returns c = equal_from c.same_fact.result c.args.left.now c.args.right.now c.same_fact.ensures
