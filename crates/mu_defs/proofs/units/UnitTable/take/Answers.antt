use Rattle.mu_defs.proofs.UnitLemmas.{kept_taken}
use Rattle.mu_defs.proofs.units.UnitTable.take.Goals as goal

pub invariant_of-self : goal.invariant_of-self
invariant_of-self c = rw c.take.ensures.taken (kept_taken c.self.inside c.self.invariant c.args.name.now)
