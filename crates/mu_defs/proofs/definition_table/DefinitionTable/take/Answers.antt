use Rattle.mu_defs.proofs.DefinitionLemmas.{kept_taken}
use Rattle.mu_defs.proofs.definition_table.DefinitionTable.take.Goals as goal

pub invariant_of-self : goal.invariant_of-self
invariant_of-self c = rw c.take.ensures.taken (kept_taken c.self.inside c.self.invariant c.args.name.now)
