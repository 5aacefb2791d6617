use Rattle.mu_defs.proofs.DefinitionLemmas.{kept_seen}
use Rattle.mu_defs.proofs.definition_table.DefinitionTable.has.Goals as goal

pub returns-clause-acyclic : goal.returns-clause-acyclic
returns-clause-acyclic c = (kept_seen c.self.inside c.self.invariant c.args.self.now c.self.view_is).acyclic
