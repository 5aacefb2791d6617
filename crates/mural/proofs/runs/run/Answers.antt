use Rattle.mural.proofs.Lawful.{laws_hold}
use Rattle.mural.proofs.runs.run.Goals as goal

pub returns-then-not-is_empty-clause-laws : goal.returns-then-not-is_empty-clause-laws
returns-then-not-is_empty-clause-laws g c = laws_hold

pub returns-in-Ok-clause-laws : goal.returns-in-Ok-clause-laws
returns-in-Ok-clause-laws g c = laws_hold

pub returns-in-Err-clause-laws : goal.returns-in-Err-clause-laws
returns-in-Err-clause-laws g c = laws_hold
