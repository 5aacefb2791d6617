use Rattle.mu_flat.proofs.ProofKeeping.{kept_none}
use Rattle.mu_flat.proofs.proof_tables.ProofTable.new.Goals as goal

pub invariant_of-result : goal.invariant_of-result
invariant_of-result c = rw (c.new.ensures, c.new-2.ensures) kept_none
