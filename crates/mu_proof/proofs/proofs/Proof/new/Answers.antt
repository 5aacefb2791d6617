use Rattle.mu_proof.proofs.ProofLemmas.{no_items}
use Rattle.mu_proof.proofs.proofs.Proof.new.Goals as goal

pub invariant_of-result : goal.invariant_of-result
invariant_of-result c = rw c.new.ensures no_items
