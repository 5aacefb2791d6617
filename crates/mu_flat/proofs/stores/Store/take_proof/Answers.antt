use Rattle.mu_flat.proofs.ProofChanges.{are_taken}
use Rattle.mu_flat.proofs.Validity.{valid_proofs}
use Rattle.mu_flat.specs.ProofTables.{ProofsOf}
use Rattle.mu_flat.specs.Stores.{IsKept, entries_of}
use Rattle.std.proofs.Common.{sym, subst}
use Rattle.mu_flat.proofs.stores.Store.take_proof.Goals as goal

pub invariant_of-self : goal.invariant_of-self
invariant_of-self c = subst (λ (proofs : ProofsOf). IsKept (record c.self.inside { proofs = proofs })) (sym c.take.ensures.taken) (record { valid = valid_proofs (entries_of c.self.inside) c.self.invariant.valid _ (are_taken c.self.inside.proofs c.args.rule.now c.args.proof.now c.self.invariant.valid.proofs); base = c.self.invariant.base })
