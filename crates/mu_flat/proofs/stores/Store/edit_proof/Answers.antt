use Rattle.mu_defs.proofs.Settled.{settled}
use Rattle.mu_flat.proofs.ProofKeeping.{are_edited}
use Rattle.mu_flat.proofs.Validity.{valid_proofs}
use Rattle.mu_flat.specs.ProofTables.{ProofsOf, with_edit_at}
use Rattle.mu_flat.specs.Stores.{IsKept, entries_of}
use Rattle.mu_flat.proofs.stores.Store.edit_proof.Goals as goal

pub invariant_of-self : goal.invariant_of-self
invariant_of-self c =
    settled (λ (proofs : ProofsOf). IsKept (record c.self.inside { proofs = proofs })) c.self.inside.proofs (with_edit_at c.self.inside.proofs c.args.rule.now c.args.proof.now c.args.edit) c.edit.new.self
    c.edit.result c.edit.ensures.new c.edit.ensures.err c.self.invariant
    (record { valid = valid_proofs (entries_of c.self.inside) c.self.invariant.valid _ (are_edited c.self.inside.proofs c.args.rule.now c.args.proof.now c.self.invariant.valid.proofs c.args.edit c.requires); base = c.self.invariant.base })
