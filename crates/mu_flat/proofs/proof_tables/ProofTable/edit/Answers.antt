use Rattle.mu_flat.specs.KeptProofs.{IsKept}
use Rattle.mu_flat.specs.ProofTables.{ProofsOf, with_edit_at}
use Rattle.mu_defs.proofs.Settled.{settled}
use Rattle.mu_flat.proofs.ProofKeeping.{kept_edited}
use Rattle.mu_flat.proofs.proof_tables.ProofTable.edit.Goals as goal

pub invariant_of-self : goal.invariant_of-self
invariant_of-self c =
    settled (λ (proofs : ProofsOf). IsKept (record c.self.inside { by_rule = proofs })) c.self.inside.by_rule (with_edit_at c.self.inside.by_rule c.args.rule.now c.args.proof.now c.args.edit) c.edit_in.new.by_rule
    c.edit_in.result c.edit_in.ensures.new c.edit_in.ensures.err c.self.invariant (kept_edited c.self.inside c.self.invariant c.args.rule.now c.args.proof.now c.args.edit c.requires)
