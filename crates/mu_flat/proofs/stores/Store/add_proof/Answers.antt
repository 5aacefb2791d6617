use Rattle.mu_defs.proofs.Settled.{settled}
use Rattle.mu_flat.proofs.ProofChanges.{are_added}
use Rattle.mu_flat.proofs.Validity.{valid_proofs}
use Rattle.mu_flat.specs.Entries.{Entries}
use Rattle.mu_flat.specs.ProofTables.{ProofsOf, count_proofs, proof_at, with_proof}
use Rattle.mu_flat.specs.Stores.{IsKept, entries_of}
use Rattle.std.proofs.Common.{sym, subst}
use Rattle.std.specs.Prelude.{◌≡◌, ◌<◌, [], None}
use Rattle.mu_flat.proofs.stores.Store.add_proof.Goals as goal

pub invariant_of-self : goal.invariant_of-self
invariant_of-self c =
    settled (λ (proofs : ProofsOf). IsKept (record c.self.inside { proofs = proofs })) c.self.inside.proofs (with_proof c.self.inside.proofs c.args.rule c.args.proof []) c.add.new.self
    c.add.result c.add.ensures.ok c.add.ensures.err c.self.invariant
    (record { valid = valid_proofs (entries_of c.self.inside) c.self.invariant.valid _ (are_added c.self.inside.proofs c.args.rule c.args.proof c.self.invariant.valid.proofs c.requires.plain (subst (λ (e : Entries). proof_at e.proofs c.args.rule c.args.proof ≡ None) (sym c.self.view_is) c.requires.new) (subst (λ (e : Entries). count_proofs e.proofs < 65536) (sym c.self.view_is) c.requires.room)); base = c.self.invariant.base })
