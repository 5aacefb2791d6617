use Rattle.std.proofs.Common.{ap, sym, ◌∙◌}
use Rattle.mu_proof.specs.Proofs.{is_label}
use Rattle.mu_proof.specs.declared.fault.ProofFault.TheVariants as fault
use Rattle.mu_proof.proofs.ProofLemmas.{has_once, passes}
use Rattle.mu_proof.proofs.KeepLemmas.{removed_proof}
use Rattle.mu_proof.proofs.proofs.Proof.remove.Goals as goal

pub remove_from-requires : goal.remove_from-requires
remove_from-requires c =
    has_once c.self.inside.items c.self.invariant c.args.label.now
    (ap (λ items. is_label items c.args.label.now) (sym c.items.ensures) ∙ sym c.has_item.ensures ∙ passes c.has_item.result (fault.Unknown c.args.label.now) c.in_ok-expect.ensures.ok)

pub invariant_of-self : goal.invariant_of-self
invariant_of-self c = rw c.remove_from.ensures.rest (removed_proof c.self.inside.items c.self.invariant c.args.label.now)
