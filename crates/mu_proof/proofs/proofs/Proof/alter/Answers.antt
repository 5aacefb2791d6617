use Rattle.std.proofs.Common.{ap, ◌∙◌}
use Rattle.mu_proof.specs.Proofs.{is_label}
use Rattle.mu_proof.proofs.ProofLemmas.{has_once}
use Rattle.mu_proof.proofs.KeepLemmas.{altered_proof}
use Rattle.mu_proof.proofs.proofs.Proof.alter.Goals as goal

pub alter_in-requires : goal.alter_in-requires
alter_in-requires c = has_once c.self.inside.items c.self.invariant c.args.label.now (ap (λ items. is_label items c.args.label.now) c.self.view_is ∙ c.requires)

pub invariant_of-self : goal.invariant_of-self
invariant_of-self c = rw c.alter_in.ensures (altered_proof c.args.label.now c.args.alteration c.self.inside.items c.self.invariant)
