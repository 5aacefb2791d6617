use Rattle.std.proofs.Common.{sym, ◌∙◌}
use Rattle.std.specs.Prelude.{not}
use Rattle.mu_proof.specs.Items.{is_line, all_items}
use Rattle.mu_proof.specs.declared.fault.ProofFault.TheVariants as fault
use Rattle.mu_proof.proofs.ProofLemmas.{has_kind, passes}
use Rattle.mu_proof.proofs.proofs.Proof.alter_block.Goals as goal

pub alter-requires : goal.alter-requires
alter-requires c = has_kind (λ each. not (is_line each)) c.args.label.now (all_items c.args.self.now) (sym c.has_box.ensures ∙ passes c.has_box.result (fault.Unknown c.args.label.now) c.in_ok-expect.ensures.ok)
