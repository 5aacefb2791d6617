use Rattle.std.proofs.Common.{sym, ◌∙◌}
use Rattle.mu_proof.specs.Items.{is_line, all_items}
use Rattle.mu_proof.specs.declared.fault.ProofFault.TheVariants as fault
use Rattle.mu_proof.proofs.ProofLemmas.{has_kind, passes}
use Rattle.mu_proof.proofs.proofs.Proof.set_why.Goals as goal

pub alter-requires : goal.alter-requires
alter-requires c = has_kind is_line c.args.label.now (all_items c.args.self.now) (sym c.has_line.ensures ∙ passes c.has_line.result (fault.Unknown c.args.label.now) c.in_ok-expect.ensures.ok)
