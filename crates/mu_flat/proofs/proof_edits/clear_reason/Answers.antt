use Rattle.std.proofs.Common.{sym, ◌∙◌}
use Rattle.std.proofs.lemmas.Result.{IfErr-weaker}
use Rattle.mu_flat.proofs.FoundItems.{no_line_fault}
use Rattle.mu_flat.proofs.proof_edits.clear_reason.Goals as goal

pub returns-clause-fault : goal.returns-clause-fault
returns-clause-fault c = IfErr-weaker c.set_why.result _ _ (λ fault missing other.
    absurd (no_line_fault c.args.proof.now c.args.label.now fault (sym c.has_reason.ensures ∙ c.if-not-has_reason.false) (missing other))) c.set_why.ensures.fault
