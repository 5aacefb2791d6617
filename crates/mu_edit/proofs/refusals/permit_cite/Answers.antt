use Rattle.std.proofs.Common.{◌≡◌, ◌∙◌, sym, ap, subst, None}
use Rattle.mu_flat.specs.Edits.{circle_refusal, line_refusal}
use Rattle.mu_flat.specs.ProofTables.{ProofsOf}
use Rattle.mu_edit.specs.Changes.{refusal, Tests}
use Rattle.mu_edit.proofs.TestLemmas.{cite_tested, tested_so}
use Rattle.mu_edit.proofs.refusals.permit_cite.Goals as goal

pub returns : goal.returns
unfolding refusal
returns c =
    let r = c.args.rule.now in
    let p = c.args.proof.now in
    let l = c.args.label.now in
    let here = c.proofs-2.result.now in
    let there : line_refusal here r p l ≡ None = ap (λ (proofs : ProofsOf). line_refusal proofs r p l) (c.proofs-2.ensures ∙ sym c.proofs.ensures) ∙ c.in_ok-permit_line.ensures.ok in
    tested_so _ _ _ c.permit_reason.result (ap (λ (proofs : ProofsOf). line_refusal proofs r p l) (sym c.proofs.ensures) ∙ c.in_ok-permit_line.ensures.ok) c.in_ok-reason_differs.ensures.ok
    (subst (λ (proofs : ProofsOf). Tests (circle_refusal proofs r p l c.args.why.now) c.permit_reason.result) c.proofs-2.ensures
    (cite_tested here r p l c.args.why.now c.permit_reason.result there c.permit_reason.ensures.ok c.permit_reason.ensures.fault))
