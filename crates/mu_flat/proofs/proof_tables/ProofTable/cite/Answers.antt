use Rattle.std.proofs.Common.{◌≡◌, sym, subst, None}
use Rattle.mu_flat.specs.KeptProofs.{IsKept}
use Rattle.mu_flat.specs.ProofTables.{ProofsOf}
use Rattle.mu_flat.specs.Edits.{line_refusal, circle_refusal}
use Rattle.mu_flat.proofs.ProofKeeping.{kept_cited}
use Rattle.mu_flat.proofs.proof_tables.ProofTable.cite.Goals as goal

pub invariant_of-self-2 : goal.invariant_of-self-2
invariant_of-self-2 c = subst (λ (proofs : ProofsOf). IsKept (record c.self.inside { by_rule = proofs; citers = c.add_citer.new.citers })) (sym c.set_reason.ensures)
    (kept_cited c.self.inside c.self.invariant c.args.rule.now c.args.proof.now c.args.label.now c.args.why
    (subst (λ (proofs : ProofsOf). line_refusal proofs c.args.rule.now c.args.proof.now c.args.label.now ≡ None) (sym c.self.view_is) c.in_ok-permit_line.ensures.ok) c.add_citer.new.citers
    (subst (λ (proofs : ProofsOf). circle_refusal proofs c.args.rule.now c.args.proof.now c.args.label.now c.args.why ≡ None) (sym c.self.view_is) (c.in_ok-permit_reason.ensures.ok c.args.proof.now c.args.label.now c.in_ok-permit_line.ensures.ok))
    c.in_ok-add_citer.ensures.ok)
