use Rattle.std.proofs.Common.{◌≡◌, ◌∙◌, sym, ap, Some}
use Rattle.std.specs.Prelude.{is_some}
use Rattle.std.specs.FinMap as finite
use Rattle.std.proofs.lemmas.Bool.{false≢true}
use Rattle.mu_proof.specs.Edits.{altered}
use Rattle.mu_proof.specs.declared.alteration.Alteration.TheVariants as alteration
use Rattle.mu_flat.specs.ProofTables.{proof_at, has_line_at}
use Rattle.mu_flat.proofs.ProofTables.{where_lent, line_found, proof_at-absent, proof_of_own, change_of_own}
use Rattle.mu_flat.proofs.proof_tables.set_reason.Goals as goal

pub set_reason_in-requires : goal.set_reason_in-requires
set_reason_in-requires c =
    ap (has_line_at c.args.label.now) (proof_of_own c.args.by_rule.now c.args.rule.now c.args.proof.now c.in-Some.proofs.now c.in-Some.ensures.value) ∙ c.requires

pub returns : goal.returns
returns c =
    let own = c.in-Some.proofs.now in
    let at : finite.get own c.args.proof.now ≡ proof_at c.args.by_rule.now c.args.rule.now c.args.proof.now = proof_of_own c.args.by_rule.now c.args.rule.now c.args.proof.now own c.in-Some.ensures.value in
    where_lent c.get_mut.result c.in-Some.proofs c.in-Some.is (c.get_mut.follows.holds c.set_reason_in.new.proofs)
    ∙ change_of_own c.args.by_rule.now c.args.rule.now c.args.proof.now own c.in-Some.ensures.value (λ items. altered items c.args.label.now (alteration.Why (Some c.args.why))) c.set_reason_in.new.proofs
    (line_found c.args.label.now (finite.get own c.args.proof.now) (ap (has_line_at c.args.label.now) at ∙ c.requires)) c.set_reason_in.ensures

pub unreachable-requires : goal.unreachable-requires
unreachable-requires c =
    false≢true (sym (ap (has_line_at c.args.label.now) (proof_at-absent c.args.by_rule.now c.args.rule.now c.args.proof.now (ap is_some (sym c.in-None.ensures.value)))) ∙ c.requires)
