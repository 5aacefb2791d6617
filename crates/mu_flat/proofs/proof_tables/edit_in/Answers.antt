use Rattle.std.proofs.Common.{◌∙◌, sym, ap}
use Rattle.std.specs.Prelude.{is_some, Some}
use Rattle.std.specs.FinMap as finite
use Rattle.std.proofs.lemmas.Result.{on_err_weaker}
use Rattle.mu_flat.specs.Edits.{refusal_in}
use Rattle.mu_flat.specs.ProofEdits.{fault_of, made}
use Rattle.mu_flat.proofs.ProofTables.{left_alone, where_lent, on_both, proof_at-absent, change_of_own}
use Rattle.mu_flat.proofs.Refusals.{edited_there}
use Rattle.mu_flat.proofs.proof_tables.edit_in.Goals as goal

pub returns-in_default-clause-fault : goal.returns-in_default-clause-fault
returns-in_default-clause-fault c refusal is =
    ap (refusal_in c.args.proof.now (fault_of c.args.edit)) (proof_at-absent c.args.by_rule.now c.args.rule.now c.args.proof.now (ap is_some (sym c.in_default.ensures.value))) ∙ ap Some (sym (c.unknown.ensures refusal is))

pub returns-clause-new : goal.returns-clause-new
returns-clause-new c = on_both c.edit_own.result (λ fits put.
    where_lent c.get_mut.result c.in-Some.proofs c.in-Some.is (c.get_mut.follows.holds c.edit_own.new.proofs)
    ∙ change_of_own c.args.by_rule.now c.args.rule.now c.args.proof.now c.in-Some.proofs.now c.in-Some.ensures.value (made c.args.edit) c.edit_own.new.proofs
    (edited_there c.args.proof.now (fault_of c.args.edit) (finite.get c.in-Some.proofs.now c.args.proof.now) fits) put) c.edit_own.ensures.ok c.edit_own.ensures.new

pub returns-clause-err : goal.returns-clause-err
returns-clause-err c = on_err_weaker c.edit_own.result (λ kept.
    left_alone c.args.by_rule.now (c.get_mut.follows.lender c.edit_own.new.proofs) c.args.rule.now c.in-Some.proofs.now c.edit_own.new.proofs c.in-Some.ensures.value
    (where_lent c.get_mut.result c.in-Some.proofs c.in-Some.is (c.get_mut.follows.holds c.edit_own.new.proofs)) kept) c.edit_own.ensures.err
