use Rattle.std.proofs.Common.{◌≡◌, ◌∙◌, ap, Some}
use Rattle.std.specs.FinMap as finite
use Rattle.mu_flat.specs.ProofEdits.{made}
use Rattle.mu_flat.proofs.ProofTables.{left_alone, on_err, where_lent}
use Rattle.mu_flat.proofs.proof_tables.edit_own.Goals as goal

pub returns-in_err-edit_proof-clause-err : goal.returns-in_err-edit_proof-clause-err
returns-in_err-edit_proof-clause-err c =
    on_err c.from_residual.result
    (left_alone c.args.proofs.now (c.get_mut.follows.lender c.edit_proof.new.proof) c.args.proof.now c.in-Some.found.now c.edit_proof.new.proof c.in-Some.ensures.value
    (where_lent c.get_mut.result c.in-Some.found c.in-Some.is (c.get_mut.follows.holds c.edit_proof.new.proof)) c.in_err-edit_proof.ensures.err)

pub returns-clause-new : goal.returns-clause-new
returns-clause-new c items is =
    let there : Some c.in-Some.found.now ≡ Some items = c.in-Some.ensures.value ∙ is in
    let same : c.in-Some.found.now ≡ items = cc in
    where_lent c.get_mut.result c.in-Some.found c.in-Some.is (c.get_mut.follows.holds c.edit_proof.new.proof)
    ∙ ap (finite.insert c.args.proofs.now c.args.proof.now) (c.in_ok-edit_proof.ensures.new ∙ ap (made c.args.edit) same)
