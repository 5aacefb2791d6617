use Rattle.std.proofs.Common.{◌≡◌, subst, ℕ, List, None, Some}
use Rattle.std.specs.Prelude.{Option}
use Rattle.std.specs.Option.{option_or}
use Rattle.mu_flat.specs.Edits.{edit_refusal, place_refusal}
use Rattle.mu_flat.specs.declared.proof_edits.ProofEdit.TheVariants.{Insert}
use Rattle.mu_edit.specs.Changes.{Does, put_refusal, with_edit}
use Rattle.mu_edit.specs.Distinct.{repeated_in_item}
use Rattle.mu_edit.proofs.TestLemmas.{blame_so, done_so, err_given}
use Rattle.mu_edit.proofs.proving.put.Goals as goal

pub returns : goal.returns
returns c =
    let e = c.args.store.now in
    let change = Insert c.args.block c.args.before c.args.item in
    done_so e c.edit.new.store (with_edit e c.args.rule.now c.args.proof.now change) (place_refusal e.proofs c.args.rule.now c.args.proof.now c.args.block c.args.before c.args.item) (repeated_in_item c.args.item)
    (edit_refusal e.proofs c.args.rule.now c.args.proof.now change) c.edit.result
    (subst (λ (before : Option (List ℕ)). place_refusal e.proofs c.args.rule.now c.args.proof.now c.args.block before c.args.item ≡ None) c.as_ref.ensures.value c.in_ok-permit_put.ensures.place) c.in_ok-permit_put.ensures.differ c.edit.ensures

pub returns-in_err-permit_put : goal.returns-in_err-permit_put
returns-in_err-permit_put c =
    let e = c.args.store.now in
    let change = Insert c.args.block c.args.before c.args.item in
    let after = with_edit e c.args.rule.now c.args.proof.now change in
    let reason = put_refusal e c.args.rule.now c.args.proof.now c.args.block c.args.before c.args.item in
    err_given c.from_residual.result _ (Does e e reason after) c.from_residual.ensures (λ y same.
    blame_so e after reason y c.in_err-permit_put.field-0.0 same (λ refused is.
    subst (λ (before : Option (List ℕ)). option_or (place_refusal e.proofs c.args.rule.now c.args.proof.now c.args.block before c.args.item)
    (option_or (repeated_in_item c.args.item) (option_or (edit_refusal e.proofs c.args.rule.now c.args.proof.now change) None)) ≡ Some refused) c.as_ref.ensures.value
    (c.in_err-permit_put.ensures.fault refused is (option_or (edit_refusal e.proofs c.args.rule.now c.args.proof.now change) None))))
