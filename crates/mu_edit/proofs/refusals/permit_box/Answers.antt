use Rattle.std.proofs.Common.{◌≡◌, subst, ℕ, List, None, Some}
use Rattle.std.specs.Prelude.{Option}
use Rattle.std.specs.Option.{option_or}
use Rattle.mu_flat.specs.Edits.{edit_refusal, place_refusal}
use Rattle.mu_flat.specs.declared.proof_edits.ProofEdit.TheVariants.{Insert}
use Rattle.mu_edit.specs.Distinct.{repeated_in_item}
use Rattle.mu_edit.specs.Changes.{Tests, put_refusal}
use Rattle.mu_edit.proofs.TestLemmas.{err_given, tested_blame, tested_so}
use Rattle.mu_edit.proofs.refusals.permit_box.Goals as goal

pub returns : goal.returns
returns c =
    tested_so _ _ _ c.permit_item.result
    (subst (λ (before : Option (List ℕ)). place_refusal c.args.store.now.proofs c.args.rule.now c.args.proof.now c.args.block.now before c.args.item ≡ None) c.as_ref.ensures.value c.in_ok-permit_put.ensures.place)
    c.in_ok-permit_put.ensures.differ c.permit_item.ensures

pub returns-in_err-permit_put : goal.returns-in_err-permit_put
returns-in_err-permit_put c =
    let e = c.args.store.now in
    let last = option_or (edit_refusal e.proofs c.args.rule.now c.args.proof.now (Insert c.args.block.now c.args.before.now c.args.item)) None in
    let reason = put_refusal e c.args.rule.now c.args.proof.now c.args.block.now c.args.before.now c.args.item in
    err_given c.from_residual.result _ (Tests reason) c.from_residual.ensures (λ y same.
    tested_blame reason y c.in_err-permit_put.field-0.0 same (λ refused is.
    subst (λ (before : Option (List ℕ)). option_or (place_refusal e.proofs c.args.rule.now c.args.proof.now c.args.block.now before c.args.item) (option_or (repeated_in_item c.args.item) last) ≡ Some refused) c.as_ref.ensures.value
    (c.in_err-permit_put.ensures.fault refused is last)))
