use Rattle.std.proofs.Common.{◌≡◌, ◌∙◌, sym, ap, subst, ℕ, List, Some}
use Rattle.std.specs.FinMap as finite
use Rattle.std.proofs.lemmas.Result.{IfOk-weaker}
use Rattle.mu_flat.specs.Entries.{IsTheory}
use Rattle.mu_edit.proofs.declaring.theory_of_constant.Goals as goal

pub returns-clause-there : goal.returns-clause-there
returns-clause-there c =
    let at : finite.get c.args.store.now.constants c.args.name.now ≡ Some c.in-Some.declared.now = sym (c.in-Some.ensures ∙ ap (λ constants. finite.get constants c.args.name.now) c.constants.ensures.value) in
    IfOk-weaker c.copy.result _ _ (λ theory same. subst (λ (name : List ℕ). IsTheory c.args.store.now name) (sym same) (c.constants.ensures.valid.constant c.args.name.now c.in-Some.declared.now at).2) c.copy.ensures
