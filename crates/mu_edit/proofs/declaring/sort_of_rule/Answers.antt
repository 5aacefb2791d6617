use Rattle.std.proofs.Common.{◌≡◌, ◌∙◌, sym, ap, subst, ℕ, List, Some}
use Rattle.std.specs.FinMap as finite
use Rattle.mu_flat.specs.Entries.{IsTheory}
use Rattle.mu_edit.proofs.declaring.sort_of_rule.Goals as goal

pub returns-clause-there : goal.returns-clause-there
returns-clause-there c =
    let at : finite.get c.args.store.now.rules c.args.rule.now ≡ Some c.in-Some.statement.now = sym (c.in-Some.ensures ∙ ap (λ rules. finite.get rules c.args.rule.now) c.rules.ensures.value) in
    subst (λ (theory : List ℕ). IsTheory c.args.store.now theory) (sym c.in_ok-copy-in-Some.ensures) (c.rules.ensures.valid.rule c.args.rule.now c.in-Some.statement.now at).1
