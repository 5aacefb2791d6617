use Rattle.std.proofs.Common.{arith, ◌≡◌, ◌∙◌, ◌++◌, List, ℕ, None, sym, ap, append-nil}
use Rattle.std.proofs.lemmas.Grind.{common_steps}
use Rattle.std.specs.FinMap as finite
use Rattle.std.specs.List.{flat_map}
use Rattle.mu_proof.specs.declared.items.Item.{Item}
use Rattle.mu_status.proofs.BookLemmas.{none_stored}
use Rattle.mu_machine.specs.Pages.{proof_line}
use Rattle.mu_machine.proofs.pages.add_proofs.Goals as goal

pub returns-in-None-clause-value : goal.returns-in-None-clause-value
returns-in-None-clause-value c =
    let none : finite.get c.args.store.now.proofs c.args.rule.now ≡ None = grind (arith, common_steps) in
    let text = c.args.page.now.items in
    sym (append-nil text)
    ∙ ap (λ (entries : List (List ℕ × List Item)). text ++ flat_map (proof_line c.args.store.now c.args.rule.now) entries) (sym (none_stored c.args.store.now.proofs c.args.rule.now none))
