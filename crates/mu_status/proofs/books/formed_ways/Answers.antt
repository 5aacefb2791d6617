use Rattle.std.proofs.Common.{arith, ◌≡◌, ◌∙◌, sym, ap, map, [], ◌∷◌, List, ℕ, None}
use Rattle.std.proofs.lemmas.Bool.{cond-false}
use Rattle.std.proofs.lemmas.Grind.{common_steps}
use Rattle.std.specs.List.{filter}
use Rattle.std.specs.FinMap as finite
use Rattle.mu_proof.specs.Citations.{cites}
use Rattle.mu_proof.specs.declared.items.Item.{Item}
use Rattle.mu_flat.specs.ProofTables.{proofs_of}
use Rattle.mu_status.specs.Statuses.{checks}
use Rattle.mu_status.proofs.BookLemmas.{none_stored}
use Rattle.mu_status.proofs.books.formed_ways.Goals as goal

pub returns-in-None-clause-value : goal.returns-in-None-clause-value
returns-in-None-clause-value c =
    let none : finite.get c.args.context.now.store.now.proofs c.args.rule.now ≡ None = grind (arith, common_steps) in
    let by_proofs = λ (entries : List (List ℕ × List Item)). map (λ entry. cites entry.1) (filter (checks c.args.context.now.store.now c.args.rule.now) entries) in
    c.new-ways.ensures
    ∙ sym (ap by_proofs (none_stored c.args.context.now.store.now.proofs c.args.rule.now none))
    ∙ sym (cond-false c.args.statement.now.is_axiom ([] ∷ []) (by_proofs (finite.entries (proofs_of c.args.context.now.store.now.proofs c.args.rule.now))) c.if-statement.false)
