use Rattle.std.proofs.Common.{arith, ◌≡◌, sym, ap, None}
use Rattle.std.specs.FinMap as finite
use Rattle.std.proofs.lemmas.Grind.{common_steps}
use Rattle.mu_status.specs.Statuses.{status_by_proofs}
use Rattle.mu_status.proofs.BookLemmas.{none_stored}
use Rattle.mu_status.proofs.books.status_by_proofs.Goals as goal

pub returns-in-None : goal.returns-in-None
returns-in-None c _ =
    let none : finite.get c.args.store.now.proofs c.args.rule.now ≡ None = grind (arith, common_steps) in
    sym (ap (status_by_proofs c.args.store.now c.args.rule.now) (none_stored c.args.store.now.proofs c.args.rule.now none))
