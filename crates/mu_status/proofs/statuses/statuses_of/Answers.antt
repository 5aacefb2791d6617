use Rattle.std.proofs.Common.{◌≡◌, ◌↔◌, subst, map, List, ℕ, Option, IfOk}
use Rattle.std.specs.FinMap as finite
use Rattle.mu_proof.specs.declared.citations.Cited.{Cited}
use Rattle.mu_proof.specs.declared.citations.Cited.TheVariants.{Rule}
use Rattle.mu_flat.specs.CitedSets.{is_marked}
use Rattle.mu_flat.specs.ProofTables.{leads}
use Rattle.mu_graph.specs.Derivations.{Stands}
use Rattle.mu_graph.specs.Walks.{IsLedTo}
use Rattle.mu_status.specs.declared.statuses.RuleStatus.{RuleStatus}
use Rattle.mu_status.specs.Books.{IsBook, starts_of, told_status}
use Rattle.mu_status.specs.Statuses.{status_at}
use Rattle.mu_status.proofs.Standing.{statuses_are_exact}
use Rattle.mu_status.proofs.BookLemmas.{book_tells, rule_starts, map_same}
use Rattle.mu_status.proofs.statuses.statuses_of.Goals as goal

pub returns-in_err-starts-clause-laws : goal.returns-in_err-starts-clause-laws
returns-in_err-starts-clause-laws c = statuses_are_exact

pub returns-in_err-order-clause-laws : goal.returns-in_err-order-clause-laws
returns-in_err-order-clause-laws c = statuses_are_exact

pub returns-in_err-book-clause-laws : goal.returns-in_err-book-clause-laws
returns-in_err-book-clause-laws c = statuses_are_exact

pub returns-in_err-marks-clause-laws : goal.returns-in_err-marks-clause-laws
returns-in_err-marks-clause-laws c = statuses_are_exact

pub returns-clause-laws : goal.returns-clause-laws
returns-clause-laws c = statuses_are_exact

pub returns-clause-value : goal.returns-clause-value
returns-clause-value c =
    let e = c.args.store.now in
    let names : List (List ℕ) = c.args.names.now in
    let order : List Cited = c.in_ok-order.order.items in
    let rules = c.in_ok-book.book.rules in
    let marked = is_marked c.in_ok-marks.marks.rules c.in_ok-marks.marks.morphisms in
    let reach : (n : Cited) → Stands n order ↔ IsLedTo (leads e.proofs) (starts_of e names) n =
    λ n. subst (λ from. Stands n order ↔ IsLedTo (leads e.proofs) from n) c.in_ok-starts.ensures
    (subst (λ proofs. Stands n order ↔ IsLedTo (leads proofs) c.in_ok-starts.starts.items n) c.proofs.ensures (c.in_ok-order.ensures.keys n)) in
    let book : IsBook e order rules = subst (λ members. IsBook e members rules) c.as_slice.ensures.value c.in_ok-book.ensures.value in
    let same : map (λ name. told_status (marked (Rule name)) (finite.get rules name)) names ≡ map (λ name. status_at e name) names =
    map_same (λ name. told_status (marked (Rule name)) (finite.get rules name)) (λ name. status_at e name) names
    (λ name stands. book_tells e (starts_of e names) order rules (is_marked c.none.result.rules c.none.result.morphisms) marked reach book c.none.ensures c.in_ok-marks.ensures name (rule_starts e names name stands)) in
    subst (λ (listed : List (Option RuleStatus)). IfOk c.told_statuses.result (λ found. found.items ≡ listed)) same c.told_statuses.ensures
