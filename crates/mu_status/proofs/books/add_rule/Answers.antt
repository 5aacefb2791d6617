use Rattle.std.proofs.Common.{Bor, arith, ◌≡◌, ◌∙◌, sym, ap, subst, ◌++◌, ◌∷◌, [], List, ℕ, Some, None}
use Rattle.std.proofs.lemmas.Grind.{common_steps}
use Rattle.std.specs.FinMap as finite
use Rattle.mu_tree.specs.Maps.{MapOf}
use Rattle.mu_proof.specs.declared.citations.Cited.TheVariants.{Rule}
use Rattle.mu_flat.specs.declared.stores.Store.{Store}
use Rattle.mu_status.specs.declared.books.Standing.{Standing}
use Rattle.mu_status.specs.Books.{IsBook, Knows}
use Rattle.mu_status.proofs.BookLemmas.{book_adds, book_misses}
use Rattle.mu_status.proofs.books.add_rule.Goals as goal

pub returns-in_default-clause-value : goal.returns-in_default-clause-value
returns-in_default-clause-value c members book =
    let none : finite.get c.args.viewer.now.store.now.rules c.args.rule.now ≡ None = grind (arith, common_steps) in
    book_misses c.args.viewer.now.store.now members c.args.rules.now book c.args.rule.now none

pub returns-clause-value : goal.returns-clause-value
returns-clause-value c members book =
    let e = c.args.viewer.now.store.now in
    let rule = c.args.rule.now in
    let rules : MapOf Standing = c.args.rules.now in
    let known : Standing = c.in_ok-known.known in
    let there : finite.get e.rules rule ≡ Some c.in-Some.statement.now = grind (arith, common_steps) in
    let looked : c.look_from.new.self.store ≡ c.args.viewer.now.store = c.in_ok-look_from.ensures in
    let knows = subst (λ (at : Bor Store). Knows at.now rule c.in-Some.statement.now known) looked c.in_ok-known.ensures.value in
    let put : c.put.new.self ≡ finite.insert rules rule known = c.in_ok-put.ensures.ok ∙ ap (λ (name : List ℕ). finite.insert rules name known) c.in_ok-copy.ensures in
    subst (λ (after : MapOf Standing). IsBook e (members ++ Rule rule ∷ []) after) (sym put) (book_adds e members rules book rule c.in-Some.statement.now known there knows)
