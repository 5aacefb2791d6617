use Rattle.std.proofs.Common.{Bor, arith, ◌≡◌, ◌+◌, ◌∙◌, sym, ap, subst, take, List, ◌++◌, [], ◌∷◌}
use Rattle.std.proofs.lemmas.Grind.{common_steps}
use Rattle.std.proofs.lemmas.List.{take_more}
use Rattle.mu_tables.specs.declared.work.Work.{Work}
use Rattle.mu_tree.specs.Maps.{MapOf}
use Rattle.mu_flat.specs.Entries.{Entries}
use Rattle.mu_flat.specs.declared.stores.Store.{Store}
use Rattle.mu_status.specs.declared.sights.Viewer.{Viewer}
use Rattle.mu_proof.specs.declared.citations.Cited.{Cited}
use Rattle.mu_proof.specs.declared.citations.Cited.TheVariants.{Rule, Morphism}
use Rattle.mu_status.specs.Books.{IsBook}
use Rattle.mu_status.specs.declared.books.Standing.{Standing}
use Rattle.mu_status.proofs.BookLemmas.{book_begins, book_skips}
use Rattle.mu_status.proofs.books.book_of.Goals as goal
use Rattle.mu_status.proofs.books.book_of.Goals.{in-Rule+in_ok-add_rule, in_default}

pub loop-member-init : goal.loop-member-init
loop-member-init c = record { book = book_begins c.args.store.now c.new-rules.result c.new-rules.ensures; viewer = ap (λ (at : Bor Store). at.now) c.new-viewer.ensures; work = omega arith }

pub loop-member-preserved : goal.loop-member-preserved
loop-member-preserved c =
    let e = c.args.store.now in
    let before : List Cited = take c.loop-member.member-index c.args.members.now in
    let one_more = λ (member : Cited) (same : c.member-item.result ≡ member).
    take_more c.args.members.now c.loop-member.member-index c.member-item.result (omega arith) ∙ ap (λ m. before ++ m ∷ []) (sym c.member-item.is ∙ same) in
    let book = elim c.match-member.branch as (λ _. IsBook e (take (c.loop-member.member-index + 1) c.args.members.now) c.match-member.rules) [
      | in-Rule+in_ok-add_rule w ↦
          subst (λ members. IsBook e members c.match-member.rules) (sym (one_more (Rule w.in-Rule.name) w.in-Rule.is))
          (subst (λ (rules : MapOf Standing). IsBook e (before ++ Rule w.in-Rule.name ∷ []) rules) (sym w.rules-is)
          (subst (λ (at : Entries). IsBook at before c.loop-member.rules → IsBook at (before ++ Rule w.in-Rule.name ∷ []) w.add_rule.new.rules) c.loop-member.invariant.viewer (w.in_ok-add_rule.ensures.value before) c.loop-member.invariant.book))
      | in_default w ↦
          subst (λ members. IsBook e members c.match-member.rules) (sym (one_more (Morphism w.in_default.field-0) w.in_default.is))
          (subst (λ (rules : MapOf Standing). IsBook e (before ++ Morphism w.in_default.field-0 ∷ []) rules) (sym w.rules-is)
          (book_skips e before c.loop-member.rules c.loop-member.invariant.book w.in_default.field-0))
    ] in
    record {
      book = book;
      viewer = elim c.match-member.branch [
        | in-Rule+in_ok-add_rule w ↦ ap (λ (at : Viewer). at.store.now) w.viewer-is ∙ ap (λ (at : Bor Store). at.now) w.in_ok-add_rule.ensures.store ∙ c.loop-member.invariant.viewer
        | in_default w ↦ ap (λ (at : Viewer). at.store.now) w.viewer-is ∙ c.loop-member.invariant.viewer
      ];
      work = elim c.match-member.branch [
        | in-Rule+in_ok-add_rule w ↦ omega (arith, ap (λ (after : Work). after.lines) w.work-is, w.in_ok-add_rule.ensures.work)
        | in_default w ↦ omega (arith, ap (λ (after : Work). after.lines) w.work-is)
      ];
    }

pub returns-clause-value : goal.returns-clause-value
returns-clause-value c =
    let members : List Cited = c.args.members.now in
    let all : take c.loop-member.member-index members ≡ members = grind (arith, common_steps) in
    subst (λ (listed : List Cited). IsBook c.args.store.now listed c.loop-member.rules) all c.loop-member.invariant.book
