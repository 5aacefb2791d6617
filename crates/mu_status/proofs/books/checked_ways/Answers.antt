use Rattle.std.proofs.Common.{arith, ◌∙◌, sym, ap, map, List, ℕ, ◌++◌, [], ◌∷◌}
use Rattle.std.specs.Map.Iter.{deref_pair}
use Rattle.std.proofs.lemmas.List.{map-append}
use Rattle.mu_proof.specs.declared.citations.Cited.{Cited}
use Rattle.mu_status.specs.Statuses.{proof_ways, way_by}
use Rattle.mu_status.proofs.BookLemmas.{ways_more}
use Rattle.mu_status.proofs.books.checked_ways.Goals as goal

pub loop-entry-preserved : goal.loop-entry-preserved
loop-entry-preserved c =
    let e = c.args.context.now.store.now in
    let r = c.args.checker.now.rule in
    let p = c.in-Some.entry.1.now in
    let before = proof_ways e r (map deref_pair c.loop-entry.yielded) in
    record {
      ways =
          c.in_ok-add_way.ensures.ways
          ∙ ap (λ (ways : List (List Cited)). ways ++ way_by e c.loop-entry.checker.rule p) c.loop-entry.invariant.ways
          ∙ ap (λ (name : List ℕ). before ++ way_by e name p) c.loop-entry.invariant.rule
          ∙ sym (ways_more e r (map deref_pair c.loop-entry.yielded) (deref_pair c.in-Some.entry))
          ∙ ap (proof_ways e r) (sym (map-append deref_pair c.loop-entry.yielded (c.in-Some.entry ∷ [])));
      checker = c.in_ok-add_way.ensures.kept;
      rule = c.in_ok-add_way.ensures.rule ∙ c.loop-entry.invariant.rule;
      work = omega arith;
    }
