use Rattle.std.proofs.Common.{arith, ◌≡◌, ◌∙◌, sym, subst, []}
use Rattle.std.proofs.lemmas.Bool.{false≢true}
use Rattle.std.proofs.lemmas.Grind.{common_steps}
use Rattle.mu_graph.specs.Derivations.{Stands}
use Rattle.mu_graph.proofs.CircleLemmas.{reached_end}
use Rattle.mu_graph.proofs.circles.between.Goals as goal

pub returns-then-not-has-clause-keys : goal.returns-then-not-has-clause-keys
returns-then-not-has-clause-keys g c n =
    let leads = g.E.Edges.leads c.args.edges.now in
    let none : c.new.result.items ≡ [] = grind (arith, common_steps) in (
      λ s. absurd (subst (Stands n) none s),
      λ on. absurd (false≢true (sym c.if-not-has.true ∙ c.has.ensures ∙ (c.in_ok-seen.ensures.marks c.args.to.now).1 (reached_end leads c.args.starts.items c.args.to.now n on))),
    )

pub returns-clause-keys : goal.returns-clause-keys
returns-clause-keys g c n =
    let listed = c.in_ok-seen.ensures.lists in
    let marks = c.in_ok-seen.ensures.marks n in
    let same = c.as_slice.ensures.value in
    let traced = c.in_ok-keys.ensures n in (
      λ s. let both = traced.0 s in (marks.0 (listed.marks n (subst (Stands n) same both.0)), both.1),
      λ on. traced.1 (subst (Stands n) (sym same) (listed.marked_stand n (marks.1 on.0)), on.1),
    )
