use Rattle.std.proofs.Common.{arith, ◌≡◌, ◌∙◌, sym, ap, subst, take, ◌+◌, ◌++◌, ◌∷◌, []}
use Rattle.std.proofs.lemmas.Grind.{common_steps}
use Rattle.std.proofs.lemmas.List.{take_more}
use Rattle.mu_graph.specs.KeySets.{Adds}
use Rattle.mu_graph.specs.Circles.{Traced}
use Rattle.mu_graph.proofs.CircleLemmas.{none_traced, one_traced, one_passed, behind, all_traced}
use Rattle.mu_graph.proofs.circles.trace.Goals as goal
use Rattle.mu_graph.proofs.circles.trace.Goals.{then-branch+in_ok-duplicate-2+in_ok-add-2+in_ok-duplicate-3+in_ok-push, else-branch}

pub loop-key-init : goal.loop-key-init
loop-key-init g c =
    let marked = g.E.Set.KeySet.marked in
    let none : c.new-found.result.items ≡ [] = grind (arith, common_steps) in
    rw none (none_traced (g.E.Edges.leads c.args.edges.now) c.args.to.now (marked c.none-marks.result) (marked c.add.new.self) c.none-marks.ensures
    (subst (Adds (marked c.none-marks.result) (marked c.add.new.self)) c.in_ok-duplicate.ensures c.in_ok-add.ensures))

pub loop-key-preserved : goal.loop-key-preserved
loop-key-preserved g c =
    let marked = g.E.Set.KeySet.marked in
    let leads = g.E.Edges.leads c.args.edges.now in
    let to = c.args.to.now in
    let key = c.key-item.result in
    let listed = c.args.listed.now in
    let more : take (c.loop-key.key-index + 1) listed ≡ take c.loop-key.key-index listed ++ key ∷ [] =
    take_more listed c.loop-key.key-index key (omega arith) ∙ ap (λ k. take c.loop-key.key-index listed ++ k ∷ []) (sym c.key-item.is) in
    rw more (elim c.if-branch.branch [
      | then-branch+in_ok-duplicate-2+in_ok-add-2+in_ok-duplicate-3+in_ok-push w ↦
          let added = subst (Adds (marked c.loop-key.marks) (marked w.add-then-branch.new.self)) w.in_ok-duplicate-2.ensures w.in_ok-add-2.ensures in
          let pushed : w.push.new.self.items ≡ c.loop-key.found.items ++ key ∷ [] = grind (arith, common_steps, w.in_ok-duplicate-3.ensures) in
          rw (w.marks-is, w.found-is, pushed)
          (one_traced leads to (marked c.loop-key.marks) (take c.loop-key.key-index listed) c.loop-key.found.items key c.loop-key.invariant (marked w.add-then-branch.new.self) added
          (sym c.in_ok-leads_on.ensures ∙ w.if-branch.true))
      | else-branch w ↦
          rw (w.marks-is, w.found-is)
          (one_passed leads to (marked c.loop-key.marks) (take c.loop-key.key-index listed) c.loop-key.found.items key c.loop-key.invariant
          (behind leads c.requires.acyclic listed c.requires.order c.loop-key.key-index key (omega arith) c.key-item.is)
          (sym c.in_ok-leads_on.ensures ∙ w.if-branch.false))
    ])

pub returns : goal.returns
returns g c =
    let leads = g.E.Edges.leads c.args.edges.now in
    let marked = g.E.Set.KeySet.marked c.loop-key.marks in
    let all : take c.loop-key.key-index c.args.listed.now ≡ c.args.listed.now = grind (arith, common_steps) in
    all_traced leads c.args.to.now marked c.args.listed.now c.loop-key.found.items (subst (λ done. Traced leads c.args.to.now marked done c.loop-key.found.items) all c.loop-key.invariant)
