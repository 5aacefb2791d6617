use Rattle.std.proofs.Common.{arith, ◌≡◌, ◌∙◌, sym, subst, [], ◌∷◌, map}
use Rattle.std.proofs.lemmas.Grind.{common_steps}
use Rattle.mu_graph.specs.Walks.{Advances}
use Rattle.mu_graph.specs.declared.walks.Step.TheVariants.{Enter}
use Rattle.mu_graph.proofs.CircleLemmas.{none_met, none_seen, not_so}
use Rattle.mu_graph.proofs.WalkLemmas.{walk_starts, last_step}
use Rattle.mu_graph.proofs.circles.are_apart.Goals as goal

pub walks-init : goal.walks-init
walks-init g c =
    let marked = g.E.Set.KeySet.marked in
    let begun : c.enter_all.new.work.items ≡ map Enter c.args.starts.now = grind (arith, common_steps) in
    let none : c.new-left.result.items ≡ [] = grind (arith, common_steps) in
    let begun_back : c.push.new.self.items ≡ map Enter (c.args.to.now ∷ []) = grind (arith, common_steps) in
    let none_back : c.new-left_back.result.items ≡ [] = grind (arith, common_steps) in
    record {
      forward = rw (begun, none) (walk_starts (g.E.Edges.leads c.args.edges.now) c.args.starts.now (marked c.none-seen.result) c.none-seen.ensures);
      backward = rw (begun_back, none_back) (walk_starts (g.B.Edges.leads c.args.back.now) (c.args.to.now ∷ []) (marked c.none-seen_back.result) c.none-seen_back.ensures);
    }

pub returns-then-not-branch : goal.returns-then-not-branch
returns-then-not-branch g c apart =
    let marked = g.E.Set.KeySet.marked in
    let leads = g.E.Edges.leads c.args.edges.now in
    none_seen leads c.args.starts.now (marked c.advance.new.seen) c.args.to.now
    (last_step leads (g.E.Edges.universe c.args.edges.now) c.args.starts.now (marked c.walks.seen) (marked c.advance.new.seen) c.walks.left.items c.advance.new.left.items c.walks.work.items c.advance.new.work.items
    (subst (λ more. Advances leads (g.E.Edges.universe c.args.edges.now) more (marked c.walks.seen) (marked c.advance.new.seen) c.walks.left.items c.advance.new.left.items c.walks.work.items c.advance.new.work.items) c.if-not-branch.true c.in_ok-advance.ensures)
    c.walks.invariant.forward)
    (sym c.has.ensures ∙ not_so c.has.result apart)

pub returns-then-not-branch-2 : goal.returns-then-not-branch-2
returns-then-not-branch-2 g c apart =
    let marked = g.E.Set.KeySet.marked in
    let leads = g.B.Edges.leads c.args.back.now in
    let more = c.advance-in-walks.new in
    none_met (g.E.Edges.leads c.args.edges.now) leads c.args.to.now c.requires c.args.starts.now (marked more.seen)
    (last_step leads (g.B.Edges.universe c.args.back.now) (c.args.to.now ∷ []) (marked c.walks.seen_back) (marked more.seen) c.walks.left_back.items more.left.items c.walks.work_back.items more.work.items
    (subst (λ more_there. Advances leads (g.B.Edges.universe c.args.back.now) more_there (marked c.walks.seen_back) (marked more.seen) c.walks.left_back.items more.left.items c.walks.work_back.items more.work.items) c.if-not-branch-2.true c.in_ok-advance-2.ensures)
    c.walks.invariant.backward)
    (sym c.is_some_marked.ensures ∙ not_so c.is_some_marked.result apart)

pub walks-preserved : goal.walks-preserved
walks-preserved g c = record {
  forward = c.in_ok-advance.ensures.walk c.args.starts.now c.walks.invariant.forward;
  backward = c.in_ok-advance-2.ensures.walk (c.args.to.now ∷ []) c.walks.invariant.backward;
}

pub walks-smaller : goal.walks-smaller
walks-smaller g c = c.in_ok-advance.ensures.less c.if-not-branch.false c.args.starts.now c.walks.invariant.forward
