use Rattle.std.proofs.Common.{arith, ◌≡◌, map, [], subst}
use Rattle.std.proofs.lemmas.Grind.{common_steps}
use Rattle.mu_graph.specs.Walks.{Walked, entering}
use Rattle.mu_graph.specs.declared.walks.Step.TheVariants.{Enter}
use Rattle.mu_graph.proofs.WalkLemmas.{walk_starts, walk_ends}
use Rattle.mu_graph.proofs.walks.explore.Goals as goal

pub loop-work-init : goal.loop-work-init
loop-work-init g c =
    let begun : c.enter_all.new.work.items ≡ map Enter c.args.starts.items = grind (arith, common_steps) in
    let none : c.new-left.result.items ≡ [] = grind (arith, common_steps) in
    rw (begun, none) (walk_starts (g.E.Edges.leads c.args.edges.now) c.args.starts.items (g.E.Set.KeySet.marked c.none-seen.result) c.none-seen.ensures)

pub returns-clause-marks : goal.returns-clause-marks
returns-clause-marks g c =
    let marked = g.E.Set.KeySet.marked c.advance.new.seen in
    let leads = g.E.Edges.leads c.args.edges.now in
    let starts = c.args.starts.items in
    walk_ends leads starts marked
    (subst (λ work. Walked leads starts marked (entering work)) (c.in_ok-advance.ensures.ends c.if-branch.false) (c.in_ok-advance.ensures.walk starts c.loop-work.invariant).walked)
