use Rattle.std.proofs.Common.{arith, sym, ◌≡◌, ◌∙◌, [], ◌∷◌, ◌++◌}
use Rattle.std.proofs.lemmas.Grind.{common_steps}
use Rattle.mu_graph.specs.declared.walks.Step.TheVariants.{Enter, Leave}
use Rattle.mu_graph.proofs.WalkLemmas.{one_left, one_skipped, one_visited}
use Rattle.mu_graph.proofs.walks.advance.Goals as goal

pub returns-in_ok-push-in-Some-Leave : goal.returns-in_ok-push-in-Some-Leave
returns-in_ok-push-in-Some-Leave g c =
    let marked = g.E.Set.KeySet.marked c.args.seen.now in
    let rest = c.pop.new.self.items in
    let key = c.in-Some-Leave.key in
    let work : c.args.work.now.items ≡ rest ++ Leave key ∷ [] = grind (arith, common_steps) in
    let left : c.push.new.self.items ≡ c.args.left.now.items ++ key ∷ [] = grind (arith, common_steps) in
    rw (work, left) (one_left (g.E.Edges.leads c.args.edges.now) (g.E.Edges.universe c.args.edges.now) marked c.args.left.now.items rest key)

pub returns-in_ok-visit-in-Some-Enter : goal.returns-in_ok-visit-in-Some-Enter
returns-in_ok-visit-in-Some-Enter g c =
    let marked = g.E.Set.KeySet.marked in
    let rest = c.pop.new.self.items in
    let key = c.in-Some-Enter.key in
    let work : c.args.work.now.items ≡ rest ++ Enter key ∷ [] = grind (arith, common_steps) in
    rw (work, c.in_ok-visit-in-Some-Enter.ensures.work)
    (one_visited (g.E.Edges.leads c.args.edges.now) (g.E.Edges.universe c.args.edges.now) (g.met.E.Edges.within c.args.edges.now) (marked c.args.seen.now) (marked c.visit.new.seen)
    c.args.left.now.items rest key (sym c.has.ensures ∙ c.if-not-has.true) c.in_ok-visit-in-Some-Enter.ensures.marks)

pub returns-else-not-has : goal.returns-else-not-has
returns-else-not-has g c =
    let marked = g.E.Set.KeySet.marked c.args.seen.now in
    let rest = c.pop.new.self.items in
    let key = c.in-Some-Enter.key in
    let work : c.args.work.now.items ≡ rest ++ Enter key ∷ [] = grind (arith, common_steps) in
    rw work (one_skipped (g.E.Edges.leads c.args.edges.now) (g.E.Edges.universe c.args.edges.now) marked c.args.left.now.items rest key (sym c.has.ensures ∙ c.if-not-has.false))
