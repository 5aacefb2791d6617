use Rattle.std.proofs.Common.{[], ◌∷◌}
use Rattle.mu_graph.specs.Walks.{IsWalk, remaining}
use Rattle.mu_graph.proofs.circles.are_apart.Given as goal

abbrev pub invariant-walks : goal.invariant-walks
invariant-walks g l = record {
  forward : IsWalk (g.E.Edges.leads l.edges) l.starts (g.E.Set.KeySet.marked l.seen) l.left.items l.work.items;
  backward : IsWalk (g.B.Edges.leads l.back) (l.to ∷ []) (g.E.Set.KeySet.marked l.seen_back) l.left_back.items l.work_back.items;
}

abbrev pub decreases-walks : goal.decreases-walks
decreases-walks g l = remaining (g.E.Edges.leads l.edges) (g.E.Edges.universe l.edges) l.starts (g.E.Set.KeySet.marked l.seen) l.work.items
