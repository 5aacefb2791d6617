use Rattle.mu_graph.specs.Walks.{IsWalk, remaining}
use Rattle.mu_graph.proofs.walks.explore.Given as goal

abbrev pub invariant-loop-work : goal.invariant-loop-work
invariant-loop-work g l = IsWalk (g.E.Edges.leads l.edges) l.fn.starts.items (g.E.Set.KeySet.marked l.seen) l.left.items l.work.items

abbrev pub decreases-loop-work : goal.decreases-loop-work
decreases-loop-work g l = remaining (g.E.Edges.leads l.edges) (g.E.Edges.universe l.edges) l.fn.starts.items (g.E.Set.KeySet.marked l.seen) l.work.items
