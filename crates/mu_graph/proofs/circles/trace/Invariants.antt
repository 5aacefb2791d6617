use Rattle.std.proofs.Common.{take}
use Rattle.mu_graph.specs.Circles.{Traced}
use Rattle.mu_graph.proofs.circles.trace.Given as goal

abbrev pub invariant-loop-key : goal.invariant-loop-key
invariant-loop-key g l = Traced (g.E.Edges.leads l.edges) l.to (g.E.Set.KeySet.marked l.marks) (take l.key-index l.listed) l.found.items
