use Rattle.mu_graph.specs.Derivations.{Passed}
use Rattle.mu_graph.proofs.derivations.pass.Given as goal

abbrev pub invariant-loop-key : goal.invariant-loop-key
invariant-loop-key g l = Passed (g.C.Inferences.ways l.causes) (g.C.Set.KeySet.marked l.initial.marks) (g.C.Set.KeySet.marked l.marks) l.yielded l.left.items
