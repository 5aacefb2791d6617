use Rattle.std.proofs.Common.{◌≡◌, length, true}
use Rattle.std.specs.Prelude.{◌⊎◌}
use Rattle.mu_graph.specs.Derivations.{Stands}
use Rattle.mu_graph.specs.Derivations.{AreReached}
use Rattle.mu_graph.proofs.derivations.reached.Given as goal

abbrev pub invariant-loop-marks : goal.invariant-loop-marks
invariant-loop-marks g l =
    let marked = g.C.Set.KeySet.marked in
    record {
      sound : AreReached (marked l.initial.marks) (g.C.Inferences.ways l.causes) (marked l.marks);
      stay : (n : _) → marked l.initial.marks n ≡ true → marked l.marks n ≡ true;
      covers : (n : _) → Stands n l.fn.order.items → (marked l.marks n ≡ true) ⊎ Stands n l.pending.items;
    }

abbrev pub decreases-loop-marks : goal.decreases-loop-marks
decreases-loop-marks g l = length l.pending.items
