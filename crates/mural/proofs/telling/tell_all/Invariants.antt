use Rattle.std.proofs.Common.{length, ◌-◌, ◌≡◌, ◌≤◌, take}
use Rattle.std.specs.Io.KnownBytes.{append_known}
use Rattle.mu_outside.specs.Outsides.{KeepsButTold}
use Rattle.mural.proofs.telling.tell_all.Given as goal

abbrev pub invariant-loop-at : goal.invariant-loop-at
invariant-loop-at g l = record {
  within : l.at ≤ length l.bytes;
  told : (g.O.Outside.observed l.out).told ≡ append_known (g.O.Outside.observed l.fn.out).told (take l.at l.bytes);
  rest : KeepsButTold (g.O.Outside.observed l.fn.out) (g.O.Outside.observed l.out);
  later : (g.O.Outside.observed l.fn.out).tell_faults ≤ (g.O.Outside.observed l.out).tell_faults;
}

abbrev pub decreases-loop-at : goal.decreases-loop-at
decreases-loop-at g l = length l.bytes - l.at
