use Rattle.std.proofs.Common.{ℕ, ◌≡◌, ◌+◌, ◌-◌, ◌^◌, ◌≤◌, List, length}
use Rattle.std.specs.Io.KnownBytes.{prepend_known}
use Rattle.mural.specs.Lines.{most_input}
use Rattle.mural.specs.Interpreter.{Served}
use Rattle.mural.proofs.runs.serve.Given as goal

abbrev pub invariant-loop-taken : goal.invariant-loop-taken
invariant-loop-taken g l = (bytes : List ℕ) × record {
  left : (g.O.Outside.observed l.fn.out).left ≡ prepend_known bytes (g.O.Outside.observed l.out).left;
  served : Served (g.O.Outside.observed l.fn.out).told bytes l.interpreter.machine l.interpreter.line.items l.interpreter.refused (g.O.Outside.observed l.out).told;
  count : l.count ≡ length bytes;
  most : length bytes ≤ most_input;
  read : (g.O.Outside.observed l.fn.out).read_faults ≤ (g.O.Outside.observed l.out).read_faults;
  tell : (g.O.Outside.observed l.fn.out).tell_faults ≤ (g.O.Outside.observed l.out).tell_faults;
}

abbrev pub decreases-loop-taken : goal.decreases-loop-taken
decreases-loop-taken g l = 2 ^ 28 + 1 - l.count
