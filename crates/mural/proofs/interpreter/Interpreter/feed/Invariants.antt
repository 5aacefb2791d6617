use Rattle.std.proofs.Common.{ℕ, ◌≤◌, List, ◌++◌, take, Option}
use Rattle.mu_outside.specs.Outsides.{KeepsButTold}
use Rattle.mural.specs.Interpreter.{Served}
use Rattle.mural.proofs.interpreter.Interpreter.feed.Given as goal

abbrev pub invariant-loop-byte : goal.invariant-loop-byte
invariant-loop-byte g l = record {
  served : (start : Option (List ℕ)) (first : List ℕ)
      → Served start first l.fn.self.machine l.fn.self.line.items l.fn.self.refused (g.O.Outside.observed l.fn.out).told
      → Served start (first ++ take l.byte-index l.bytes) l.self.machine l.self.line.items l.self.refused (g.O.Outside.observed l.out).told;
  rest : KeepsButTold (g.O.Outside.observed l.fn.out) (g.O.Outside.observed l.out);
  later : (g.O.Outside.observed l.fn.out).tell_faults ≤ (g.O.Outside.observed l.out).tell_faults;
}
