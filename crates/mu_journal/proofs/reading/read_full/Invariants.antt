use Rattle.std.proofs.Common.{◌≡◌, ◌≤◌, ◌-◌, length, take, drop}
use Rattle.std.specs.Prelude.{IfSome}
use Rattle.mu_outside.specs.Outsides.{content}
use Rattle.mu_journal.specs.Opening.{Looks}
use Rattle.mu_journal.proofs.reading.read_full.Given as goal

abbrev pub invariant-loop-count : goal.invariant-loop-count
invariant-loop-count g l = record {
  within : l.count ≤ length l.buf;
  same : length l.buf ≡ length l.fn.buf;
  read : IfSome (content (g.O.Outside.observed l.fn.out)) (λ bytes. (take l.count (drop l.at bytes) ≡ take l.count l.buf) × (l.count ≤ length bytes - l.at));
  looks : Looks g.O.Outside.observed g.O.Outside.moment l.fn.out l.out;
}

abbrev pub decreases-loop-count : goal.decreases-loop-count
decreases-loop-count g l = length l.buf - l.count
