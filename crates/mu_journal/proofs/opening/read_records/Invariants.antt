use Rattle.std.proofs.Common.{◌≡◌, ◌≤◌, ◌<◌, ◌+◌, ◌-◌, ℕ, List, length, take, Some}
use Rattle.mu_outside.specs.Outsides.{content}
use Rattle.mu_journal.specs.Opening.{Looks}
use Rattle.mu_journal.specs.Gates.{IsParsed, IsKnown}
use Rattle.mu_journal.proofs.opening.read_records.Given as goal

abbrev pub invariant-loop-records : goal.invariant-loop-records
invariant-loop-records g l = record {
  looks : Looks g.O.Outside.observed g.O.Outside.moment l.fn.out l.out;
  known : (bytes : List ℕ) → content (g.O.Outside.observed l.fn.out) ≡ Some bytes → IsKnown bytes l.piece.from (take l.piece.count l.piece.bytes.items);
  parsed : (bytes : List ℕ) → content (g.O.Outside.observed l.fn.out) ≡ Some bytes → length bytes ≡ l.len → IsParsed bytes l.records l.at;
  number : l.number ≡ 1 + length l.records;
  small : l.number ≤ l.at;
  within : l.at < l.len;
}

abbrev pub decreases-loop-records : goal.decreases-loop-records
decreases-loop-records g l = l.len - l.at
