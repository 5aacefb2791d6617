use Rattle.std.proofs.Common.{◌≡◌, ◌≤◌, map}
use Rattle.std.specs.Map.Iter.{deref_pair}
use Rattle.mu_check.specs.Goals.{IsChecker}
use Rattle.mu_flat.specs.Entries.{world_of}
use Rattle.mu_status.specs.Statuses.{proof_ways}
use Rattle.mu_status.proofs.books.checked_ways.Given as goal

abbrev pub invariant-loop-entry : goal.invariant-loop-entry
invariant-loop-entry l = record {
  ways : l.ways ≡ proof_ways l.context.store.now l.initial.checker.rule (map deref_pair l.yielded);
  checker : IsChecker (world_of l.context.store.now) l.checker;
  rule : l.checker.rule ≡ l.initial.checker.rule;
  work : l.initial.work.lines ≤ l.work.lines;
}
