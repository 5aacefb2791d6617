use Rattle.std.proofs.Common.{◌≡◌, ◌++◌, map}
use Rattle.std.specs.Prelude.{◌≤◌}
use Rattle.std.specs.List.{flat_map}
use Rattle.std.specs.Map.Iter.{deref_pair}
use Rattle.mu_check.specs.Goals.{IsChecker}
use Rattle.mu_flat.specs.Entries.{world_of}
use Rattle.mu_machine.specs.Pages.{proof_line}
use Rattle.mu_machine.proofs.pages.add_checked.Given as goal

abbrev pub invariant-loop-entry : goal.invariant-loop-entry
invariant-loop-entry l = record {
  page : l.page.items ≡ l.initial.page.items ++ flat_map (proof_line l.store l.initial.checker.rule) (map deref_pair l.yielded);
  checker : IsChecker (world_of l.store) l.checker;
  rule : l.checker.rule ≡ l.initial.checker.rule;
  work : l.initial.work.lines ≤ l.work.lines;
}
