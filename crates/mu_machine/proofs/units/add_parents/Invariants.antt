use Rattle.std.proofs.Common.{◌≡◌, ◌++◌, take}
use Rattle.std.specs.List.{flat_map}
use Rattle.mu_machine.specs.Units.{parent_line}
use Rattle.mu_machine.proofs.units.add_parents.Given as goal

abbrev pub invariant-loop-parent : goal.invariant-loop-parent
invariant-loop-parent l = l.page.items ≡ l.initial.page.items ++ flat_map parent_line (take l.parent-index l.parent-items)
