use Rattle.std.proofs.Common.{◌≡◌, ◌++◌, take}
use Rattle.std.specs.List.{flat_map}
use Rattle.mu_machine.specs.Units.{rule_lines}
use Rattle.mu_machine.proofs.units.add_told.Given as goal

abbrev pub invariant-loop-at : goal.invariant-loop-at
invariant-loop-at l = l.page.items ≡ l.initial.page.items ++ flat_map (rule_lines l.store) (take l.at l.names)
