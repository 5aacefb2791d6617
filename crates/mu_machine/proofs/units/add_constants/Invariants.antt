use Rattle.std.proofs.Common.{◌≡◌, ◌++◌, take}
use Rattle.std.specs.List.{flat_map}
use Rattle.mu_machine.specs.Units.{constant_lines}
use Rattle.mu_machine.proofs.units.add_constants.Given as goal

abbrev pub invariant-loop-name : goal.invariant-loop-name
invariant-loop-name l = l.page.items ≡ l.initial.page.items ++ flat_map (constant_lines l.store) (take l.name-index l.name-items)
