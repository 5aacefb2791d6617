use Rattle.std.proofs.Common.{◌≡◌, ◌++◌, map}
use Rattle.std.specs.List.{flat_map}
use Rattle.std.specs.Map.Iter.{deref_pair}
use Rattle.mu_machine.specs.Units.{constant_line}
use Rattle.mu_machine.proofs.units.add_base_constants.Given as goal

abbrev pub invariant-loop-entry : goal.invariant-loop-entry
invariant-loop-entry l = l.page.items ≡ l.initial.page.items ++ flat_map constant_line (map deref_pair l.yielded)
