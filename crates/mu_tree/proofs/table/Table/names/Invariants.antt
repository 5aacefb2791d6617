use Rattle.std.proofs.Common.{◌≡◌, ◌++◌}
use Rattle.mu_tree.proofs.table.Table.names.Given as goal

abbrev pub invariant-loop-name : goal.invariant-loop-name
invariant-loop-name g l = l.names ++ l.name-iterator ≡ l.initial.name-iterator
