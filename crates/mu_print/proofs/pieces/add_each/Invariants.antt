use Rattle.std.proofs.Common.{◌≡◌, ◌++◌, take, map}
use Rattle.std.specs.List.{flat_map}
use Rattle.mu_print.specs.Texts.{behind}
use Rattle.mu_print.proofs.pieces.add_each.Given as goal

abbrev pub invariant-loop-item : goal.invariant-loop-item
invariant-loop-item g l = l.out.items ≡ l.initial.out.items ++ flat_map (behind l.separator) (map g.T.Printed.text (take l.item-index l.items))
