use Rattle.std.proofs.Common.{◌≡◌, ◌++◌, take, map}
use Rattle.std.specs.Prelude.{codes}
use Rattle.std.specs.List.{flat_map}
use Rattle.mu_print.specs.Canonical.{tree_text}
use Rattle.mu_print.specs.Texts.{behind}
use Rattle.mu_print.proofs.canonical.+tree.Given as goal

abbrev pub invariant-list-loop-one : goal.invariant-list-loop-one
invariant-list-loop-one l = l.out.items ≡ l.initial.out.items ++ flat_map (behind (codes ", ")) (map tree_text (take l.one-index l.rest))
