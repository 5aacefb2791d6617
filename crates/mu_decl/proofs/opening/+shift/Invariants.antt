use Rattle.std.proofs.Common.{◌≡◌, ◌+◌, ◌≤◌, take, map}
use Rattle.mu_decl.specs.Opening.{shift_under}
use Rattle.mu_decl.specs.Weights.{weights}
use Rattle.mu_decl.proofs.opening.+shift.Given as goal

abbrev pub invariant-shift_all-loop-tree : goal.invariant-shift_all-loop-tree
invariant-shift_all-loop-tree l = record {
  value : l.all ≡ map (shift_under l.by l.depth) (take l.tree-index l.trees);
  counted : weights l.all + l.room ≤ l.initial.room;
}
