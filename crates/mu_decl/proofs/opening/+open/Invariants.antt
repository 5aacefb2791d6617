use Rattle.std.proofs.Common.{◌≡◌, ◌+◌, ◌≤◌, take, map}
use Rattle.mu_decl.specs.Opening.{open_under}
use Rattle.mu_decl.specs.Weights.{weights}
use Rattle.mu_decl.proofs.opening.+open.Given as goal

abbrev pub invariant-open_all-loop-tree : goal.invariant-open_all-loop-tree
invariant-open_all-loop-tree l = record {
  value : l.all ≡ map (open_under l.by l.depth) (take l.tree-index l.trees);
  counted : weights l.all + l.room ≤ l.initial.room;
}
