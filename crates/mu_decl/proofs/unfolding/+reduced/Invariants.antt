use Rattle.std.proofs.Common.{◌≡◌, ◌+◌, ◌≤◌, take, map}
use Rattle.mu_decl.specs.Unfolding.{unfolded}
use Rattle.mu_decl.specs.Weights.{weights}
use Rattle.mu_decl.proofs.unfolding.+reduced.Given as goal

abbrev pub invariant-reduced_all-loop-tree : goal.invariant-reduced_all-loop-tree
invariant-reduced_all-loop-tree l = record {
  value : l.all ≡ map (unfolded l.delta) (take l.tree-index l.trees);
  counted : weights l.all + l.room ≤ l.initial.room;
}
