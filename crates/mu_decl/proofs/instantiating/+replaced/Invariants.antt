use Rattle.std.proofs.Common.{◌≡◌, ◌+◌, ◌≤◌, take, map}
use Rattle.mu_decl.specs.Instantiating.{instantiated}
use Rattle.mu_decl.specs.Weights.{weights}
use Rattle.mu_decl.proofs.instantiating.+replaced.Given as goal

abbrev pub invariant-replaced_all-loop-tree : goal.invariant-replaced_all-loop-tree
invariant-replaced_all-loop-tree l = record {
  value : l.all ≡ map (instantiated l.given) (take l.tree-index l.trees);
  counted : weights l.all + l.room ≤ l.initial.room;
}
