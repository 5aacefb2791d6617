use Rattle.std.proofs.Common.{◌≡◌}
use Rattle.mu_tree.proofs.sequence.Sequence.fit.Given as goal

-- the items so far have been moved
abbrev pub invariant-loop-item : goal.invariant-loop-item
invariant-loop-item g l = l.items.items ≡ l.yielded
