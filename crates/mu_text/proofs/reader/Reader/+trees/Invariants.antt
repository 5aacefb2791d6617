use Rattle.std.proofs.Common.{ℕ, ◌≤◌, List, length, ◌+◌, ◌-◌, ◌*◌}
use Rattle.mu_grammar.specs.Machine.{want, have}
use Rattle.mu_text.specs.Reads.{Goes}
use Rattle.mu_text.proofs.Steps.{Back}
use Rattle.mu_text.proofs.reader.Reader.+trees.Given as goal

abbrev pub decreases-tree : goal.decreases-tree
decreases-tree l = 20 * l.nesting + (2 * (8 - l.least) + 2)

abbrev pub decreases-operation : goal.decreases-operation
decreases-operation l = 20 * l.nesting + (2 * (8 - l.least) + 1)

abbrev pub decreases-operand : goal.decreases-operand
decreases-operand l = 20 * l.nesting + (2 * (8 - l.least) + 1)

abbrev pub decreases-paren : goal.decreases-paren
decreases-paren l = 20 * l.nesting + 2

abbrev pub decreases-negation : goal.decreases-negation
decreases-negation l = 20 * l.nesting + 2

abbrev pub decreases-named : goal.decreases-named
decreases-named l = 20 * l.nesting + 2

abbrev pub decreases-binder : goal.decreases-binder
decreases-binder l = 20 * l.nesting

abbrev pub decreases-arguments : goal.decreases-arguments
decreases-arguments l = 20 * l.nesting

abbrev pub invariant-tree-loop-op : goal.invariant-tree-loop-op
invariant-tree-loop-op l = record {
  shorter : length l.self ≤ length l.fn.self;
  takes : Goes (want l.nesting l.least) (have l.nesting l.least) l.fn.self l.self l.left;
}

abbrev pub decreases-tree-loop-op : goal.decreases-tree-loop-op
decreases-tree-loop-op l = length l.self

abbrev pub invariant-arguments-loop-args : goal.invariant-arguments-loop-args
invariant-arguments-loop-args l = record {
  shorter : length l.self ≤ length l.fn.self;
  gives : (x : List ℕ) → Back l.head x l.nesting l.least l.fn.self l.self l.args;
}

abbrev pub decreases-arguments-loop-args : goal.decreases-arguments-loop-args
decreases-arguments-loop-args l = length l.self
