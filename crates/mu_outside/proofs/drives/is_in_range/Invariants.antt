use Rattle.std.proofs.Common.{take}
use Rattle.mu_outside.specs.Disks.{InRange}
use Rattle.mu_outside.proofs.drives.is_in_range.Given as goal

abbrev pub invariant-loop-range : goal.invariant-loop-range
invariant-loop-range l = InRange (take l.range-index l.ranges) l.place → ⊥
