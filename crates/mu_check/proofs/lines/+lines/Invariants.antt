use Rattle.std.proofs.Common.{◌≡◌, ◌-◌, ◌^◌, take, map, min, sum}
use Rattle.mu_check.specs.Lines.{lines}
use Rattle.mu_check.proofs.lines.+lines.Given as goal

abbrev pub invariant-lines_of-loop-item : goal.invariant-lines_of-loop-item
invariant-lines_of-loop-item l = l.count ≡ min (sum (map lines (take l.item-index l.items))) (2 ^ 64 - 1)
