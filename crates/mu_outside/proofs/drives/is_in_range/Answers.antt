use Rattle.std.proofs.Common.{◌≤◌, ◌<◌, get_or, rules, tests, arith}
use Rattle.mu_outside.proofs.RangeLemmas.{none_more, in_one}
use Rattle.mu_outside.proofs.drives.is_in_range.Goals as goal

pub returns-then-contains : goal.returns-then-contains
returns-then-contains c =
    let low : (get_or c.args.ranges.now c.loop-range.range-index (0, 0)).0 ≤ c.args.place = search (rules, tests) in
    let high : c.args.place < (get_or c.args.ranges.now c.loop-range.range-index (0, 0)).1 = search (rules, tests) in
    ((λ yes. in_one c.args.ranges.now c.loop-range.range-index (0, 0) c.args.place (omega arith) (low, high)), (λ within. search rules))

pub loop-range-preserved : goal.loop-range-preserved
loop-range-preserved c = none_more c.args.ranges.now c.loop-range.range-index (0, 0) c.args.place (omega arith) c.loop-range.invariant (λ within. search (rules, tests))
