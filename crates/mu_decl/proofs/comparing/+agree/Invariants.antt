use Rattle.std.proofs.Common.{◌≡◌, ◌+◌, ◌*◌, take, map}
use Rattle.mu_decl.specs.Comparing.{read}
use Rattle.mu_decl.proofs.comparing.+agree.Given as goal

abbrev pub decreases-agree : goal.decreases-agree
decreases-agree l = 2 * l.levels

abbrev pub decreases-all_agree : goal.decreases-all_agree
decreases-all_agree l = 2 * l.levels + 1

abbrev pub invariant-all_agree-loop-i : goal.invariant-all_agree-loop-i
invariant-all_agree-loop-i l = map (read l.given l.reading) (take l.i l.patterns) ≡ take l.i l.trees
