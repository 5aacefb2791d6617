use Rattle.std.proofs.Common.{◌≡◌, take}
use Rattle.mu_outside.specs.Scenes.{start, played}
use Rattle.mu_outside.proofs.replays.replayed.Given as goal

abbrev pub invariant-loop-call : goal.invariant-loop-call
invariant-loop-call l = l.replay ≡ played (start l.first) (take l.call-index l.calls)
