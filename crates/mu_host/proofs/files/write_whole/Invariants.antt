use Rattle.std.proofs.Common.{length, ◌-◌}
use Rattle.mu_host.proofs.files.write_whole.Given as goal

abbrev pub decreases-loop-done : goal.decreases-loop-done
decreases-loop-done l = length l.bytes - l.done
