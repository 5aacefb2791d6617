use Rattle.std.proofs.Common.{subst, sym}
use Rattle.mu_machine.specs.Sound.{IsSound}
use Rattle.mu_machine.proofs.SoundChanges.{sound_initial}
use Rattle.mu_machine.proofs.machines.Machine.new.Goals as goal

pub invariant_of-result : goal.invariant_of-result
invariant_of-result c = subst IsSound (sym c.in_ok-store.ensures) sound_initial
