use Rattle.mu_machine.proofs.Storable.{storable}
use Rattle.mu_machine.proofs.plans.carry_out.Goals as goal

pub apply-requires : goal.apply-requires
apply-requires c = storable c.args.command c.requires
