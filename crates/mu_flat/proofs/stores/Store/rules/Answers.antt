use Rattle.std.proofs.Common.{subst}
use Rattle.mu_flat.specs.Entries.{IsValid}
use Rattle.mu_flat.proofs.stores.Store.rules.Goals as goal

pub returns-clause-valid : goal.returns-clause-valid
returns-clause-valid c = subst IsValid c.self.view_is c.self.invariant.valid
