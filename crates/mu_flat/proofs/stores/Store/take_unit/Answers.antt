use Rattle.mu_flat.proofs.Keeping.{unit_taken}
use Rattle.mu_flat.specs.Entries.{Entries}
use Rattle.mu_flat.specs.Stores.{IsEmptyUnit}
use Rattle.mu_flat.specs.Stores.{IsKept, entries_of}
use Rattle.mu_tree.specs.Maps.{MapOf, NamesOf}
use Rattle.std.proofs.Common.{sym, subst}
use Rattle.mu_flat.proofs.stores.Store.take_unit.Goals as goal

pub invariant_of-self : goal.invariant_of-self
invariant_of-self c = subst (λ (units : MapOf NamesOf). IsKept (record c.self.inside { units = units })) (sym c.take.ensures.taken) (record { valid = unit_taken (entries_of c.self.inside) c.self.invariant.valid c.args.name.now (subst (λ (e : Entries). IsEmptyUnit e c.args.name.now) (sym c.self.view_is) c.requires); base = c.self.invariant.base })
