use Rattle.mu_flat.proofs.Keeping.{undefined}
use Rattle.mu_flat.specs.Stores.{IsKept, entries_of}
use Rattle.mu_tree.specs.Maps.{MapOf}
use Rattle.mu_tree.specs.declared.claim.Definition.{Definition}
use Rattle.std.proofs.Common.{sym, subst}
use Rattle.mu_flat.proofs.stores.Store.undefine.Goals as goal

pub invariant_of-self : goal.invariant_of-self
invariant_of-self c = subst (λ (definitions : MapOf Definition). IsKept (record c.self.inside { definitions = definitions })) (sym c.take.ensures.taken) (record { valid = undefined (entries_of c.self.inside) c.self.invariant.valid c.args.name.now; base = c.self.invariant.base })
