use Rattle.mu_decl.specs.declared.declaration.Statement.{Statement}
use Rattle.mu_flat.proofs.Validity.{valid_rule_taken}
use Rattle.mu_flat.specs.Stores.{IsKept, entries_of}
use Rattle.mu_tree.specs.Maps.{MapOf}
use Rattle.std.proofs.Common.{sym, subst}
use Rattle.mu_flat.proofs.stores.Store.take_rule.Goals as goal

pub invariant_of-self : goal.invariant_of-self
invariant_of-self c = subst (λ (rules : MapOf Statement). IsKept (record c.self.inside { rules = rules })) (sym c.take.ensures.taken) (record { valid = valid_rule_taken (entries_of c.self.inside) c.self.invariant.valid c.args.name.now; base = c.self.invariant.base })
