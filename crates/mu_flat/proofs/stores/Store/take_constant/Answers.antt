use Rattle.mu_decl.specs.declared.declaration.ConstDecl.{ConstDecl}
use Rattle.mu_flat.proofs.Validity.{valid_constant_taken}
use Rattle.mu_flat.specs.Entries.{Entries}
use Rattle.mu_flat.specs.Stores.{IsKept, entries_of}
use Rattle.mu_tree.specs.Maps.{MapOf}
use Rattle.std.proofs.Common.{sym, subst}
use Rattle.std.specs.FinMap as finite
use Rattle.std.specs.Prelude.{◌≡◌, false}
use Rattle.mu_flat.proofs.stores.Store.take_constant.Goals as goal

pub invariant_of-self : goal.invariant_of-self
invariant_of-self c = subst (λ (constants : MapOf ConstDecl). IsKept (record c.self.inside { constants = constants })) (sym c.take.ensures.taken) (record { valid = valid_constant_taken (entries_of c.self.inside) c.self.invariant.valid c.args.name.now (subst (λ (e : Entries). finite.contains_key e.definitions c.args.name.now ≡ false) (sym c.self.view_is) c.requires); base = c.self.invariant.base })
