use Rattle.mu_decl.specs.declared.declaration.ConstDecl.{ConstDecl}
use Rattle.mu_defs.proofs.Settled.{settled}
use Rattle.mu_flat.proofs.Validity.{valid_constant_put}
use Rattle.mu_flat.specs.Entries.{Entries}
use Rattle.mu_flat.specs.Entries.{IsTheory}
use Rattle.mu_flat.specs.Stores.{IsKept, entries_of}
use Rattle.mu_tree.specs.Maps.{MapOf}
use Rattle.std.proofs.Common.{sym, subst}
use Rattle.std.specs.FinMap as finite
use Rattle.std.specs.Prelude.{◌≡◌, ◌<◌, false}
use Rattle.mu_flat.proofs.stores.Store.put_constant.Goals as goal

pub invariant_of-self : goal.invariant_of-self
invariant_of-self c =
    settled (λ (constants : MapOf ConstDecl). IsKept (record c.self.inside { constants = constants })) c.self.inside.constants (finite.insert c.self.inside.constants c.args.name c.args.declared) c.put.new.self
    c.put.result c.put.ensures.ok c.put.ensures.err c.self.invariant
    (record { valid = valid_constant_put (entries_of c.self.inside) c.self.invariant.valid c.args.name c.args.declared c.requires.plain c.requires.other (subst (λ (e : Entries). IsTheory e c.args.declared.theory) (sym c.self.view_is) c.requires.theory) (subst (λ (e : Entries). finite.contains_key e.constants c.args.name ≡ false → finite.len e.constants < 65536) (sym c.self.view_is) c.requires.room); base = c.self.invariant.base })
