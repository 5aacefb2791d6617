use Rattle.mu_defs.proofs.Settled.{settled}
use Rattle.mu_flat.proofs.Keeping.{unit_added}
use Rattle.mu_flat.specs.Entries.{Entries}
use Rattle.mu_flat.specs.Stores.{IsKept, entries_of}
use Rattle.mu_tree.specs.Maps.{MapOf, NamesOf}
use Rattle.std.proofs.Common.{sym, subst}
use Rattle.std.specs.FinMap as finite
use Rattle.std.specs.Prelude.{◌≡◌, ◌<◌, false}
use Rattle.mu_flat.proofs.stores.Store.add_unit.Goals as goal

pub invariant_of-self : goal.invariant_of-self
invariant_of-self c =
    settled (λ (units : MapOf NamesOf). IsKept (record c.self.inside { units = units })) c.self.inside.units (finite.insert c.self.inside.units c.args.name finite.empty) c.add.new.self
    c.add.result c.add.ensures.ok c.add.ensures.err c.self.invariant
    (record { valid = unit_added (entries_of c.self.inside) c.self.invariant.valid c.args.name c.requires.plain c.requires.other (subst (λ (e : Entries). finite.contains_key e.units c.args.name ≡ false) (sym c.self.view_is) c.requires.new) (subst (λ (e : Entries). finite.len e.units < 4096) (sym c.self.view_is) c.requires.room); base = c.self.invariant.base })
