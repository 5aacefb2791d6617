use Rattle.mu_defs.proofs.Settled.{settled}
use Rattle.mu_defs.specs.Units.{first_unit, with_parent}
use Rattle.mu_flat.proofs.Keeping.{parent_added}
use Rattle.mu_flat.specs.Entries.{Entries}
use Rattle.mu_flat.specs.Entries.{IsTheory}
use Rattle.mu_flat.specs.Stores.{IsKept, entries_of}
use Rattle.mu_tree.specs.Maps.{MapOf, NamesOf}
use Rattle.std.proofs.Common.{sym, subst}
use Rattle.std.specs.Prelude.{◌≡◌, None}
use Rattle.mu_flat.proofs.stores.Store.add_parent.Goals as goal

pub invariant_of-self : goal.invariant_of-self
invariant_of-self c =
    settled (λ (units : MapOf NamesOf). IsKept (record c.self.inside { units = units })) c.self.inside.units (with_parent c.self.inside.units c.args.unit.now c.args.parent) c.add_parent.new.self
    c.add_parent.result c.add_parent.ensures.ok c.add_parent.ensures.err c.self.invariant
    (record { valid = parent_added (entries_of c.self.inside) c.self.invariant.valid c.args.unit.now c.args.parent (subst (λ (e : Entries). IsTheory e c.args.unit.now) (sym c.self.view_is) c.requires.there) (subst (λ (e : Entries). first_unit (with_parent e.units c.args.unit.now c.args.parent) ≡ None) (sym c.self.view_is) c.requires.free); base = c.self.invariant.base })
