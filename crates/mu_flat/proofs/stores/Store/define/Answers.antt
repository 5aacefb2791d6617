use Rattle.mu_defs.proofs.Settled.{settled}
use Rattle.mu_defs.specs.DefinitionTables.{first_constant}
use Rattle.mu_flat.proofs.Keeping.{defined}
use Rattle.mu_flat.specs.Entries.{Entries}
use Rattle.mu_flat.specs.Stores.{IsKept, entries_of}
use Rattle.mu_tree.specs.Maps.{MapOf}
use Rattle.mu_tree.specs.declared.claim.Definition.{Definition}
use Rattle.std.proofs.Common.{sym, subst}
use Rattle.std.specs.FinMap as finite
use Rattle.std.specs.Prelude.{◌≡◌, true, None}
use Rattle.mu_flat.proofs.stores.Store.define.Goals as goal

pub invariant_of-self : goal.invariant_of-self
invariant_of-self c =
    settled (λ (definitions : MapOf Definition). IsKept (record c.self.inside { definitions = definitions })) c.self.inside.definitions (finite.insert c.self.inside.definitions c.args.name c.args.definition) c.put.new.self
    c.put.result c.put.ensures.ok c.put.ensures.err c.self.invariant
    (record { valid = defined (entries_of c.self.inside) c.self.invariant.valid c.args.name c.args.definition (subst (λ (e : Entries). finite.contains_key e.constants c.args.name ≡ true) (sym c.self.view_is) c.requires.there) (subst (λ (e : Entries). first_constant (finite.insert e.definitions c.args.name c.args.definition) ≡ None) (sym c.self.view_is) c.requires.free); base = c.self.invariant.base })
