use Rattle.mu_decl.specs.declared.declaration.Statement.{Statement}
use Rattle.mu_defs.proofs.Settled.{settled}
use Rattle.mu_flat.proofs.Validity.{valid_rule_put}
use Rattle.mu_flat.specs.Entries.{Entries}
use Rattle.mu_flat.specs.Entries.{IsTheory}
use Rattle.mu_flat.specs.Stores.{IsKept, entries_of}
use Rattle.mu_tree.specs.Maps.{MapOf}
use Rattle.std.proofs.Common.{sym, subst}
use Rattle.std.specs.FinMap as finite
use Rattle.std.specs.Prelude.{◌≡◌, ◌<◌, false}
use Rattle.mu_flat.proofs.stores.Store.put_rule.Goals as goal

pub invariant_of-self : goal.invariant_of-self
invariant_of-self c =
    settled (λ (rules : MapOf Statement). IsKept (record c.self.inside { rules = rules })) c.self.inside.rules (finite.insert c.self.inside.rules c.args.name c.args.statement) c.put.new.self
    c.put.result c.put.ensures.ok c.put.ensures.err c.self.invariant
    (record { valid = valid_rule_put (entries_of c.self.inside) c.self.invariant.valid c.args.name c.args.statement c.requires.plain (subst (λ (e : Entries). IsTheory e c.args.statement.theory) (sym c.self.view_is) c.requires.theory) (subst (λ (e : Entries). finite.contains_key e.rules c.args.name ≡ false → finite.len e.rules < 65536) (sym c.self.view_is) c.requires.room); base = c.self.invariant.base })
