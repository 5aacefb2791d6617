use Rattle.std.specs.FinMap as finite
use Rattle.mu_tree.specs.Maps.{MapOf, NamesOf}
use Rattle.mu_defs.specs.Units.{IsKept}
use Rattle.mu_defs.proofs.Settled.{settled}
use Rattle.mu_defs.proofs.UnitLemmas.{kept_added}
use Rattle.mu_defs.proofs.units.UnitTable.add.Goals as goal

pub invariant_of-self : goal.invariant_of-self
invariant_of-self c =
    settled (λ (units : MapOf NamesOf). IsKept (record c.self.inside { parents = units })) c.self.inside.parents (finite.insert c.self.inside.parents c.args.name c.new.result) c.put.new.self
    c.put.result c.put.ensures.ok c.put.ensures.err c.self.invariant (rw c.new.ensures (kept_added c.self.inside c.self.invariant c.args.name))
