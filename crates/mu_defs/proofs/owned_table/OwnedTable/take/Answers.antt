use Rattle.mu_tree.proofs.MapLemmas.{left_by}
use Rattle.mu_defs.proofs.IndexLemmas.{has_all_taken}
use Rattle.mu_defs.proofs.owned_table.OwnedTable.take.Goals as goal

pub invariant_of-self : goal.invariant_of-self
invariant_of-self g c =
    rw (c.take.ensures.taken, c.take-in-Some.ensures) (has_all_taken g.V.Owned.owner c.self.inside.values c.self.inside.by_owner c.args.name.now c.self.invariant c.owner.result.now)

pub invariant_of-self-in-None : goal.invariant_of-self-in-None
invariant_of-self-in-None g c = rw c.take.ensures.taken (λ name value is. c.self.invariant name value (left_by c.self.inside.values c.args.name.now name value is).1)
