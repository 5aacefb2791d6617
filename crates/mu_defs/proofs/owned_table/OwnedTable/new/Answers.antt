use Rattle.mu_defs.proofs.IndexLemmas.{has_all_none}
use Rattle.mu_defs.proofs.owned_table.OwnedTable.new.Goals as goal

pub invariant_of-result : goal.invariant_of-result
invariant_of-result g c = rw c.new.ensures (has_all_none g.V.Owned.owner c.new-2.result)
