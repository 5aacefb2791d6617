use Rattle.mu_flat.proofs.Validity.{valid_initial}
use Rattle.mu_flat.proofs.stores.Store.new.Goals as goal

pub invariant_of-result : goal.invariant_of-result
invariant_of-result c = rw (c.new.ensures, c.new-2.ensures, c.new-3.ensures, c.new-4.ensures, c.new-5.ensures) (record { valid = valid_initial; base = c.in_ok-base_table.ensures })
