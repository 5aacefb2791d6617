use Rattle.mu_flat.proofs.stores.StoreContext.own.Goals as goal

pub with_base_names-requires : goal.with_base_names-requires
with_base_names-requires c name declared is =
    let old = c.self.invariant.valid.constant name declared is in (old.1, (c.self.invariant.valid.unit declared.theory old.2).1)
