use Rattle.mu_decl.proofs.pairing.taken_out.Goals as goal

pub returns : goal.returns
returns c = (c.in_ok-binders.binders, c.in_ok-binders.ensures, c.in_ok-low.ensures.value)
