use Rattle.mu_edit.proofs.refusals.permit.Goals as goal

pub returns-in-Parent : goal.returns-in-Parent
returns-in-Parent c = rw c.in-Parent.is c.permit_parent.ensures.reason

pub returns-in-Cite : goal.returns-in-Cite
returns-in-Cite c = rw c.in-Cite.is c.permit_cite.ensures
