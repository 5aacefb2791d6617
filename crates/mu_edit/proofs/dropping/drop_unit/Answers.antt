use Rattle.mu_edit.proofs.TestLemmas.{empty_unit}
use Rattle.mu_edit.proofs.dropping.drop_unit.Goals as goal

pub take_unit-requires : goal.take_unit-requires
take_unit-requires c = empty_unit c.args.store.now c.args.unit.now c.in_ok-permit_no_unit.ensures.empty
