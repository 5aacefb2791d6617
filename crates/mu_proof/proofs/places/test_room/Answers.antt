use Rattle.std.proofs.Common.{arith}
use Rattle.std.proofs.lemmas.Bool.Decides.{nat_tests}
use Rattle.mu_proof.proofs.ProofLemmas.{inserted_count}
use Rattle.mu_proof.proofs.places.test_room.Goals as goal

pub returns-then-count_after-gt-MOST_ITEMS-clause-fault : goal.returns-then-count_after-gt-MOST_ITEMS-clause-fault
returns-then-count_after-gt-MOST_ITEMS-clause-fault c before =
    let count = inserted_count c.args.items.now c.requires.proof c.args.block.now before c.args.new.now c.requires.block in
    let deep = c.depth_after.ensures before in
    grind (arith, nat_tests)

pub returns-clause-ok : goal.returns-clause-ok
returns-clause-ok c before =
    let count = inserted_count c.args.items.now c.requires.proof c.args.block.now before c.args.new.now c.requires.block in
    let deep = c.depth_after.ensures before in
    grind (arith, nat_tests)
