use Rattle.std.proofs.Common.{ap, ◌∙◌}
use Rattle.std.specs.Option.{option_copied}
use Rattle.mu_proof.specs.Proofs.{insert_fault}
use Rattle.mu_proof.proofs.ProofLemmas.{faultless}
use Rattle.mu_proof.proofs.proofs.Proof.insert.Goals as goal

pub invariant_of-self-2 : goal.invariant_of-self-2
invariant_of-self-2 c =
    rw c.in_ok-insert_at.ensures.ok
    (faultless c.self.inside.items c.args.block.now (option_copied c.args.before) c.args.item c.self.invariant
    (ap (λ items. insert_fault items c.args.block.now (option_copied c.args.before) c.args.item) c.self.view_is ∙ c.in_ok-test_insert.ensures.ok))
