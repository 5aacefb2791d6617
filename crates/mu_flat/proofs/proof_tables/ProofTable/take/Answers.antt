use Rattle.std.proofs.Common.{arith, ◌-◌, ◌∙◌, sym, ap, subst, cond}
use Rattle.mu_flat.specs.KeptProofs.{IsKept}
use Rattle.mu_flat.specs.ProofTables.{ProofsOf}
use Rattle.mu_flat.proofs.ProofChanges.{some_counts}
use Rattle.mu_flat.proofs.ProofKeeping.{kept_taken}
use Rattle.mu_flat.proofs.proof_tables.ProofTable.take.Goals as goal

pub overflow_sub-self : goal.overflow_sub-self
overflow_sub-self c =
    let some = some_counts c.self.inside.by_rule c.args.rule.now c.args.proof.now (sym c.take_in-found.ensures.found ∙ c.if-found.true) in
    let count = c.self.invariant.count in
    omega (arith, some, count)

pub invariant_of-self : goal.invariant_of-self
invariant_of-self c = subst (λ (proofs : ProofsOf). IsKept (record c.self.inside { by_rule = proofs; count = c.self.inside.count - 1 })) (sym c.take_in-found.ensures.taken)
    (kept_taken c.self.inside c.self.invariant c.args.rule.now c.args.proof.now (c.self.inside.count - 1)
    (ap (λ b. cond b (c.self.inside.count - 1) c.self.inside.count) (sym (sym c.take_in-found.ensures.found ∙ c.if-found.true))))

pub invariant_of-self-else-found : goal.invariant_of-self-else-found
invariant_of-self-else-found c = subst (λ (proofs : ProofsOf). IsKept (record c.self.inside { by_rule = proofs; count = c.self.inside.count })) (sym c.take_in-found.ensures.taken)
    (kept_taken c.self.inside c.self.invariant c.args.rule.now c.args.proof.now c.self.inside.count
    (ap (λ b. cond b (c.self.inside.count - 1) c.self.inside.count) (sym (sym c.take_in-found.ensures.found ∙ c.if-found.false))))
