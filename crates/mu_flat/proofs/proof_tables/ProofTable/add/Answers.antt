use Rattle.std.proofs.Common.{arith, ◌≡◌, ◌<◌, ◌+◌, refl, sym, subst, None}
use Rattle.mu_flat.specs.KeptProofs.{IsKept}
use Rattle.mu_flat.specs.ProofTables.{ProofsOf, proof_at, count_proofs}
use Rattle.mu_flat.proofs.ProofKeeping.{kept_added}
use Rattle.mu_flat.proofs.proof_tables.ProofTable.add.Goals as goal

pub overflow_add-self : goal.overflow_add-self
overflow_add-self c =
    let room : count_proofs c.self.inside.by_rule < 65536 = subst (λ (proofs : ProofsOf). count_proofs proofs < 65536) (sym c.self.view_is) c.requires.room in
    let count = c.self.invariant.count in
    omega (arith, room, count)

pub invariant_of-self-2 : goal.invariant_of-self-2
invariant_of-self-2 c = subst (λ (proofs : ProofsOf). IsKept (record c.self.inside { by_rule = proofs; count = c.self.inside.count + 1 })) (sym c.in_ok-add_in.ensures.ok)
    (kept_added c.self.inside c.self.invariant c.args.rule c.args.proof c.requires.plain (subst (λ (proofs : ProofsOf). proof_at proofs c.args.rule c.args.proof ≡ None) (sym c.self.view_is) c.requires.new)
    (subst (λ (proofs : ProofsOf). count_proofs proofs < 65536) (sym c.self.view_is) c.requires.room) (c.self.inside.count + 1) refl)
