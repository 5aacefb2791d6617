use Rattle.std.proofs.Common.{◌∙◌, sym, ap}
use Rattle.std.specs.Prelude.{is_some}
use Rattle.std.proofs.lemmas.Bool.{false≢true}
use Rattle.mu_flat.proofs.ProofTables.{where_lent, proof_at-absent, proof_of_own, owned_empty, owned_some, owned_none}
use Rattle.mu_flat.proofs.proof_tables.take_in.Goals as goal

pub returns-in_default-clause-found : goal.returns-in_default-clause-found
returns-in_default-clause-found c = sym (ap is_some (proof_at-absent c.args.by_rule.now c.args.rule.now c.args.proof.now (ap is_some (sym c.in_default.ensures.value))))

pub returns-in_default-clause-taken : goal.returns-in_default-clause-taken
returns-in_default-clause-taken c = c.get_mut.follows.holds-at-none ∙ sym (owned_none c.args.by_rule.now c.args.rule.now c.args.proof.now (sym c.in_default.ensures.value))

pub returns-then-is_empty-clause-found : goal.returns-then-is_empty-clause-found
returns-then-is_empty-clause-found c =
    c.is_some-found.ensures ∙ ap is_some (c.take.ensures.value ∙ proof_of_own c.args.by_rule.now c.args.rule.now c.args.proof.now c.in-Some.proofs.now c.in-Some.ensures.value)

pub returns-then-is_empty-clause-taken : goal.returns-then-is_empty-clause-taken
returns-then-is_empty-clause-taken c =
    c.take-then-is_empty.ensures.taken
    ∙ owned_empty c.args.by_rule.now c.args.rule.now c.args.proof.now c.in-Some.proofs.now c.take.new.self c.in-Some.ensures.value c.take.ensures.taken (c.get_mut.follows.lender c.take.new.self)
    (where_lent c.get_mut.result c.in-Some.proofs c.in-Some.is (c.get_mut.follows.holds c.take.new.self)) (c.is_empty.ensures.0 c.if-is_empty.true)

pub returns-else-is_empty-clause-found : goal.returns-else-is_empty-clause-found
returns-else-is_empty-clause-found c =
    c.is_some-found.ensures ∙ ap is_some (c.take.ensures.value ∙ proof_of_own c.args.by_rule.now c.args.rule.now c.args.proof.now c.in-Some.proofs.now c.in-Some.ensures.value)

pub returns-else-is_empty-clause-taken : goal.returns-else-is_empty-clause-taken
returns-else-is_empty-clause-taken c =
    owned_some c.args.by_rule.now c.args.rule.now c.args.proof.now c.in-Some.proofs.now c.take.new.self c.in-Some.ensures.value c.take.ensures.taken (c.get_mut.follows.lender c.take.new.self)
    (where_lent c.get_mut.result c.in-Some.proofs c.in-Some.is (c.get_mut.follows.holds c.take.new.self)) (λ none. false≢true (sym c.if-is_empty.false ∙ c.is_empty.ensures.1 none))
