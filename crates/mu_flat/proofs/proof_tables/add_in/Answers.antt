use Rattle.std.proofs.Common.{◌≡◌, ◌∙◌, [], ap}
use Rattle.std.specs.FinMap as finite
use Rattle.std.proofs.lemmas.Result.{on_ok_weaker, on_err_weaker}
use Rattle.mu_flat.proofs.ProofTables.{left_alone, where_lent, own_is}
use Rattle.mu_flat.proofs.proof_tables.add_in.Goals as goal

-- what is lent stands at the rule afterwards
written : (c : goal.After-drop-rule-inside) → c.get_mut.follows.lender c.put.new.self ≡ finite.insert c.args.by_rule.now c.args.rule c.put.new.self
written c = where_lent c.get_mut.result c.in-Some.proofs c.in-Some.is (c.get_mut.follows.holds c.put.new.self)

pub returns-in-Some-clause-ok : goal.returns-in-Some-clause-ok
returns-in-Some-clause-ok c = on_ok_weaker c.put.result (λ put.
    written c
    ∙ ap (finite.insert c.args.by_rule.now c.args.rule) (put ∙ ap (finite.insert c.in-Some.proofs.now c.args.proof) c.new.ensures)
    ∙ ap (λ own. finite.insert c.args.by_rule.now c.args.rule (finite.insert own c.args.proof [])) (own_is c.args.by_rule.now c.args.rule c.args.proof c.in-Some.proofs.now c.in-Some.ensures.value)) c.put.ensures.ok

pub returns-in-Some-clause-err : goal.returns-in-Some-clause-err
returns-in-Some-clause-err c = on_err_weaker c.put.result (λ kept.
    left_alone c.args.by_rule.now (c.get_mut.follows.lender c.put.new.self) c.args.rule c.in-Some.proofs.now c.put.new.self c.in-Some.ensures.value (written c) kept) c.put.ensures.err
