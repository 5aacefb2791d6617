use Rattle.std.proofs.Common.{◌≡◌, ◌∙◌, ap, ℕ, List}
use Rattle.mu_flat.specs.CiterTables.{CitersOf, with_citer}
use Rattle.mu_flat.proofs.Citing.{citer_added}
use Rattle.mu_flat.proofs.proof_tables.add_citer.Goals as goal

pub returns-in_ok-add-clause-ok : goal.returns-in_ok-add-clause-ok
returns-in_ok-add-clause-ok c =
    let old : CitersOf = c.args.citers.now in
    let added : c.add.new.self ≡ with_citer old c.in-Rule.rule c.args.citer.now =
    c.in_ok-add.ensures.ok ∙ ap (λ (rule : List ℕ). with_citer old rule c.in_ok-copy-2.field-0) c.in_ok-copy.ensures ∙ ap (λ (citer : List ℕ). with_citer old c.in-Rule.rule citer) c.in_ok-copy-2.ensures in
    rw (c.in-Rule.is, added) (citer_added old c.in-Rule.rule c.args.citer.now c.in-Rule.via c.in-Rule.refs c.in-Rule.inst)
