use Rattle.std.proofs.Common.{arith, ◌≡◌, true}
use Rattle.std.proofs.lemmas.Grind.{common_steps}
use Rattle.mu_status.specs.Derivations.{is_well_formed}
use Rattle.mu_status.proofs.Standing.{knows_formed}
use Rattle.mu_status.proofs.books.standing_of.Goals as goal

pub returns-clause-value : goal.returns-clause-value
returns-clause-value c =
    let formed : is_well_formed c.args.context.now.store.now c.args.statement.now ≡ true = grind (arith, common_steps) in
    knows_formed c.args.context.now.store.now c.args.rule.now c.args.statement.now record { ways = c.in_ok-ways.ways; otherwise = c.in_ok-otherwise.otherwise } c.is_empty-is_complete.result
    c.requires formed c.in_ok-ways.ensures.value c.is_empty-is_complete.ensures c.in_ok-otherwise.ensures
