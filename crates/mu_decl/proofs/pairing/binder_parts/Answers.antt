use Rattle.std.proofs.Common.{◌≡◌}
use Rattle.mu_decl.specs.declared.bare.Bare.TheVariants as bare
use Rattle.mu_decl.specs.Comparing.{read}
use Rattle.mu_decl.proofs.InStep.{both_in_step}
use Rattle.mu_decl.proofs.pairing.binder_parts.Goals as goal

pub returns-in-Some : goal.returns-in-Some
returns-in-Some c given =
    both_in_step _ c.args.name.now (read given c.args.reading c.args.domain.now) (read given c.in_ok-under.under c.args.body.now) c.in-Some.tree_domain.now c.in-Some.tree_body.now c.args.tree.now
    (c.in_ok-under.ensures given c.args.name.now c.args.domain.now c.args.body.now) (let whole : bare.Bind c.args.name.now c.in-Some.tree_domain.now c.in-Some.tree_body.now ≡ c.args.tree.now = cc c.in-Some.ensures in whole)
