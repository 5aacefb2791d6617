use Rattle.std.proofs.Common.{◌≡◌, map, subst, sym}
use Rattle.mu_decl.specs.declared.bare.Bare.TheVariants as bare
use Rattle.mu_decl.specs.Comparing.{read}
use Rattle.mu_decl.proofs.Reading.{read-meta-opened}
use Rattle.mu_decl.proofs.InStep.{by_top}
use Rattle.mu_decl.proofs.pairing.metavariable_parts.Goals as goal

pub returns-in-Opened : goal.returns-in-Opened
returns-in-Opened c =
    let top : read c.args.given.now c.args.reading (bare.Meta c.args.name.now c.args.arguments.now) ≡ bare.Meta c.args.name.now (map (read c.args.given.now c.args.reading) c.args.arguments.now) =
    subst (λ r. read c.args.given.now r (bare.Meta c.args.name.now c.args.arguments.now) ≡ bare.Meta c.args.name.now (map (read c.args.given.now r) c.args.arguments.now)) (sym c.in-Opened.is) (read-meta-opened c.args.given.now c.in-Opened.field-0 c.in-Opened.field-1 c.args.name.now c.args.arguments.now) in
    by_top _ _ _ top (c.kept_parts.ensures c.args.given.now)
