use Rattle.std.proofs.Common.{◌≡◌, map}
use Rattle.mu_decl.specs.declared.bare.Bare.TheVariants as bare
use Rattle.mu_decl.specs.Comparing.{read}
use Rattle.mu_decl.proofs.Reading.{read-app}
use Rattle.mu_decl.proofs.InStep.{by_top}
use Rattle.mu_decl.proofs.pairing.parts.Goals as goal

pub returns-in-App : goal.returns-in-App
returns-in-App c =
    let top : read c.args.given.now c.args.reading c.args.pattern.now ≡ bare.App c.in-App.name (map (read c.args.given.now c.args.reading) c.as_slice.result.now) = cc (read-app c.args.given.now c.args.reading c.in-App.name c.as_slice.result.now) in
    by_top _ _ _ top (c.constant_parts-rest.ensures c.args.given.now)
