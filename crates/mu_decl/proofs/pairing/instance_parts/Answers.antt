use Rattle.std.proofs.Common.{map}
use Rattle.std.proofs.lemmas.List.{length-map}
use Rattle.mu_decl.specs.Instantiating.{instantiated}
use Rattle.mu_decl.proofs.InStep.{by_top}
use Rattle.mu_decl.proofs.pairing.instance_parts.Goals as goal

pub returns-in-None : goal.returns-in-None
returns-in-None c = by_top _ _ _ (c.in-None.ensures (map (instantiated c.args.given.now) c.args.arguments.now) (length-map c.args.arguments.now (instantiated c.args.given.now))) (c.kept_parts.ensures c.args.given.now)
