use Rattle.std.proofs.Common.{ap, Some}
use Rattle.mu_proof.specs.Citations.{cited_by}
use Rattle.mu_proof.specs.declared.citations.Cited.TheVariants.{Rule}
use Rattle.mu_flat.proofs.CircleLemmas.{closed_first, citing_turned}
use Rattle.mu_flat.proofs.circles.first_circle.Goals as goal

pub first_closed-requires-clause-turned : goal.first_closed-requires-clause-turned
first_closed-requires-clause-turned c = citing_turned c.args.citers.now c.args.proofs.now c.requires.citers c.in_ok-copy.field-0

pub returns : goal.returns
returns c after gains =
    closed_first c.args.proofs.now after c.args.rule.now (cited_by (Some c.args.why.now)) c.requires.acyclic gains
    c.in_ok-starts.starts.items (Rule c.in_ok-copy.field-0) c.in_ok-starts.ensures (ap Rule c.in_ok-copy.ensures) c.in_ok-first.first c.in_ok-first.ensures
