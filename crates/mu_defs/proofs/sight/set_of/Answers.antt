use Rattle.std.proofs.Common.{sym, ap, ◌∙◌}
use Rattle.std.specs.FinMap as finite
use Rattle.mu_defs.proofs.SightLemmas.{set_of_more}
use Rattle.mu_defs.proofs.sight.set_of.Goals as goal

pub loop-name-preserved : goal.loop-name-preserved
loop-name-preserved c =
    c.in_ok-add.ensures.ok ∙ ap (λ set. finite.insert set c.in-Some.name tt) c.loop-name.invariant ∙ sym (set_of_more c.loop-name.yielded c.in-Some.name)
