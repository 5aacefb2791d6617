use Rattle.std.proofs.Common.{◌∙◌, sym, ap, subst}
use Rattle.std.specs.Option.{option_copied}
use Rattle.std.specs.Ordering.{is_gt}
use Rattle.mu_graph.specs.Told.{IsLeastTold}
use Rattle.mu_graph.proofs.ToldLemmas.{untold_passes, told_begins, told_stays, told_falls, not_gt}
use Rattle.mu_graph.proofs.told.lesser_told.Goals as goal

pub returns-in-None-default : goal.returns-in-None-default
returns-in-None-default g c front is =
    untold_passes g.S.ToldSet.told g.S.ToldSet.named g.met.S.ToldSet.tells front c.args.key.now (sym c.told.ensures ∙ ap option_copied c.in-None-default.is-0) (option_copied c.args.least) is

pub returns-in-Some-None : goal.returns-in-Some-None
returns-in-Some-None g c front is =
    told_begins g.S.ToldSet.told g.S.ToldSet.named g.met.S.ToldSet.tells front c.args.key.now c.in-Some-None.name.now (sym c.told.ensures ∙ ap option_copied c.in-Some-None.is-0)
    (subst (λ least. IsLeastTold g.S.ToldSet.named front (option_copied least)) c.in-Some-None.is-1 is)

pub returns-in-Greater : goal.returns-in-Greater
returns-in-Greater g c front is =
    told_falls g.S.ToldSet.told g.S.ToldSet.named g.met.S.ToldSet.tells front c.args.key.now c.in-Some-Some.name.now (sym c.told.ensures ∙ ap option_copied c.in-Some-Some.is-0)
    c.in-Some-Some.before.now (subst (λ least. IsLeastTold g.S.ToldSet.named front (option_copied least)) c.in-Some-Some.is-1 is) (ap is_gt (sym c.cmp.ensures ∙ c.in-Greater.is))

pub returns-in_default : goal.returns-in_default
returns-in_default g c front is =
    told_stays g.S.ToldSet.told g.S.ToldSet.named g.met.S.ToldSet.tells front c.args.key.now c.in-Some-Some.name.now (sym c.told.ensures ∙ ap option_copied c.in-Some-Some.is-0)
    c.in-Some-Some.before.now (subst (λ least. IsLeastTold g.S.ToldSet.named front (option_copied least)) c.in-Some-Some.is-1 is) (ap is_gt (sym c.cmp.ensures) ∙ not_gt c.cmp.result c.in_default.not-Greater)
