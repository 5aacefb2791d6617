use Rattle.std.proofs.Common.{◌≡◌, ◌+◌, ◌++◌, [], ◌∷◌, take, ap, subst, sym, ◌∙◌}
use Rattle.std.proofs.lemmas.List.{take_more}
use Rattle.mu_check.specs.Metas.{noted, Tells}
use Rattle.mu_check.proofs.MetaTables.{noted_tells, empty_tells}
use Rattle.mu_check.proofs.metas.tabled.Goals as goal

pub loop-occurrence-init : goal.loop-occurrence-init
loop-occurrence-init c = subst (λ t. Tells t []) (sym c.new-table.ensures) empty_tells

pub loop-occurrence-preserved : goal.loop-occurrence-preserved
loop-occurrence-preserved c =
    let more = take_more c.args.all.now c.loop-occurrence.occurrence-index c.occurrence-item.result c.loop-occurrence-test.true in
    let here : take (c.loop-occurrence.occurrence-index + 1) c.args.all.now ≡ take c.loop-occurrence.occurrence-index c.args.all.now ++ c.occurrence-item.result ∷ [] = more ∙ ap (λ y. take c.loop-occurrence.occurrence-index c.args.all.now ++ y ∷ []) (sym c.occurrence-item.is) in
    subst (λ t. Tells t (take (c.loop-occurrence.occurrence-index + 1) c.args.all.now)) (sym c.in_ok-note.ensures)
    (subst (Tells (noted c.loop-occurrence.table c.occurrence-item.result)) (sym here)
    (noted_tells c.loop-occurrence.table (take c.loop-occurrence.occurrence-index c.args.all.now) c.occurrence-item.result c.loop-occurrence.invariant))
