use Rattle.std.proofs.Common.{◌≡◌, ◌+◌, ◌++◌, [], ◌∷◌, take, drop, ap, subst, sym, ◌∙◌}
use Rattle.std.specs.FinMap as finite
use Rattle.std.proofs.lemmas.List.{take_more, take-append-drop}
use Rattle.mu_check.specs.Instances.{are_distinct, AreSet}
use Rattle.mu_check.proofs.DistinctNames.{no_names, name_more, stands_twice}
use Rattle.mu_check.proofs.instances.distinct.Goals as goal

pub loop-name-init : goal.loop-name-init
loop-name-init c = subst (λ set. AreSet set []) (sym c.new-set.ensures) no_names

pub returns-then-has : goal.returns-then-has
returns-then-has c =
    let more = take_more c.args.names.now c.loop-name.name-index c.name-item.result c.loop-name-test.true in
    let here : take (c.loop-name.name-index + 1) c.args.names.now ≡ take c.loop-name.name-index c.args.names.now ++ c.name-item.result ∷ [] = more ∙ ap (λ n. take c.loop-name.name-index c.args.names.now ++ n ∷ []) (sym c.name-item.is) in
    let whole : (take c.loop-name.name-index c.args.names.now ++ c.name-item.result ∷ []) ++ drop (c.loop-name.name-index + 1) c.args.names.now ≡ c.args.names.now = ap (λ xs. xs ++ drop (c.loop-name.name-index + 1) c.args.names.now) (sym here) ∙ take-append-drop (c.loop-name.name-index + 1) c.args.names.now in
    ap are_distinct (sym whole) ∙ stands_twice (take c.loop-name.name-index c.args.names.now) (drop (c.loop-name.name-index + 1) c.args.names.now) c.name-item.result (sym (c.loop-name.invariant.among c.name-item.result) ∙ sym c.if-has.ensures)

pub loop-name-preserved : goal.loop-name-preserved
loop-name-preserved c =
    let more = take_more c.args.names.now c.loop-name.name-index c.name-item.result c.loop-name-test.true in
    let here : take (c.loop-name.name-index + 1) c.args.names.now ≡ take c.loop-name.name-index c.args.names.now ++ c.name-item.result ∷ [] = more ∙ ap (λ n. take c.loop-name.name-index c.args.names.now ++ n ∷ []) (sym c.name-item.is) in
    let added : c.add.new.self ≡ finite.insert c.loop-name.set c.name-item.result tt = c.in_ok-add.ensures.ok ∙ ap (λ n. finite.insert c.loop-name.set n tt) c.in_ok-copy.ensures in
    subst (λ set. AreSet set (take (c.loop-name.name-index + 1) c.args.names.now)) (sym added)
    (subst (AreSet (finite.insert c.loop-name.set c.name-item.result tt)) (sym here)
    (name_more c.loop-name.set (take c.loop-name.name-index c.args.names.now) c.name-item.result c.loop-name.invariant (sym c.if-has.ensures)))
