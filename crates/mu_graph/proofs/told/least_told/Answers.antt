use Rattle.std.proofs.Common.{◌≡◌, ◌∙◌, ◌+◌, ◌++◌, ◌∷◌, [], arith, sym, ap, subst, take}
use Rattle.std.proofs.lemmas.Grind.{common_steps}
use Rattle.std.proofs.lemmas.List.{take_more}
use Rattle.std.specs.Option.{option_copied}
use Rattle.mu_graph.specs.Told.{IsLeastTold}
use Rattle.mu_graph.proofs.told.least_told.Goals as goal

pub loop-key-preserved : goal.loop-key-preserved
loop-key-preserved g c =
    let keys = c.args.keys.now in
    let i = c.loop-key.key-index in
    let more : take (i + 1) keys ≡ take i keys ++ c.key-item.result ∷ [] = take_more keys i c.key-item.result (omega arith) ∙ ap (λ k. take i keys ++ k ∷ []) (sym c.key-item.is) in
    rw more (c.lesser_told-least.ensures (take i keys) c.loop-key.invariant)

pub returns : goal.returns
returns g c =
    let all : take c.loop-key.key-index c.args.keys.now ≡ c.args.keys.now = grind (arith, common_steps) in
    subst (λ keys. IsLeastTold g.S.ToldSet.named keys (option_copied c.loop-key.least)) all c.loop-key.invariant
