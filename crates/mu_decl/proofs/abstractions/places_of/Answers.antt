use Rattle.std.proofs.Common.{◌≡◌, ◌+◌, ◌++◌, [], ◌∷◌, Some, take, length, refl, ap, subst, sym, ◌∙◌}
use Rattle.std.specs.Prelude.{slice_get}
use Rattle.std.proofs.lemmas.List.{take_more}
use Rattle.std.proofs.lemmas.Option.{slice_get_read}
use Rattle.mu_decl.specs.Abstractions.{with_place, Locates}
use Rattle.mu_decl.proofs.FirstPlaces.{locates_more, locates_none}
use Rattle.mu_decl.proofs.abstractions.places_of.Goals as goal

pub loop-i-init : goal.loop-i-init
loop-i-init c = subst (λ places. Locates places c.args.given.now []) (sym c.new-places.ensures) (locates_none c.args.given.now)

pub loop-i-preserved : goal.loop-i-preserved
loop-i-preserved c =
    let at : slice_get c.args.given.now c.loop-i.i ≡ Some c.index-given-i.result = slice_get_read c.args.given.now (length c.args.given.now) c.loop-i.i c.index-given-i.result refl c.loop-i-test.true c.index-given-i.is in
    let more = take_more c.args.given.now c.loop-i.i c.index-given-i.result c.loop-i-test.true in
    let here : take (c.loop-i.i + 1) c.args.given.now ≡ take c.loop-i.i c.args.given.now ++ c.index-given-i.result ∷ [] = more ∙ ap (λ a. take c.loop-i.i c.args.given.now ++ a ∷ []) (sym c.index-given-i.is) in
    subst (λ places. Locates places c.args.given.now (take (c.loop-i.i + 1) c.args.given.now)) (sym c.in_ok-place.ensures)
    (subst (Locates (with_place c.args.given.now c.loop-i.i c.index-given-i.result.meta c.loop-i.places) c.args.given.now) (sym here)
    (locates_more c.loop-i.places c.args.given.now (take c.loop-i.i c.args.given.now) c.loop-i.i c.index-given-i.result at c.loop-i.invariant))
