use Rattle.std.proofs.Common.{◌≡◌, ap, ◌-◌, arith, length, take, drop}
use Rattle.std.proofs.lemmas.List.{take_rest, length-drop}
use Rattle.mural.proofs.Known.{told_more, keeps_on}
use Rattle.mural.proofs.telling.tell_all.Goals as goal

pub loop-at-preserved : goal.loop-at-preserved
loop-at-preserved g c =
    let i = c.loop-at.invariant in
    let bytes = c.args.bytes.now in
    let at = c.loop-at.at in
    let piece = take (length bytes - at) (drop at bytes) in
    let is : piece ≡ drop at bytes = take_rest bytes at in
    record {
      within = omega (arith, c.in_ok-at.ensures.output.1, ap length is, length-drop at bytes, i.within);
      told = told_more (g.O.Outside.observed c.args.out.now).told (g.O.Outside.observed c.loop-at.out).told (g.O.Outside.observed c.tell.new.self).told bytes piece at c.in_ok-at.field-0 is i.told c.in_ok-at.ensures.output.2;
      rest = keeps_on (g.O.Outside.observed c.args.out.now) (g.O.Outside.observed c.loop-at.out) (g.O.Outside.observed c.tell.new.self) i.rest c.tell.ensures.rest;
      later = omega (arith, i.later, c.tell.ensures.cause.later);
    }
