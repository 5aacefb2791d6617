use Rattle.std.proofs.Common.{◌+◌, map, drop, arith}
use Rattle.mu_decl.specs.Formation.{occurrences, spread, kind_at}
use Rattle.mu_decl.proofs.Rests.{spread_rest, added}
use Rattle.mu_decl.proofs.occurring.+occurrences.Goals as goal

pub spread-loop-i-preserved : goal.spread-loop-i-preserved
spread-loop-i-preserved g t c =
    let step = spread_rest (occurrences (g.C.Context.world c.args.context.now)) c.args.kinds.now c.args.trees.now c.loop-i.i c.index-trees-i.result (omega arith) c.index-trees-i.is in
    let join = added c.loop-i.found (occurrences (g.C.Context.world c.args.context.now) c.index-trees-i.result (kind_at c.args.kinds.now c.loop-i.i)) (spread (drop (c.loop-i.i + 1) c.args.kinds.now) (map (occurrences (g.C.Context.world c.args.context.now)) (drop (c.loop-i.i + 1) c.args.trees.now))) in
    cc (step, join, c.loop-i.invariant, c.in_ok-occurrences.ensures, c.kind_at.ensures)
