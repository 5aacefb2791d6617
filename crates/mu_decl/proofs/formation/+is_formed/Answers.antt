use Rattle.std.proofs.Common.{◌≡◌, true, false, arith}
use Rattle.mu_decl.specs.Formation.{is_formed, kind_at}
use Rattle.mu_decl.specs.Scopes.{layered}
use Rattle.mu_decl.proofs.Rests.{pointwise_stop, pointwise_go}
use Rattle.mu_decl.proofs.formation.+is_formed.Goals as goal

pub are_formed-returns-then-not-branch-clause-value : goal.are_formed-returns-then-not-branch-clause-value
are_formed-returns-then-not-branch-clause-value g t c =
    let told : is_formed (g.C.Context.world c.args.context.now) c.args.seen.now (layered c.args.around.scope.now c.args.around.own.now c.args.inner.now) (kind_at c.args.kinds.now c.loop-i.i) c.index-trees-i.result ≡ false = cc (c.in_ok-is_formed_within.ensures.value, c.kind_at.ensures, c.loop-i.invariant.kept, c.if-not-branch.true) in
    let step = pointwise_stop (is_formed (g.C.Context.world c.args.context.now) c.args.seen.now (layered c.args.around.scope.now c.args.around.own.now c.args.inner.now)) c.args.kinds.now c.args.trees.now c.loop-i.i c.index-trees-i.result (omega arith) (omega arith) c.index-trees-i.is told in
    cc (step, c.loop-i.invariant.value)

pub are_formed-loop-i-preserved : goal.are_formed-loop-i-preserved
are_formed-loop-i-preserved g t c =
    let told : is_formed (g.C.Context.world c.args.context.now) c.args.seen.now (layered c.args.around.scope.now c.args.around.own.now c.args.inner.now) (kind_at c.args.kinds.now c.loop-i.i) c.index-trees-i.result ≡ true = cc (c.in_ok-is_formed_within.ensures.value, c.kind_at.ensures, c.loop-i.invariant.kept, c.if-not-branch.false) in
    let step = pointwise_go (is_formed (g.C.Context.world c.args.context.now) c.args.seen.now (layered c.args.around.scope.now c.args.around.own.now c.args.inner.now)) c.args.kinds.now c.args.trees.now c.loop-i.i c.index-trees-i.result (omega arith) (omega arith) c.index-trees-i.is told in
    record { value = cc (step, c.loop-i.invariant.value); kept = cc (c.in_ok-is_formed_within.ensures.kept, c.loop-i.invariant.kept) }
