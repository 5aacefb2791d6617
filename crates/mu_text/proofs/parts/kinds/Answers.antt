use Rattle.mu_grammar.specs.SimpleParts.{read_kinds}
use Rattle.mu_text.proofs.Simple.{Exact-kind}
use Rattle.mu_grammar.specs.declared.symbol.Mark.TheVariants.{Comma}
use Rattle.mu_text.proofs.Turns.{fewer, finish, finish_same, refitted, start, turn}
use Rattle.mu_text.proofs.parts.kinds.Goals as goal

pub loop-reader-init : goal.loop-reader-init
loop-reader-init c = start Exact-kind c.in_ok-first.ensures c.new-kinds.ensures c.in_ok-push.ensures.ok

pub loop-reader-preserved : goal.loop-reader-preserved
loop-reader-preserved c = turn Exact-kind c.loop-reader.invariant c.sees.ensures c.loop-reader-test.true c.skip.ensures c.in_ok-next.ensures c.in_ok-push-2.ensures.ok

pub loop-reader-smaller : goal.loop-reader-smaller
loop-reader-smaller c = fewer Comma Exact-kind _ _ c.sees.ensures c.loop-reader-test.true c.skip.ensures c.in_ok-next.ensures

pub returns : goal.returns
unfolding read_kinds
returns c = refitted (finish_same (finish c.loop-reader.invariant c.sees.ensures c.loop-reader-test.false)) c.in_ok-fit.ensures
