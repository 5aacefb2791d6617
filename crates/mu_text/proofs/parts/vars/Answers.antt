use Rattle.mu_grammar.specs.SimpleParts.{read_vars}
use Rattle.mu_text.proofs.Simple.{Exact-var}
use Rattle.mu_grammar.specs.declared.symbol.Mark.TheVariants.{Comma}
use Rattle.mu_text.proofs.Turns.{fewer, finish, refitted, start, turn}
use Rattle.mu_text.proofs.parts.vars.Goals as goal

pub loop-reader-init : goal.loop-reader-init
loop-reader-init c = start Exact-var c.in_ok-first.ensures c.new-names.ensures c.in_ok-push.ensures.ok

pub loop-reader-preserved : goal.loop-reader-preserved
loop-reader-preserved c = turn Exact-var c.loop-reader.invariant c.sees.ensures c.loop-reader-test.true c.skip.ensures c.in_ok-next.ensures c.in_ok-push-2.ensures.ok

pub loop-reader-smaller : goal.loop-reader-smaller
loop-reader-smaller c = fewer Comma Exact-var _ _ c.sees.ensures c.loop-reader-test.true c.skip.ensures c.in_ok-next.ensures

pub returns : goal.returns
unfolding read_vars
returns c = refitted (finish c.loop-reader.invariant c.sees.ensures c.loop-reader-test.false) c.in_ok-fit.ensures
