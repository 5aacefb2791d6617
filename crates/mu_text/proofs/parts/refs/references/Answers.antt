use Rattle.mu_grammar.specs.References.{read_references}
use Rattle.mu_text.proofs.References.{Exact-reference}
use Rattle.mu_grammar.specs.declared.symbol.Mark.TheVariants.{Comma}
use Rattle.mu_text.proofs.Turns.{fewer, finish, refitted, start, turn}
use Rattle.mu_text.proofs.parts.refs.references.Goals as goal

pub loop-reader-init : goal.loop-reader-init
loop-reader-init c = start Exact-reference c.in_ok-first.ensures c.new-refs.ensures c.in_ok-push.ensures.ok

pub loop-reader-preserved : goal.loop-reader-preserved
loop-reader-preserved c = turn Exact-reference c.loop-reader.invariant c.sees.ensures c.loop-reader-test.true c.skip.ensures c.in_ok-next.ensures c.in_ok-push-2.ensures.ok

pub loop-reader-smaller : goal.loop-reader-smaller
loop-reader-smaller c = fewer Comma Exact-reference _ _ c.sees.ensures c.loop-reader-test.true c.skip.ensures c.in_ok-next.ensures

pub returns : goal.returns
unfolding read_references
returns c = refitted (finish c.loop-reader.invariant c.sees.ensures c.loop-reader-test.false) c.in_ok-fit.ensures
