use Rattle.std.proofs.Common.{refl}
use Rattle.mu_grammar.specs.declared.symbol.Mark.TheVariants.{Semicolon}
use Rattle.mu_grammar.specs.Claims.{StandsHypothesis, trees_in_hypothesis}
use Rattle.mu_text.proofs.Claims.{Exact-hypothesis}
use Rattle.mu_text.proofs.Excesses.{first_raised, next_raised, all_raised}
use Rattle.mu_text.proofs.Turns.{advance, begin, fewer, finish}
use Rattle.mu_text.proofs.parts.claims.hypotheses.Goals as goal

pub loop-reader-init : goal.loop-reader-init
loop-reader-init c = λ h start r.
    begin h refl (first_raised StandsHypothesis trees_in_hypothesis start c.args.excess.now h c.args.first _ _ r c.new-hyps.ensures c.in_ok-push.ensures.ok)

pub loop-reader-preserved : goal.loop-reader-preserved
loop-reader-preserved c = λ h start r.
    advance Exact-hypothesis (c.loop-reader.invariant h start r) c.sees.ensures c.loop-reader-test.true c.skip.ensures c.in_ok-next.ensures
    (λ front x all one. next_raised StandsHypothesis trees_in_hypothesis start _ _ front _ _ x _ all one c.in_ok-push-2.ensures.ok)

pub loop-reader-smaller : goal.loop-reader-smaller
loop-reader-smaller c = fewer Semicolon Exact-hypothesis _ _ c.sees.ensures c.loop-reader-test.true c.skip.ensures c.in_ok-next.ensures

pub returns : goal.returns
returns c = λ h start r.
    all_raised StandsHypothesis trees_in_hypothesis start _ _ _ _ _ (finish (c.loop-reader.invariant h start r) c.sees.ensures c.loop-reader-test.false) c.in_ok-fit.ensures
