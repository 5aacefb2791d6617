use Rattle.std.proofs.Common.{ap}
use Rattle.mu_grammar.specs.declared.symbol.Mark.TheVariants.{Comma}
use Rattle.mu_grammar.specs.Parts.{◌>>=◌, with_first, read_more}
use Rattle.mu_grammar.specs.Blocks.{StandsTyped, trees_in_typed, read_typed}
use Rattle.mu_grammar.specs.Blocks.{read_typed_vars}
use Rattle.mu_text.proofs.Blocks.{Exact-typed}
use Rattle.mu_text.proofs.Excesses.{first_raised, next_raised, all_raised}
use Rattle.mu_text.proofs.Turns.{advance, begin, fewer, finish}
use Rattle.mu_text.proofs.parts.blocks.typed_vars.Goals as goal

pub loop-reader-init : goal.loop-reader-init
loop-reader-init c =
    let first = c.in_ok-first.ensures in
    begin first.value (ap (λ out. out >>= (λ z r. with_first z (read_more Comma read_typed r))) first.is)
    (first_raised StandsTyped trees_in_typed _ _ first.value _ _ _ first.stands c.new-vars.ensures c.in_ok-push.ensures.ok)

pub loop-reader-preserved : goal.loop-reader-preserved
loop-reader-preserved c =
    advance Exact-typed c.loop-reader.invariant c.sees.ensures c.loop-reader-test.true c.skip.ensures c.in_ok-next.ensures
    (λ front x all one. next_raised StandsTyped trees_in_typed _ _ _ front _ _ x _ all one c.in_ok-push-2.ensures.ok)

pub loop-reader-smaller : goal.loop-reader-smaller
loop-reader-smaller c = fewer Comma Exact-typed _ _ c.sees.ensures c.loop-reader-test.true c.skip.ensures c.in_ok-next.ensures

pub returns : goal.returns
unfolding read_typed_vars
returns c = all_raised StandsTyped trees_in_typed _ _ _ _ _ _ (finish c.loop-reader.invariant c.sees.ensures c.loop-reader-test.false) c.in_ok-fit.ensures
