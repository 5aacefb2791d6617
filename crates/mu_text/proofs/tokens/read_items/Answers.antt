use Rattle.std.proofs.Common.{◌≡◌, length, ◌∙◌, sym, ap, arith, length-drop, false}
use Rattle.mu_grammar.specs.Reading.{is_blank}
use Rattle.mu_text.proofs.Skips.{one_token}
use Rattle.mu_text.proofs.tokens.read_items.Goals as goal

pub loop-first-preserved : goal.loop-first-preserved
loop-first-preserved c =
    let n : is_blank c.in-Some.first ≡ false = sym c.is_blank.ensures ∙ c.if-is_blank.false in
    record {
      found = one_token c.loop-first.at c.in-Some.first c.in-Some.tail.now c.loop-first.rest.now c.after-rest.result.now c.first_token-sort.result c.loop-first.found.items c.push.new.self.items
          c.in-Some.ensures n c.first_token-sort.ensures.value c.after-rest.ensures c.in_ok-push.ensures.items ∙ c.loop-first.invariant.found;
      place = omega (arith, ap length c.in-Some.ensures, ap length c.after-rest.ensures, length-drop c.first_token-sort.result.1 c.in-Some.tail.now, c.first_token-sort.ensures.within, c.loop-first.invariant.place);
    }
