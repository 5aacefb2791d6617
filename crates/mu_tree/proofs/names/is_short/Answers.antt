use Rattle.std.proofs.Common.{length, eqb, nat_le, rules, tests}
use Rattle.std.proofs.lemmas.Iterator.Search.{all_from_yields_List}
use Rattle.std.proofs.lemmas.Iterator.Splits.{YieldsList-from_slice_split}
use Rattle.mu_tree.proofs.names.is_short.Goals as goal

pub returns : goal.returns
returns c = all_from_yields_List (λ segment. nat_le (length segment) 64) _ _ _ c.all.ensures.ran (YieldsList-from_slice_split _ (λ b. eqb b 46) c.args.text.now c.split.ensures.rest c.split.ensures.done c.split.ensures.closure (λ x b q k. search (rules, tests))) (λ x b q k. search (rules, tests))
