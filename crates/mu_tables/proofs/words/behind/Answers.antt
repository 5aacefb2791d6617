use Rattle.std.proofs.Common.{Some, None}
use Rattle.mu_tables.proofs.Fronts.{stripped, behind_both, behind_none}
use Rattle.mu_tables.proofs.words.behind.Goals as goal

pub returns-in-Some : goal.returns-in-Some
returns-in-Some c =
    behind_both c.args.text.now c.args.front.now c.args.word.now c.in-Some.rest.now c.strip_prefix-in-Some.result
    (stripped c.args.text.now c.args.front.now (Some c.in-Some.rest) c.in-Some.ensures.cases)
    (stripped c.in-Some.rest.now c.args.word.now c.strip_prefix-in-Some.result c.strip_prefix-in-Some.ensures.cases)

pub returns-in-None : goal.returns-in-None
returns-in-None c = behind_none c.args.text.now c.args.front.now c.args.word.now (stripped c.args.text.now c.args.front.now None c.in-None.ensures.cases)
