use Rattle.std.proofs.Common.{◌≡◌, sym, Some}
use Rattle.mu_grammar.specs.Ops.{operator_named}
use Rattle.mu_print.proofs.PrintingTrees.{level-operation}
use Rattle.mu_print.proofs.canonical.application_level.Goals as goal

pub returns-in-Some : goal.returns-in-Some
returns-in-Some c =
    let is : operator_named c.args.name.now ≡ Some c.in-Some.op = cc in
    sym (level-operation c.args.name.now c.args.arguments.now c.in-Some.op c.in-len2.len_at_least c.in-len2.len_below is)
