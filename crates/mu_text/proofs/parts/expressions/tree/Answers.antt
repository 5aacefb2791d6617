use Rattle.std.proofs.Common.{rules}
use Rattle.std.specs.Prelude.{Ok, Err}
use Rattle.mu_grammar.specs.Excesses.{Raising, StandsTree, one_tree}
use Rattle.mu_grammar.specs.Parts.{Gives}
use Rattle.mu_grammar.specs.Trees.{read_tree}
use Rattle.mu_text.proofs.Chains.{kept}
use Rattle.mu_text.proofs.Excesses.{tree_raised}
use Rattle.mu_text.proofs.Trees.{gives_tree, stops_tree}
use Rattle.mu_text.proofs.parts.expressions.tree.Goals as goal

pub returns-in_err-operand : goal.returns-in_err-operand
returns-in_err-operand c =
    let h : Gives (Raising StandsTree one_tree c.args.excess.now c.args.excess.now) (read_tree c.args.reader.now) (Err c.in_err-operand.field-0.0) c.tree.new.self =
    stops_tree (Raising StandsTree one_tree c.args.excess.now c.args.excess.now) c.args.reader.now c.tree.new.self c.in_err-operand.field-0.0 c.in_err-operand.ensures.reads in
    search rules

pub returns : goal.returns
returns c =
    kept (gives_tree c.args.reader.now c.tree.new.self (Ok c.in_ok-operand.operand) c.in_ok-operand.ensures.reads)
    (λ w s. tree_raised w c.in_ok-operand.operand c.args.excess.now c.raise.new.self s c.raise.ensures.nodes c.raise.ensures.depth)
