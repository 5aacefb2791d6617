use Rattle.std.proofs.Common.{◌≡◌, ◌+◌, ◌++◌, length}
use Rattle.mu_grammar.specs.Tokens.{tokens, tokens_from}
use Rattle.mu_text.proofs.tokens.read_items.Given as goal

abbrev pub invariant-loop-first : goal.invariant-loop-first
invariant-loop-first l = record { found : l.found.items ++ tokens_from 0 l.at l.rest ≡ tokens l.line; place : l.at + length l.rest ≡ length l.line }

abbrev pub decreases-loop-first : goal.decreases-loop-first
decreases-loop-first l = length l.rest
