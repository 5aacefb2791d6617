use Rattle.std.proofs.Common.{List, subst, sym}
use Rattle.mu_grammar.specs.declared.token.Token.{Token}
use Rattle.mu_grammar.specs.Reading.{AreOnlyTokens, AreTokens}
use Rattle.mu_text.proofs.Kept.{tokens_are}
use Rattle.mu_text.proofs.Only.{tokens_only}
use Rattle.mu_text.proofs.tokens.Tokens.read.Goals as goal

pub returns-clause-law : goal.returns-clause-law
returns-clause-law c = subst (λ (ts : List Token). AreTokens c.args.line.now ts) (sym c.in_ok-items.ensures) (tokens_are c.args.line.now)

pub returns-clause-only : goal.returns-clause-only
returns-clause-only c = subst (λ (ts : List Token). AreOnlyTokens c.args.line.now ts) (sym c.in_ok-items.ensures) (tokens_only c.args.line.now)
