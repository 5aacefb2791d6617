use Rattle.std.proofs.Common.{rules, ◌≡◌, List, length, subst}
use Rattle.std.specs.List.{list_all}
use Rattle.mu_grammar.specs.declared.token.Token.{Token}
use Rattle.mu_grammar.specs.Excesses.{no_excess}
use Rattle.mu_grammar.specs.Lexemes.{items_of}
use Rattle.mu_grammar.specs.Tokens.{tokens}
use Rattle.mu_grammar.specs.Texts.{is_short_token}
use Rattle.mu_command.specs.Canonical.{is_long}
use Rattle.mu_command.specs.Lines.{AnswersAs, first_limit, or_text, within_limits}
use Rattle.mu_command.proofs.Reading.{read_value}
use Rattle.mu_command.proofs.lines.read.Goals as goal

pub returns-then-len-eq0 : goal.returns-then-len-eq0
returns-then-len-eq0 c =
    let line = c.args.line.now in
    let same : c.new-reader.result ≡ items_of line = search rules in
    let are : c.items-then-len-eq0.result.now ≡ tokens line = search rules in
    let fresh : c.none-excess.result ≡ no_excess = search rules in
    let none : length c.read_command.new.reader ≡ 0 = search rules in
    let within = subst (λ (ts : List Token). AnswersAs (within_limits (or_text (first_limit (list_all (is_short_token line) ts) c.read_command.new.excess) (is_long c.in-Ok.command)) c.in-Ok.command) c.within.result) are c.within.ensures in
    subst (λ read. AnswersAs read c.within.result) (read_value line c.in-Ok.command c.read_command.new.excess c.read_command.new.reader (rw (same, fresh) at c.in-Ok.ensures) none) within
