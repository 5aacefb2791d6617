use Rattle.std.proofs.Common.{◌≡◌, rules, Some, ap, sym, ◌∙◌}
use Rattle.std.specs.Prelude.{option_and_then}
use Rattle.mu_tables.specs.Words.{number_behind}
use Rattle.mu_tables.specs.Tables.{the_forms}
use Rattle.mu_grammar.specs.declared.symbol.Sort.TheVariants as sort
use Rattle.mu_grammar.specs.declared.symbol.Word.TheVariants.{Plain}
use Rattle.mu_grammar.specs.Lexemes.{first_sort}
use Rattle.mu_command.specs.Forms.{numbered}
use Rattle.mu_command.proofs.FormLemmas.{plain_ends}
use Rattle.mu_command.proofs.forms.form_ended.Goals as goal

pub returns-in-Some-Word-Plain : goal.returns-in-Some-Word-Plain
returns-in-Some-Word-Plain c =
    let first : first_sort c.args.reader.now ≡ Some (sort.Word Plain) = search rules in
    c.form_behind.ensures ∙ (ap (λ word. option_and_then numbered (number_behind c.args.front.now word the_forms)) c.bytes.ensures ∙ sym (plain_ends c.args.front.now c.args.reader.now first))
