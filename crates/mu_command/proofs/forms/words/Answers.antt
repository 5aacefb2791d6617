use Rattle.std.proofs.Common.{◌≡◌, ℕ, List, [], ap, sym, ◌∙◌, Some, None, Bor}
use Rattle.std.specs.Prelude.{Option}
use Rattle.std.specs.Option.{option_map_or}
use Rattle.mu_tables.specs.declared.words.Row.{Row}
use Rattle.mu_tables.specs.Words.{rows_of, text_of, word_of}
use Rattle.mu_tables.specs.Tables.{the_forms}
use Rattle.mu_command.proofs.FormTable.{found_text}
use Rattle.mu_command.proofs.forms.words.Goals as goal

table_text : (n m : ℕ) (rows : List Row) (found : Option (Bor (List ℕ))) → found ≡ word_of m rows → m ≡ n → rows_of rows ≡ the_forms → option_map_or (λ text. text.now) found [] ≡ text_of n the_forms
table_text n m rows found is same table = ap (λ o. option_map_or (λ text. text.now) o []) is ∙ (found_text m rows ∙ (ap (text_of m) table ∙ ap (λ k. text_of k the_forms) same))

pub returns-in-Some : goal.returns-in-Some
returns-in-Some c =
    c.as_bytes.ensures.value ∙ table_text _ c.number.result c.forms.result.rows.now (Some c.in-Some.text) (sym c.in-Some.is ∙ c.word.ensures) c.number.ensures c.forms.ensures

pub returns-in-None : goal.returns-in-None
returns-in-None c = table_text _ c.number.result c.forms.result.rows.now None (sym c.in-None.is ∙ c.word.ensures) c.number.ensures c.forms.ensures
