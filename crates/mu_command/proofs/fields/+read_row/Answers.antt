use Rattle.std.proofs.Common.{◌≡◌, List, [], rules, subst, sym}
use Rattle.std.specs.Prelude.{Ok, Err}
use Rattle.mu_command.specs.declared.parts.Part.{Part}
use Rattle.mu_command.specs.Grammar.{GivesRow}
use Rattle.mu_command.proofs.FormLemmas.{empty_row, row_ends, row_goes_on, row_stops_at_first, row_stops_behind, split_row}
use Rattle.mu_command.proofs.fields.+read_row.Goals as goal

pub returns-in_err-first-in-len1-up : goal.returns-in_err-first-in-len1-up
returns-in_err-first-in-len1-up n c =
    let is : c.from_residual.result ≡ Err c.in_err-first-in-len1-up.field-0.0 = search rules in
    rw is (subst (λ (parts : List Part). GivesRow parts c.args.excess.now c.read_part.new.excess c.args.reader.now (Err c.in_err-first-in-len1-up.field-0.0) c.read_part.new.reader)
    (sym (split_row c.args.row.now c.in-len1-up.len_at_least))
    (row_stops_at_first _ _ c.args.excess.now c.read_part.new.excess c.read_part.new.excess _ _ _ c.in_err-first-in-len1-up.ensures))

pub returns-in_err-others-in-len1-up : goal.returns-in_err-others-in-len1-up
returns-in_err-others-in-len1-up n c =
    let is : c.from_residual-in_err-others-in-len1-up.result ≡ Err c.in_err-others-in-len1-up.field-0.0 = search rules in
    rw is (subst (λ (parts : List Part). GivesRow parts c.args.excess.now c.read_row.new.excess c.args.reader.now (Err c.in_err-others-in-len1-up.field-0.0) c.read_row.new.reader)
    (sym (split_row c.args.row.now c.in-len1-up.len_at_least))
    (row_stops_behind _ _ c.args.excess.now c.read_part.new.excess c.read_row.new.excess _ c.read_part.new.reader _ c.in_ok-first-in-len1-up.first _ c.in_ok-first-in-len1-up.ensures c.in_err-others-in-len1-up.ensures))

pub returns-in-empty : goal.returns-in-empty
returns-in-empty n c =
    rw c.new.ensures (subst (λ (parts : List Part). GivesRow parts c.args.excess.now c.args.excess.now c.args.reader.now (Ok []) c.args.reader.now) (sym (empty_row c.args.row.now c.in-empty.len_below)) (row_ends c.args.excess.now c.args.reader.now))

pub returns-in_ok-with_first-in-len1-up : goal.returns-in_ok-with_first-in-len1-up
returns-in_ok-with_first-in-len1-up n c =
    subst (λ (parts : List Part). GivesRow parts c.args.excess.now c.read_row.new.excess c.args.reader.now (Ok c.in_ok-with_first-in-len1-up.field-0) c.read_row.new.reader)
    (sym (split_row c.args.row.now c.in-len1-up.len_at_least))
    (row_goes_on _ _ c.args.excess.now c.read_part.new.excess c.read_row.new.excess _ c.read_part.new.reader _ c.in_ok-first-in-len1-up.first c.in_ok-others-in-len1-up.others _ c.in_ok-first-in-len1-up.ensures c.in_ok-others-in-len1-up.ensures c.in_ok-with_first-in-len1-up.ensures)
