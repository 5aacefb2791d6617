use Rattle.std.proofs.Common.{◌≡◌, List, rules, subst}
use Rattle.std.specs.Prelude.{Ok, Err}
use Rattle.mu_command.specs.declared.parts.Part.{Part}
use Rattle.mu_command.specs.Grammar.{GivesRow}
use Rattle.mu_command.proofs.FormLemmas.{command_made, command_stops, form_stops}
use Rattle.mu_command.proofs.grammar.read_command.Goals as goal

pub returns-in_err-form : goal.returns-in_err-form
returns-in_err-form c =
    let is : c.from_residual.result ≡ Err c.in_err-form.field-0.0 = search rules in
    rw is (form_stops c.args.excess.now c.args.excess.now _ _ _ c.in_err-form.ensures)

pub returns-in_err-fields : goal.returns-in_err-fields
returns-in_err-fields c =
    let is : c.from_residual-in_err-fields.result ≡ Err c.in_err-fields.field-0.0 = search rules in
    rw is (command_stops c.in_ok-form.form c.args.excess.now c.read_row.new.excess _ c.read_form.new.reader _ _ c.in_ok-form.ensures
    (subst (λ (parts : List Part). GivesRow parts c.args.excess.now c.read_row.new.excess c.read_form.new.reader (Err c.in_err-fields.field-0.0) c.read_row.new.reader) c.row.ensures c.in_err-fields.ensures))

pub returns : goal.returns
returns c =
    command_made c.in_ok-form.form c.args.excess.now c.read_row.new.excess _ c.read_form.new.reader _ c.in_ok-fields.fields c.make.result c.in_ok-form.ensures
    (subst (λ (parts : List Part). GivesRow parts c.args.excess.now c.read_row.new.excess c.read_form.new.reader (Ok c.in_ok-fields.fields) c.read_row.new.reader) c.row.ensures c.in_ok-fields.ensures)
    c.make.ensures.form c.make.ensures.fields
