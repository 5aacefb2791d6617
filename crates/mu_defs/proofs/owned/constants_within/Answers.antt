use Rattle.std.proofs.Common.{◌∙◌, sym, ap}
use Rattle.std.specs.FinMap as finite
use Rattle.std.proofs.lemmas.Result.{IfOk-weaker}
use Rattle.mu_tree.specs.Maps.{MapOf}
use Rattle.mu_decl.specs.declared.declaration.ConstDecl.{ConstDecl}
use Rattle.mu_defs.specs.Base.{is_base}
use Rattle.mu_defs.proofs.BaseNames.{names_in_base, names_in_other}
use Rattle.mu_defs.proofs.owned.constants_within.Goals as goal

pub returns-in_ok-base_table : goal.returns-in_ok-base_table
returns-in_ok-base_table c = IfOk-weaker c.names-then-is_base.result _ _ (λ names is.
    is
    ∙ ap (λ (table : MapOf ConstDecl). finite.keys table) c.in_ok-base_table.ensures
    ∙ sym (names_in_base c.args.stored.now c.requires.apart c.args.unit.now (ap is_base (sym c.bytes.ensures.all) ∙ sym c.is_base.ensures ∙ c.if-is_base.true))) c.names-then-is_base.ensures

pub returns-in_ok-names : goal.returns-in_ok-names
returns-in_ok-names c = c.in_ok-names.ensures ∙ sym (names_in_other c.args.stored.now c.requires.apart c.args.unit.now (ap is_base (sym c.bytes.ensures.all) ∙ sym c.is_base.ensures ∙ c.if-is_base.false))
