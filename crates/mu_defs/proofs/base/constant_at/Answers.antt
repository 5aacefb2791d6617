use Rattle.std.proofs.Common.{◌∙◌, sym, ap}
use Rattle.std.specs.FinMap as finite
use Rattle.std.specs.Option.{option_copied, option_or}
use Rattle.mu_tree.specs.Maps.{MapOf}
use Rattle.mu_decl.specs.declared.declaration.ConstDecl.{ConstDecl}
use Rattle.mu_defs.proofs.BaseLemmas.{base_before}
use Rattle.mu_defs.proofs.base.constant_at.Goals as goal

pub returns-in-Some-clause-value : goal.returns-in-Some-clause-value
returns-in-Some-clause-value c =
    sym (base_before c.args.stored.now c.args.name.now
    ∙ ap (λ found. option_or found (finite.get c.args.stored.now c.args.name.now))
    (ap (λ (table : MapOf ConstDecl). finite.get table c.args.name.now) (sym c.requires) ∙ sym c.get.ensures ∙ ap option_copied c.in-Some.is))

pub returns-in-None-clause-value : goal.returns-in-None-clause-value
returns-in-None-clause-value c =
    c.get-in-None.ensures
    ∙ sym (base_before c.args.stored.now c.args.name.now
    ∙ ap (λ found. option_or found (finite.get c.args.stored.now c.args.name.now))
    (ap (λ (table : MapOf ConstDecl). finite.get table c.args.name.now) (sym c.requires) ∙ sym c.get.ensures ∙ ap option_copied c.in-None.is))
