use Rattle.std.proofs.Common.{◌∙◌, sym, ap}
use Rattle.std.specs.Prelude.{◌&&◌}
use Rattle.std.specs.Bool.{nat_eq}
use Rattle.std.specs.Cmp.Lexicographic.{pointwise, bytes_decides}
use Rattle.std.specs.List.{filter}
use Rattle.std.proofs.lemmas.Bool.{and_parts}
use Rattle.std.proofs.lemmas.Result.{IfOk-weaker}
use Rattle.mu_decl.specs.declared.declaration.Statement.{Statement}
use Rattle.mu_defs.specs.Owned.{passes_at}
use Rattle.mu_defs.proofs.OwnedLemmas.{names_in-within}
use Rattle.mu_defs.proofs.owned.axioms_within.Goals as goal

pub returns : goal.returns
returns c = IfOk-weaker c.axioms_in.result _ _ (λ names is.
    is
    ∙ ap (filter (passes_at (λ rule. pointwise nat_eq rule.theory c.args.unit.now && rule.is_axiom) c.args.rules.now)) c.in_ok-names.ensures
    ∙ sym (names_in-within (λ (rule : Statement). rule.theory) c.args.rules.now c.args.index.now c.args.unit.now c.requires (λ rule. pointwise nat_eq rule.theory c.args.unit.now && rule.is_axiom)
    (λ rule passes. (bytes_decides rule.theory c.args.unit.now).0 (and_parts _ _ passes).0))) c.axioms_in.ensures
