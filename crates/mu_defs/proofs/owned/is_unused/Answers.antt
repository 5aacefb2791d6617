use Rattle.std.proofs.Common.{◌∙◌, ap}
use Rattle.std.specs.Prelude.{not}
use Rattle.std.specs.List.{list_any}
use Rattle.std.specs.Bool.{nat_eq}
use Rattle.std.specs.Cmp.Lexicographic.{pointwise}
use Rattle.mu_defs.specs.Owned.{passes_at}
use Rattle.mu_defs.proofs.OwnedLemmas.{used_within, unused_exact}
use Rattle.mu_defs.proofs.owned.is_unused.Goals as goal

pub returns-clause-value : goal.returns-clause-value
returns-clause-value g c =
    ap not (c.is_some_in.ensures ∙ ap (list_any (passes_at (λ value. pointwise nat_eq (g.V.Owned.owner value) c.args.unit.now) c.args.values.now)) (c.items.ensures ∙ c.in_ok-names.ensures)
    ∙ used_within g.V.Owned.owner c.args.values.now c.args.index.now c.args.unit.now c.requires)

pub returns-clause-exact : goal.returns-clause-exact
returns-clause-exact g c =
    unused_exact g.V.Owned.owner c.args.values.now c.args.unit.now c.is_some_in.result
    (c.is_some_in.ensures ∙ ap (list_any (passes_at (λ value. pointwise nat_eq (g.V.Owned.owner value) c.args.unit.now) c.args.values.now)) (c.items.ensures ∙ c.in_ok-names.ensures)
    ∙ used_within g.V.Owned.owner c.args.values.now c.args.index.now c.args.unit.now c.requires)
