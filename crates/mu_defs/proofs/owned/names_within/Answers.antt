use Rattle.std.proofs.Common.{◌∙◌, sym, ap}
use Rattle.std.specs.Bool.{nat_eq}
use Rattle.std.specs.Cmp.Lexicographic.{pointwise, bytes_decides}
use Rattle.std.specs.List.{filter}
use Rattle.mu_defs.specs.Owned.{passes_at}
use Rattle.mu_defs.proofs.OwnedLemmas.{names_in-within}
use Rattle.mu_defs.proofs.owned.names_within.Goals as goal

pub returns : goal.returns
returns g c =
    c.in_ok-within.ensures
    ∙ ap (filter (passes_at (λ value. pointwise nat_eq (g.V.Owned.owner value) c.args.unit.now) c.args.values.now)) c.in_ok-names.ensures
    ∙ sym (names_in-within g.V.Owned.owner c.args.values.now c.args.index.now c.args.unit.now c.requires (λ value. pointwise nat_eq (g.V.Owned.owner value) c.args.unit.now) (λ value. (bytes_decides (g.V.Owned.owner value) c.args.unit.now).0))
