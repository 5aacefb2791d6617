use Rattle.std.proofs.Common.{◌≡◌}
use Rattle.std.specs.Bool.{nat_eq}
use Rattle.std.specs.Cmp.Lexicographic.{pointwise}
use Rattle.std.specs.List.{filter}
use Rattle.mu_defs.specs.Owned.{passes_at}
use Rattle.mu_defs.proofs.owned.those_in.Given as goal

abbrev pub invariant-loop-name : goal.invariant-loop-name
invariant-loop-name g l = l.within ≡ filter (passes_at (λ value. pointwise nat_eq (g.V.Owned.owner value) l.unit) l.values) l.yielded
