use Rattle.std.proofs.Common.{◌≡◌}
use Rattle.std.specs.Prelude.{◌&&◌}
use Rattle.std.specs.Bool.{nat_eq}
use Rattle.std.specs.Cmp.Lexicographic.{pointwise}
use Rattle.std.specs.List.{filter}
use Rattle.mu_defs.specs.Owned.{passes_at}
use Rattle.mu_defs.proofs.owned.axioms_in.Given as goal

abbrev pub invariant-loop-name : goal.invariant-loop-name
invariant-loop-name l = l.axioms ≡ filter (passes_at (λ rule. pointwise nat_eq rule.theory l.unit && rule.is_axiom) l.rules) l.yielded
