-- How large nameless trees are.
use Rattle.std.specs.Prelude.{ℕ, ◌+◌, List, map, sum}
use Rattle.mu_decl.specs.declared.bare.Bare.{Bare}
use Rattle.mu_decl.specs.declared.bare.Bare.TheOpen.{Bare-F, Var, Index, App, Meta, Bind}
use Rattle.mu_decl.specs.declared.bare.Bare.TheFolds.{fold-Bare}

-- one for each node
abbrev pub weight_step : Bare-F ℕ → ℕ
weight_step (Var x) = 1
weight_step (Index i) = 1
weight_step (App f weights) = sum weights + 1
weight_step (Meta m weights) = sum weights + 1
weight_step (Bind b domain body) = domain + body + 1

-- how many nodes a nameless tree has
unfoldable pub weight : Bare → ℕ
weight = fold-Bare ℕ weight_step

-- how many nodes some nameless trees have
abbrev pub weights : List Bare → ℕ
weights trees = sum (map weight trees)
