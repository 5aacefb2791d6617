-- Delta reduction: a defined constant replaced by its definition in nameless trees.
use Rattle.std.specs.Prelude.{ℕ, ◌&&◌, cond, nat_eq, List, [], length}
use Rattle.std.specs.Cmp.Lexicographic.{pointwise}
use Rattle.mu_tree.specs.declared.claim.Definition.{Definition}
use Rattle.mu_decl.specs.declared.bare.Bare.{Bare}
use Rattle.mu_decl.specs.declared.bare.Bare.TheOpen.{Bare-F, Var, Index, App, Meta, Bind}
use Rattle.mu_decl.specs.declared.bare.Bare.TheFolds.{fold-Bare}
use Rattle.mu_decl.specs.declared.bare.Bare.TheVariants as bare
use Rattle.mu_decl.specs.Nameless.{nameless}
use Rattle.mu_decl.specs.Opening.{opened}
use Rattle.mu_decl.specs.declared.unfolding.DeltaRule.{DeltaRule}

-- a constant with its arguments: the body at these arguments, where it is the defined one and has as many as there are parameters
abbrev pub unfolded_application : DeltaRule → List ℕ → List Bare → Bare
unfolded_application u f arguments = cond (pointwise nat_eq f u.constant && nat_eq u.count (length arguments)) (opened arguments u.body) (bare.App f arguments)

-- one node with its parts unfolded
abbrev pub unfolded_step : DeltaRule → Bare-F Bare → Bare
unfolded_step u (Var x) = bare.Var x
unfolded_step u (Index i) = bare.Index i
unfolded_step u (App f arguments) = unfolded_application u f arguments
unfolded_step u (Meta m arguments) = bare.Meta m arguments
unfolded_step u (Bind b domain body) = bare.Bind b domain body

-- a defined constant replaced by its definition wherever it stands, from inside out; bodies that came in stay as they are
unfoldable pub unfolded : DeltaRule → Bare → Bare
unfolded u = fold-Bare Bare (unfolded_step u)

-- the definition of a constant as a rule of delta reduction
abbrev pub delta_of : List ℕ → Definition → DeltaRule
delta_of c d = record { constant = c; count = length d.params; body = nameless [] d.params d.body }
