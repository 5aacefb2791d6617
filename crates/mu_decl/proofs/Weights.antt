-- The equations of `weight`, one for each variant.
use Rattle.std.proofs.Common.{◌≡◌, ℕ, ◌+◌, List, map, sum, ap, sym, ◌∙◌}
use Rattle.mu_decl.specs.declared.bare.Bare.{Bare}
use Rattle.mu_decl.specs.declared.bare.Bare.TheOpen.{Var, Index, App, Meta, Bind}
use Rattle.mu_decl.specs.declared.bare.Bare.TheFolds.{fold-roll-Bare}
use Rattle.mu_decl.specs.declared.bare.Bare.TheVariants as bare
use Rattle.mu_decl.specs.Weights.{weight, weight_step}

pub weight-var : (x : List ℕ) → weight (bare.Var x) ≡ 1
unfolding weight
weight-var x = ap weight (sym (bare.rolls-Var x)) ∙ fold-roll-Bare ℕ weight_step (Var x)

pub weight-index : (i : ℕ) → weight (bare.Index i) ≡ 1
unfolding weight
weight-index i = ap weight (sym (bare.rolls-Index i)) ∙ fold-roll-Bare ℕ weight_step (Index i)

pub weight-app : (f : List ℕ) (arguments : List Bare) → weight (bare.App f arguments) ≡ sum (map weight arguments) + 1
unfolding weight
weight-app f arguments = ap weight (sym (bare.rolls-App f arguments)) ∙ fold-roll-Bare ℕ weight_step (App f arguments)

pub weight-meta : (m : List ℕ) (arguments : List Bare) → weight (bare.Meta m arguments) ≡ sum (map weight arguments) + 1
unfolding weight
weight-meta m arguments = ap weight (sym (bare.rolls-Meta m arguments)) ∙ fold-roll-Bare ℕ weight_step (Meta m arguments)

pub weight-bind : (b : List ℕ) (domain body : Bare) → weight (bare.Bind b domain body) ≡ weight domain + weight body + 1
unfolding weight
weight-bind b domain body = ap weight (sym (bare.rolls-Bind b domain body)) ∙ fold-roll-Bare ℕ weight_step (Bind b domain body)

pub ruleset weight_equations = (weight-var, weight-index, weight-app, weight-meta, weight-bind)
