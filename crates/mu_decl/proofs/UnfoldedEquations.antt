-- The equations of unfolding.
use Rattle.std.proofs.Common.{◌≡◌, ℕ, List, map, ap, sym, ◌∙◌}
use Rattle.mu_decl.specs.declared.bare.Bare.{Bare}
use Rattle.mu_decl.specs.declared.bare.Bare.TheOpen.{Var, Index, App, Meta, Bind}
use Rattle.mu_decl.specs.declared.bare.Bare.TheFolds.{fold-roll-Bare}
use Rattle.mu_decl.specs.declared.bare.Bare.TheVariants as bare
use Rattle.mu_decl.specs.declared.unfolding.DeltaRule.{DeltaRule}
use Rattle.mu_decl.specs.Unfolding.{unfolded, unfolded_step, unfolded_application}

pub unfolded-var : (u : DeltaRule) (x : List ℕ) → unfolded u (bare.Var x) ≡ bare.Var x
unfolding unfolded
unfolded-var u x = ap (unfolded u) (sym (bare.rolls-Var x)) ∙ fold-roll-Bare Bare (unfolded_step u) (Var x)

pub unfolded-index : (u : DeltaRule) (i : ℕ) → unfolded u (bare.Index i) ≡ bare.Index i
unfolding unfolded
unfolded-index u i = ap (unfolded u) (sym (bare.rolls-Index i)) ∙ fold-roll-Bare Bare (unfolded_step u) (Index i)

pub unfolded-app : (u : DeltaRule) (f : List ℕ) (arguments : List Bare) → unfolded u (bare.App f arguments) ≡ unfolded_application u f (map (unfolded u) arguments)
unfolding unfolded
unfolded-app u f arguments = ap (unfolded u) (sym (bare.rolls-App f arguments)) ∙ fold-roll-Bare Bare (unfolded_step u) (App f arguments)

pub unfolded-meta : (u : DeltaRule) (m : List ℕ) (arguments : List Bare) → unfolded u (bare.Meta m arguments) ≡ bare.Meta m (map (unfolded u) arguments)
unfolding unfolded
unfolded-meta u m arguments = ap (unfolded u) (sym (bare.rolls-Meta m arguments)) ∙ fold-roll-Bare Bare (unfolded_step u) (Meta m arguments)

pub unfolded-bind : (u : DeltaRule) (b : List ℕ) (domain body : Bare) → unfolded u (bare.Bind b domain body) ≡ bare.Bind b (unfolded u domain) (unfolded u body)
unfolding unfolded
unfolded-bind u b domain body = ap (unfolded u) (sym (bare.rolls-Bind b domain body)) ∙ fold-roll-Bare Bare (unfolded_step u) (Bind b domain body)

pub ruleset unfolded_equations = (unfolded-var, unfolded-index, unfolded-app, unfolded-meta, unfolded-bind)
