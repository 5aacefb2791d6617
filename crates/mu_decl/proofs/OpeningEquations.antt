-- The equations of shifting, opening and instantiating.
use Rattle.std.proofs.Common.{◌≡◌, ℕ, ◌+◌, List, map, ap, sym, ◌∙◌}
use Rattle.std.proofs.lemmas.Simd.{map-map}
use Rattle.mu_decl.specs.declared.bare.Bare.{Bare}
use Rattle.mu_decl.specs.declared.bare.Bare.TheOpen.{Bare-F, Var, Index, App, Meta, Bind}
use Rattle.mu_decl.specs.declared.bare.Bare.TheFolds.{fold-Bare, fold-roll-Bare}
use Rattle.mu_decl.specs.declared.bare.Bare.TheVariants as bare
use Rattle.mu_decl.specs.declared.instantiating.Abstraction.{Abstraction}
use Rattle.mu_decl.specs.Opening.{shifted_index, shift_step, shift_under, opened_index, open_step, open_under}
use Rattle.mu_decl.specs.Instantiating.{instantiated_step, instantiated, instance}

-- a fold into functions of the depth: its equations by the steps
module _ (step : Bare-F (ℕ → Bare) → ℕ → Bare) (depth : ℕ) where
  abbrev under : Bare → ℕ → Bare
  under = fold-Bare (ℕ → Bare) step

  abbrev at : (ℕ → Bare) → Bare
  at f = f depth

  at-var : (x : List ℕ) → under (bare.Var x) depth ≡ step (Var x) depth
  at-var x = ap (λ t. under t depth) (sym (bare.rolls-Var x)) ∙ ap at (fold-roll-Bare (ℕ → Bare) step (Var x))

  at-index : (i : ℕ) → under (bare.Index i) depth ≡ step (Index i) depth
  at-index i = ap (λ t. under t depth) (sym (bare.rolls-Index i)) ∙ ap at (fold-roll-Bare (ℕ → Bare) step (Index i))

  at-app : (f : List ℕ) (arguments : List Bare) → under (bare.App f arguments) depth ≡ step (App f (map under arguments)) depth
  at-app f arguments = ap (λ t. under t depth) (sym (bare.rolls-App f arguments)) ∙ ap at (fold-roll-Bare (ℕ → Bare) step (App f arguments))

  at-meta : (m : List ℕ) (arguments : List Bare) → under (bare.Meta m arguments) depth ≡ step (Meta m (map under arguments)) depth
  at-meta m arguments = ap (λ t. under t depth) (sym (bare.rolls-Meta m arguments)) ∙ ap at (fold-roll-Bare (ℕ → Bare) step (Meta m arguments))

  at-bind : (b : List ℕ) (domain body : Bare) → under (bare.Bind b domain body) depth ≡ step (Bind b (under domain) (under body)) depth
  at-bind b domain body = ap (λ t. under t depth) (sym (bare.rolls-Bind b domain body)) ∙ ap at (fold-roll-Bare (ℕ → Bare) step (Bind b domain body))

  at_all : (arguments : List Bare) → map at (map under arguments) ≡ map (λ t. under t depth) arguments
  at_all arguments = map-map at under arguments

pub shift-var : (by depth : ℕ) (x : List ℕ) → shift_under by depth (bare.Var x) ≡ bare.Var x
unfolding shift_under
shift-var by depth x = at-var (shift_step by) depth x

pub shift-index : (by depth i : ℕ) → shift_under by depth (bare.Index i) ≡ shifted_index by depth i
unfolding shift_under
shift-index by depth i = at-index (shift_step by) depth i

pub shift-app : (by depth : ℕ) (f : List ℕ) (arguments : List Bare) → shift_under by depth (bare.App f arguments) ≡ bare.App f (map (shift_under by depth) arguments)
unfolding shift_under
shift-app by depth f arguments = at-app (shift_step by) depth f arguments ∙ ap (bare.App f) (at_all (shift_step by) depth arguments)

pub shift-meta : (by depth : ℕ) (m : List ℕ) (arguments : List Bare) → shift_under by depth (bare.Meta m arguments) ≡ bare.Meta m (map (shift_under by depth) arguments)
unfolding shift_under
shift-meta by depth m arguments = at-meta (shift_step by) depth m arguments ∙ ap (bare.Meta m) (at_all (shift_step by) depth arguments)

pub shift-bind : (by depth : ℕ) (b : List ℕ) (domain body : Bare) → shift_under by depth (bare.Bind b domain body) ≡ bare.Bind b (shift_under by depth domain) (shift_under by (depth + 1) body)
unfolding shift_under
shift-bind by depth b domain body = at-bind (shift_step by) depth b domain body

pub ruleset shift_equations = (shift-var, shift-index, shift-app, shift-meta, shift-bind)

pub open-var : (by : List Bare) (depth : ℕ) (x : List ℕ) → open_under by depth (bare.Var x) ≡ bare.Var x
unfolding open_under
open-var by depth x = at-var (open_step by) depth x

pub open-index : (by : List Bare) (depth i : ℕ) → open_under by depth (bare.Index i) ≡ opened_index by depth i
unfolding open_under
open-index by depth i = at-index (open_step by) depth i

pub open-app : (by : List Bare) (depth : ℕ) (f : List ℕ) (arguments : List Bare) → open_under by depth (bare.App f arguments) ≡ bare.App f (map (open_under by depth) arguments)
unfolding open_under
open-app by depth f arguments = at-app (open_step by) depth f arguments ∙ ap (bare.App f) (at_all (open_step by) depth arguments)

pub open-meta : (by : List Bare) (depth : ℕ) (m : List ℕ) (arguments : List Bare) → open_under by depth (bare.Meta m arguments) ≡ bare.Meta m (map (open_under by depth) arguments)
unfolding open_under
open-meta by depth m arguments = at-meta (open_step by) depth m arguments ∙ ap (bare.Meta m) (at_all (open_step by) depth arguments)

pub open-bind : (by : List Bare) (depth : ℕ) (b : List ℕ) (domain body : Bare) → open_under by depth (bare.Bind b domain body) ≡ bare.Bind b (open_under by depth domain) (open_under by (depth + 1) body)
unfolding open_under
open-bind by depth b domain body = at-bind (open_step by) depth b domain body

pub ruleset open_equations = (open-var, open-index, open-app, open-meta, open-bind)

pub instantiated-var : (given : List Abstraction) (x : List ℕ) → instantiated given (bare.Var x) ≡ bare.Var x
unfolding instantiated
instantiated-var given x = ap (instantiated given) (sym (bare.rolls-Var x)) ∙ fold-roll-Bare Bare (instantiated_step given) (Var x)

pub instantiated-index : (given : List Abstraction) (i : ℕ) → instantiated given (bare.Index i) ≡ bare.Index i
unfolding instantiated
instantiated-index given i = ap (instantiated given) (sym (bare.rolls-Index i)) ∙ fold-roll-Bare Bare (instantiated_step given) (Index i)

pub instantiated-app : (given : List Abstraction) (f : List ℕ) (arguments : List Bare) → instantiated given (bare.App f arguments) ≡ bare.App f (map (instantiated given) arguments)
unfolding instantiated
instantiated-app given f arguments = ap (instantiated given) (sym (bare.rolls-App f arguments)) ∙ fold-roll-Bare Bare (instantiated_step given) (App f arguments)

pub instantiated-meta : (given : List Abstraction) (m : List ℕ) (arguments : List Bare) → instantiated given (bare.Meta m arguments) ≡ instance given m (map (instantiated given) arguments)
unfolding instantiated
instantiated-meta given m arguments = ap (instantiated given) (sym (bare.rolls-Meta m arguments)) ∙ fold-roll-Bare Bare (instantiated_step given) (Meta m arguments)

pub instantiated-bind : (given : List Abstraction) (b : List ℕ) (domain body : Bare) → instantiated given (bare.Bind b domain body) ≡ bare.Bind b (instantiated given domain) (instantiated given body)
unfolding instantiated
instantiated-bind given b domain body = ap (instantiated given) (sym (bare.rolls-Bind b domain body)) ∙ fold-roll-Bare Bare (instantiated_step given) (Bind b domain body)

pub ruleset instantiated_equations = (instantiated-var, instantiated-index, instantiated-app, instantiated-meta, instantiated-bind)
