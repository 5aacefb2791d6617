-- Shifting and opening nameless trees.
use Rattle.std.specs.Prelude.{ℕ, ◌+◌, ◌-◌, cond, nat_lt, List, map, length, reverse, slice_get, Option, Some, None}
use Rattle.mu_decl.specs.declared.bare.Bare.{Bare}
use Rattle.mu_decl.specs.declared.bare.Bare.TheOpen.{Bare-F, Var, Index, App, Meta, Bind}
use Rattle.mu_decl.specs.declared.bare.Bare.TheFolds.{fold-Bare}
use Rattle.mu_decl.specs.declared.bare.Bare.TheVariants as bare

-- a loose index raised by `by`, under `depth` binders
abbrev pub shifted_index : ℕ → ℕ → ℕ → Bare
shifted_index by depth i = bare.Index (cond (nat_lt i depth) i (i + by))

-- one node, shifted, with what each part is under the binders where it stands
abbrev pub shift_step : ℕ → Bare-F (ℕ → Bare) → ℕ → Bare
shift_step by (Var x) = λ depth. bare.Var x
shift_step by (Index i) = λ depth. shifted_index by depth i
shift_step by (App f arguments) = λ depth. bare.App f (map (λ argument. argument depth) arguments)
shift_step by (Meta m arguments) = λ depth. bare.Meta m (map (λ argument. argument depth) arguments)
shift_step by (Bind b domain body) = λ depth. bare.Bind b (domain depth) (body (depth + 1))

-- the loose indices raised by `by`, of a tree under `depth` binders
unfoldable pub shift_under : ℕ → ℕ → Bare → Bare
shift_under by depth t = fold-Bare (ℕ → Bare) (shift_step by) t depth

-- the loose indices of a tree raised: what it is when it is put under `by` binders more
abbrev pub shift : ℕ → Bare → Bare
shift by = shift_under by 0

-- what an index gives, where it names an argument and where it doesn't
abbrev pub placed : ℕ → ℕ → Option Bare → Bare
placed depth lower (Some argument) = shift depth argument
placed depth lower None = bare.Index lower

-- an index under `depth` binders: the arguments stand for the innermost loose ones, the last argument for the first of them
abbrev pub opened_index : List Bare → ℕ → ℕ → Bare
opened_index arguments depth i = cond (nat_lt i depth) (bare.Index i) (placed depth (i - length arguments) (slice_get (reverse arguments) (i - depth)))

-- one node, opened, with what each part is under the binders where it stands
abbrev pub open_step : List Bare → Bare-F (ℕ → Bare) → ℕ → Bare
open_step by (Var x) = λ depth. bare.Var x
open_step by (Index i) = λ depth. opened_index by depth i
open_step by (App f arguments) = λ depth. bare.App f (map (λ argument. argument depth) arguments)
open_step by (Meta m arguments) = λ depth. bare.Meta m (map (λ argument. argument depth) arguments)
open_step by (Bind b domain body) = λ depth. bare.Bind b (domain depth) (body (depth + 1))

-- a tree under `depth` binders, opened by some trees
unfoldable pub open_under : List Bare → ℕ → Bare → Bare
open_under by depth t = fold-Bare (ℕ → Bare) (open_step by) t depth

-- a tree with its innermost loose indices replaced by some trees, the last tree for the innermost
abbrev pub opened : List Bare → Bare → Bare
opened by = open_under by 0
