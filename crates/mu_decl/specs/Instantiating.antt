-- Instantiating nameless trees.
use Rattle.std.specs.Prelude.{ℕ, cond, nat_eq, List, length, Option, Some, None}
use Rattle.std.specs.List.{find}
use Rattle.std.specs.Cmp.Lexicographic.{pointwise}
use Rattle.mu_decl.specs.declared.bare.Bare.{Bare}
use Rattle.mu_decl.specs.declared.bare.Bare.TheOpen.{Bare-F, Var, Index, App, Meta, Bind}
use Rattle.mu_decl.specs.declared.bare.Bare.TheFolds.{fold-Bare}
use Rattle.mu_decl.specs.declared.bare.Bare.TheVariants as bare
use Rattle.mu_decl.specs.declared.instantiating.Abstraction.{Abstraction}
use Rattle.mu_decl.specs.Opening.{opened}

-- the first abstraction of a metavariable
abbrev pub abstraction_of : List Abstraction → List ℕ → Option Abstraction
abstraction_of given m = find (λ a. pointwise nat_eq a.meta m) given

-- a metavariable with its arguments, by its abstraction: it stays where it has none, or one of another number of parameters
abbrev pub instance_by : List ℕ → List Bare → Option Abstraction → Bare
instance_by m arguments None = bare.Meta m arguments
instance_by m arguments (Some a) = cond (nat_eq a.count (length arguments)) (opened arguments a.body) (bare.Meta m arguments)

-- a metavariable with its arguments, instantiated
abbrev pub instance : List Abstraction → List ℕ → List Bare → Bare
instance given m arguments = instance_by m arguments (abstraction_of given m)

-- one node with its parts instantiated
abbrev pub instantiated_step : List Abstraction → Bare-F Bare → Bare
instantiated_step given (Var x) = bare.Var x
instantiated_step given (Index i) = bare.Index i
instantiated_step given (App f arguments) = bare.App f arguments
instantiated_step given (Meta m arguments) = instance given m arguments
instantiated_step given (Bind b domain body) = bare.Bind b domain body

-- all metavariables replaced at once
unfoldable pub instantiated : List Abstraction → Bare → Bare
instantiated given = fold-Bare Bare (instantiated_step given)
