-- Abstractions by their metavariables.
use Rattle.std.specs.Prelude.{◌≡◌, ℕ, cond, List, Option, slice_get, option_and_then}
use Rattle.std.specs.Option.{is_some}
use Rattle.std.specs.FinMap as finite
use Rattle.mu_tree.specs.Maps.{MapOf}
use Rattle.mu_decl.specs.declared.instantiating.Abstraction.{Abstraction}
use Rattle.mu_decl.specs.Instantiating.{abstraction_of}

-- the abstraction whose place is known
abbrev pub located : List Abstraction → MapOf ℕ → List ℕ → Option Abstraction
located given places m = option_and_then (slice_get given) (finite.get places m)

-- the places with that of an abstraction, unless its metavariable has one
abbrev pub with_place : List Abstraction → ℕ → List ℕ → MapOf ℕ → MapOf ℕ
with_place given i m places = cond (is_some (located given places m)) places (finite.insert places m i)

-- the first of some abstractions of each metavariable is the one whose place is known
pub record Locates (places : MapOf ℕ) (given some : List Abstraction) : Type 0 where
  pub first : (m : List ℕ) → located given places m ≡ abstraction_of some m
