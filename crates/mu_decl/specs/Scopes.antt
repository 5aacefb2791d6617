-- Variables by their names.
use Rattle.std.specs.Prelude.{ℕ, List, ◌++◌, map}
use Rattle.mu_decl.specs.declared.formation.Scoped.{Scoped}
use Rattle.mu_decl.specs.Formation.{expression}

-- a name as the name of itself
abbrev pub itself : List ℕ → List ℕ
itself n = n

-- variables of elements, further ones within them, and others of any kind within those
abbrev pub layered : List (List ℕ) → List (List ℕ) → List Scoped → List Scoped
layered scope own inner = map expression scope ++ map expression own ++ inner
