-- Finite maps by name.
use Rattle.std.specs.Ordering.{nat_cmp}
use Rattle.std.specs.Cmp.Lexicographic.{slice_cmp}
use Rattle.std.specs.FinMap.{FinMap}

-- a finite map from names to values, its keys in byte order
abbrev pub MapOf : Type 0 → Type 0
MapOf V = FinMap (slice_cmp nat_cmp) V

-- a finite set of names
abbrev pub NamesOf : Type 0
NamesOf = MapOf (Unit {0})
