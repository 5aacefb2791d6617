-- The name of the whole proof.
use Rattle.std.specs.Prelude.{ℕ, Bool, List, codes}
use Rattle.std.specs.Bool.{nat_eq}
use Rattle.std.specs.Cmp.Lexicographic.{pointwise}

-- the name of the whole proof, as of a block
abbrev pub root : List ℕ
root = codes "root"

-- whether a name is that of the whole proof
abbrev pub is_root : List ℕ → Bool
is_root name = pointwise nat_eq name root
