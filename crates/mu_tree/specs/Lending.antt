-- What is lent for a change.
use Rattle.std.specs.Prelude.{◌≡◌, ℕ, List, slice_set, Option, OnSome}
use Rattle.std.specs.FinMap as finite
use Rattle.std.specs.Borrow.{Lends, LendsSo, MutBor, Fml}
use denote.RattleType.{RattleType}
use Rattle.mu_tree.specs.Maps.{MapOf}
use Rattle.mu_tree.specs.contracts.sequence.Sequence as sequence
use Rattle.mu_tree.specs.contracts.table.Table as table

-- the list ends with what was left behind r at this place
abbrev pub LendsItem : (T : RattleType) → MutBor (List T.Denot) → ℕ → MutBor T.Denot → Fml
LendsItem T list at r = Lends (sequence.the_row T) T list r (slice_set list.now at)

-- the map ends with what was left behind r at this name, and as it was where nothing is lent
abbrev pub LendsValue : (V : RattleType) → MutBor (MapOf V.Denot) → List ℕ → Option (MutBor V.Denot) → Fml
LendsValue V map name r = LendsSo (table.the_row V) V map r (λ after w. OnSome r (after ≡ finite.insert map.now name w)) (λ after. after ≡ map.now)
