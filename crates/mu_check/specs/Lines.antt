-- The lines of a proof.
use Rattle.std.specs.Prelude.{ℕ, List, map, sum}
use Rattle.mu_proof.specs.declared.items.Item.{Item}
use Rattle.mu_proof.specs.declared.items.Item.TheOpen.{Item-F, Line, Block}
use Rattle.mu_proof.specs.declared.items.Item.TheFolds.{fold-Item}

-- one for a line, and those in it for a block
abbrev pub lines_step : Item-F ℕ → ℕ
lines_step (Line l t why) = 1
lines_step (Block l vars trees counts) = sum counts

-- how many lines an item is or has
abbrev pub lines : Item → ℕ
lines = fold-Item ℕ lines_step

-- how many lines some items are or have
abbrev pub lines_of : List Item → ℕ
lines_of items = sum (map lines items)
