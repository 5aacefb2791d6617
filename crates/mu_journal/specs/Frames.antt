-- A record as the one piece that is written of it.
use Rattle.std.specs.Prelude.{◌≡◌, ◌-◌, ℕ, List, [], ◌∷◌, ◌++◌, length, take, drop}
use Rattle.std.specs.Int.{to_be_bytes, w32}
use Rattle.mu_journal.specs.Formats.{IsRecord}

-- a record's length, its bytes and a closed gate
abbrev pub framed : List ℕ → List ℕ
framed one = to_be_bytes w32 (length one) ++ one ++ 0 ∷ []

-- the bytes between the length and the gate
abbrev pub unframed : List ℕ → List ℕ
unframed piece = take (length piece - 5) (drop 4 piece)

-- a piece is a record between its length and a closed gate
pub record IsFrame (piece : List ℕ) : Type 0 where
  pub is : piece ≡ framed (unframed piece)
  pub valid : IsRecord (unframed piece)
