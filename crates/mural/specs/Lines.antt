-- The lines of an input, and those that are due a reply.
use Rattle.std.specs.Prelude.{ℕ, ◌-◌, ◌^◌, Bool, ◌==◌, nat_le, if◌then◌else◌, List, [], ◌∷◌, ◌++◌, length, take, slice_index_or}
use Rattle.std.specs.List.{slice_split}

-- the byte that ends a line
abbrev pub is_line_feed : ℕ → Bool
is_line_feed byte = byte == 10

-- what stands between the line feeds: one piece at least, an empty one where nothing does
abbrev pub pieces : List ℕ → List (List ℕ)
pieces input = slice_split is_line_feed input

-- the lines that a line feed ends: all pieces but the last
abbrev pub whole_lines : List ℕ → List (List ℕ)
whole_lines input = take (length (pieces input) - 1) (pieces input)

-- what stands behind the last line feed: the last piece
abbrev pub unfinished : List ℕ → List ℕ
unfinished input = slice_index_or (pieces input) (length (pieces input) - 1) []

-- a last line that no line feed ends counts where it has a byte
abbrev pub last_line : List ℕ → List (List ℕ)
last_line [] = []
last_line (byte ∷ bytes) = (byte ∷ bytes) ∷ []

-- the lines of an input
abbrev pub lines : List ℕ → List (List ℕ)
lines input = whole_lines input ++ last_line (unfinished input)

-- the most bytes of an input that are read
abbrev pub most_input : ℕ
most_input = 2 ^ 28

-- the lines that are due a reply: all of them, or of a longer input the whole ones among the bytes that are read
abbrev pub due_lines : List ℕ → List (List ℕ)
due_lines input = if nat_le (length input) most_input then lines input else whole_lines (take most_input input)
