-- Names: one to three segments joined by dots.
use Rattle.std.specs.Prelude.{◌≡◌, ℕ, Bool, true, false, ◌&&◌, ◌||◌, ◌==◌, nat_le, List, [], ◌∷◌, length}
use Rattle.std.specs.Bool.{nat_eq}
use Rattle.std.specs.List.{list_all, list_any, slice_split}
use Rattle.std.specs.Cmp.Lexicographic.{pointwise}

-- an ASCII letter
abbrev pub is_letter : ℕ → Bool
is_letter byte = (nat_le 97 byte && nat_le byte 122) || (nat_le 65 byte && nat_le byte 90)

-- an ASCII digit
abbrev pub is_digit : ℕ → Bool
is_digit byte = nat_le 48 byte && nat_le byte 57

-- a letter, a digit or an underscore
abbrev pub is_name_byte : ℕ → Bool
is_name_byte byte = is_letter byte || is_digit byte || byte == 95

-- a letter, then letters, digits and underscores
abbrev pub is_segment : List ℕ → Bool
is_segment [] = false
is_segment (byte ∷ bytes) = is_letter byte && list_all is_name_byte bytes

-- the parts of a text between its dots
abbrev pub segments : List ℕ → List (List ℕ)
segments text = slice_split (λ byte. byte == 46) text

-- the text is segments joined by dots
abbrev pub are_segments : List ℕ → Bool
are_segments text = list_all is_segment (segments text)

-- the text is spelled as a name, however long its segments are
abbrev pub is_name : List ℕ → Bool
is_name text = are_segments text && nat_le (length (segments text)) 3

-- no segment has more than 64 bytes
abbrev pub is_short : List ℕ → Bool
is_short text = list_all (λ segment. nat_le (length segment) 64) (segments text)

-- the bytes that a name may have
pub record IsName (text : List ℕ) : Type 0 where
  pub spelled : is_name text ≡ true
  pub short : is_short text ≡ true

-- whether a name is among some
abbrev pub is_among : List (List ℕ) → List ℕ → Bool
is_among names name = list_any (λ other. pointwise nat_eq other name) names
