-- The law of reading a line as tokens: how each sort is spelled, and the longest first.
use Rattle.std.specs.Prelude.{◌≡◌, ℕ, ◌-◌, ◌≤◌, Bool, true, false, not, ◌&&◌, ◌||◌, ◌==◌, ◌⊎◌, nat_le, nat_lt, List, [], ◌∷◌, length, take, drop, codes}
use Rattle.std.specs.Bool.{nat_eq}
use Rattle.std.specs.List.{list_all, list_any}
use Rattle.std.specs.Cmp.Lexicographic.{pointwise}
use Rattle.mu_tree.specs.Names.{is_digit, is_segment, segments, are_segments, is_name}
use Rattle.mu_grammar.specs.declared.token.TokenSort.{TokenSort}
use Rattle.mu_grammar.specs.declared.token.TokenSort.TheVariants.{Name, Meta, Place, Symbol, Wrong}
use Rattle.mu_grammar.specs.declared.token.Token.{Token}

-- a space, a tab or a carriage return
abbrev pub is_blank : ℕ → Bool
is_blank byte = byte == 32 || byte == 9 || byte == 13

-- the first byte is there, and is no blank
abbrev pub starts_visible : List ℕ → Bool
starts_visible [] = false
starts_visible (byte ∷ bytes) = not (is_blank byte)

-- the first byte is a digit from 1 to 9
abbrev pub starts_positive : List ℕ → Bool
starts_positive [] = false
starts_positive (byte ∷ bytes) = nat_le 49 byte && nat_le byte 57

-- the symbols
abbrev pub symbols : List (List ℕ)
symbols =
    codes "(" ∷ codes ")" ∷ codes "[" ∷ codes "]" ∷ codes "{" ∷ codes "}" ∷ codes "," ∷ codes ";" ∷ codes "." ∷ codes ":" ∷ codes ":=" ∷ codes "=" ∷ codes "=>" ∷ codes "<=>"
    ∷ codes "|" ∷ codes "|-" ∷ codes "->" ∷ []

-- the text is one of the symbols
abbrev pub is_symbol : List ℕ → Bool
is_symbol text = list_any (pointwise nat_eq text) symbols

-- `?` and a segment
abbrev pub is_meta : List ℕ → Bool
is_meta [] = false
is_meta (byte ∷ bytes) = byte == 63 && is_segment bytes

-- `#` and one to nine digits, the first not 0
abbrev pub is_place : List ℕ → Bool
is_place [] = false
is_place (byte ∷ bytes) = byte == 35 && starts_positive bytes && list_all is_digit bytes && nat_le (length bytes) 9

-- more segments joined by dots than a name has
abbrev pub is_overlong : List ℕ → Bool
is_overlong text = are_segments text && nat_lt 3 (length (segments text))

-- how a token of each sort is spelled, but for a byte that begins none
abbrev pub is_spelled : TokenSort → List ℕ → Bool
is_spelled Name text = is_name text
is_spelled Meta text = is_meta text
is_spelled Place text = is_place text
is_spelled Symbol text = is_symbol text
is_spelled Wrong text = is_overlong text

-- the first n bytes of the text are there, and are spelled as a token of the sort
pub record IsFront (sort : TokenSort) (n : ℕ) (text : List ℕ) : Type 0 where
  pub within : n ≤ length text
  pub spelled : is_spelled sort (take n text) ≡ true

-- the first n bytes are spelled as a token of the sort, and no longer front is spelled as any
pub record IsLongestFront (sort : TokenSort) (n : ℕ) (text : List ℕ) : Type 0 where
  pub front : IsFront sort n text
  pub longest : (other : TokenSort) (m : ℕ) → IsFront other m text → m ≤ n

-- the first byte, which is no blank, begins no token, and is wrong alone
pub record IsStray (sort : TokenSort) (n : ℕ) (text : List ℕ) : Type 0 where
  pub wrong : sort ≡ Wrong
  pub one : n ≡ 1
  pub visible : starts_visible text ≡ true
  pub alone : (other : TokenSort) (m : ℕ) → IsFront other m text → ⊥

-- the text begins with a token of this sort and of n bytes
abbrev pub IsFirstToken : TokenSort → ℕ → List ℕ → Type 0
IsFirstToken sort n text = IsLongestFront sort n text ⊎ IsStray sort n text

-- from this place on the line is read as these tokens, with blanks alone before, between and after them
abbrev pub AreTokensFrom : ℕ → List ℕ → List Token → Type 0
AreTokensFrom at line [] = list_all is_blank (drop at line) ≡ true
AreTokensFrom at line (token ∷ tokens) =
    (at ≤ token.from) × (list_all is_blank (take (token.from - at) (drop at line)) ≡ true)
    × IsFirstToken token.sort (token.to - token.from) (drop token.from line) × AreTokensFrom token.to line tokens

-- the line is read as these tokens
abbrev pub AreTokens : List ℕ → List Token → Type 0
AreTokens line tokens = AreTokensFrom 0 line tokens

-- the line is read as no other tokens
abbrev pub AreOnlyTokens : List ℕ → List Token → Type 0
AreOnlyTokens line tokens = (others : List Token) → AreTokens line others → others ≡ tokens

-- the bytes of the line from the token's first to its last, as far as the line has them
abbrev pub text_of : List ℕ → Token → List ℕ
text_of line token = take (token.to - token.from) (drop token.from line)
