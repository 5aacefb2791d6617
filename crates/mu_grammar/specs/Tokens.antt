-- The tokens of a line, computed from its first byte to its last.
use Rattle.std.specs.Prelude.{ℕ, zero, suc, ◌+◌, min, Bool, false, ◌&&◌, ◌||◌, if◌then◌else◌, ◌==◌, nat_le, List, [], ◌∷◌, take, drop, count_by}
use Rattle.std.specs.List.{prefix_len}
use Rattle.mu_tree.specs.Names.{is_letter, is_digit, is_name_byte}
use Rattle.mu_grammar.specs.declared.token.TokenSort.{TokenSort}
use Rattle.mu_grammar.specs.declared.token.TokenSort.TheVariants.{Name, Meta, Place, Symbol, Wrong}
use Rattle.mu_grammar.specs.declared.token.Token.{Token}
use Rattle.mu_grammar.specs.Reading.{is_blank, starts_positive}

-- the first byte is a letter
abbrev pub starts_letter : List ℕ → Bool
starts_letter [] = false
starts_letter (byte ∷ bytes) = is_letter byte

-- the first byte is this one
abbrev pub starts_with : ℕ → List ℕ → Bool
starts_with first [] = false
starts_with first (byte ∷ bytes) = byte == first

-- how many first bytes go on with a name: a dot does so exactly where a letter follows it
abbrev pub run_length : List ℕ → ℕ
run_length [] = 0
run_length (byte ∷ bytes) = if is_name_byte byte || (byte == 46 && starts_letter bytes) then suc (run_length bytes) else 0

-- how many dots the text has
abbrev pub dots : List ℕ → ℕ
dots text = count_by (λ byte. byte == 46) text

-- a name has at most two dots
abbrev pub name_sort : ℕ → TokenSort
name_sort dots = if nat_le dots 2 then Name else Wrong

-- the bytes begin with the symbol of three bytes
abbrev pub is_arrow : ℕ → List ℕ → Bool
is_arrow byte bytes = byte == 60 && (starts_with 61 bytes && starts_with 62 (drop 1 bytes))

-- the bytes begin with a symbol of two bytes
abbrev pub is_pair : ℕ → List ℕ → Bool
is_pair byte bytes = (byte == 58 && starts_with 61 bytes) || (byte == 61 && starts_with 62 bytes) || (byte == 124 && starts_with 45 bytes) || (byte == 45 && starts_with 62 bytes)

-- the byte is a symbol
abbrev pub is_single : ℕ → Bool
is_single byte = byte == 40 || byte == 41 || byte == 91 || byte == 93 || byte == 123 || byte == 125 || byte == 44 || byte == 59 || byte == 46 || byte == 58 || byte == 61 || byte == 124

-- the sort of the token that begins with this byte and goes on in these, and how many of these it has
unfoldable pub first_token : ℕ → List ℕ → TokenSort × ℕ
first_token byte bytes =
    if is_letter byte then (name_sort (dots (take (run_length bytes) bytes)), run_length bytes)
    else (if byte == 63 && starts_letter bytes then (Meta, prefix_len is_name_byte bytes)
    else (if byte == 35 && starts_positive bytes then (Place, min 9 (prefix_len is_digit bytes))
    else (if is_arrow byte bytes then (Symbol, 2)
    else (if is_pair byte bytes then (Symbol, 1)
    else (if is_single byte then (Symbol, 0) else (Wrong, 0))))))

-- the tokens of a text that stands at this place of the line, behind that many bytes of a token
abbrev pub tokens_from : ℕ → ℕ → List ℕ → List Token
tokens_from skip at [] = []
tokens_from (suc skip) at (byte ∷ bytes) = tokens_from skip (at + 1) bytes
tokens_from zero at (byte ∷ bytes) =
    if is_blank byte then tokens_from 0 (at + 1) bytes
    else (let first = first_token byte bytes in record { sort = first.0; from = at; to = at + 1 + first.1 } ∷ tokens_from first.1 (at + 1) bytes)

-- the tokens of a line
abbrev pub tokens : List ℕ → List Token
tokens line = tokens_from 0 0 line
