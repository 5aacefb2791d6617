-- Texts with their numbers: how they are found, and their order.
use Rattle.std.specs.Prelude.{◌≡◌, ◌≢◌, ℕ, List, [], ◌∷◌, Option, Some, None, if◌then◌else◌, Bool, true, false, ◌&&◌, ◌==◌, not, nat_lt, ◌++◌, map}
use Rattle.std.specs.Bool.{nat_eq}
use Rattle.std.specs.List.{list_all, list_any, starts_with}
use Rattle.std.specs.Str.{bytes_eq}
use Rattle.std.specs.Borrow.{Bor}
use Rattle.mu_tables.specs.declared.words.Row.{Row}

-- the texts of the rows, each with its number
abbrev pub rows_of : List Row → List (List ℕ × ℕ)
rows_of rows = map (λ row. (row.text.now, row.number)) rows

-- the number of the first row with the text
abbrev pub number_of : List ℕ → List (List ℕ × ℕ) → Option ℕ
number_of text [] = None
number_of text (row ∷ rows) = if bytes_eq row.0 text then Some row.1 else number_of text rows

-- whether some row's text begins with these bytes
abbrev pub some_begins : List ℕ → List (List ℕ × ℕ) → Bool
some_begins front [] = false
some_begins front (row ∷ rows) = if starts_with nat_eq row.0 front then true else some_begins front rows

-- no byte of the word is a blank
abbrev pub is_bare : List ℕ → Bool
is_bare text = list_all (λ byte. not (byte == 32)) text

-- the number of the first row whose text is the word behind the front
abbrev pub number_behind : List ℕ → List ℕ → List (List ℕ × ℕ) → Option ℕ
number_behind front text rows = if is_bare text then number_of (front ++ text) rows else None

-- the front, the word behind it, and a blank
abbrev pub lengthened : List ℕ → List ℕ → List ℕ
lengthened front text = (front ++ text) ++ 32 ∷ []

-- what is left of the text behind a front of it; none where it doesn't begin so
abbrev pub IsBehind : List ℕ → List ℕ → Option (Bor (List ℕ)) → Type 0
IsBehind text front None = (rest : List ℕ) → text ≢ front ++ rest
IsBehind text front (Some rest) = text ≡ front ++ rest.now

-- the text of the first row with the number
abbrev pub word_of : ℕ → List Row → Option (Bor (List ℕ))
word_of n [] = None
word_of n (row ∷ rows) = if nat_eq row.number n then Some row.text else word_of n rows

-- the text of the first row with the number; empty where none has it
abbrev pub text_of : ℕ → List (List ℕ × ℕ) → List ℕ
text_of n [] = []
text_of n (row ∷ rows) = if nat_eq row.1 n then row.0 else text_of n rows

-- the one text comes before the other in the order of bytes
abbrev pub comes_before : List ℕ → List ℕ → Bool
comes_before [] [] = false
comes_before [] (y ∷ ys) = true
comes_before (x ∷ xs) [] = false
comes_before (x ∷ xs) (y ∷ ys) = if nat_lt x y then true else (if nat_eq x y then comes_before xs ys else false)

-- the text comes before the next, and each of these before the next
abbrev pub rise_from : List ℕ → List (List ℕ) → Bool
rise_from text [] = true
rise_from text (next ∷ texts) = comes_before text next && rise_from next texts

-- each text comes before the next
abbrev pub rise : List (List ℕ) → Bool
rise [] = true
rise (text ∷ texts) = rise_from text texts

-- no number stands twice
abbrev pub numbers_differ : List ℕ → Bool
numbers_differ [] = true
numbers_differ (n ∷ ns) = not (list_any (λ m. nat_eq m n) ns) && numbers_differ ns

-- the texts rise, and no number stands twice
abbrev pub are_words : List (List ℕ × ℕ) → Bool
are_words rows = rise (map (λ row. row.0) rows) && numbers_differ (map (λ row. row.1) rows)
