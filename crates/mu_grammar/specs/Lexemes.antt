-- The tokens of a line as the grammar takes them.
use Rattle.std.specs.Prelude.{ℕ, ◌-◌, if◌then◌else◌, ◌==◌, List, [], ◌∷◌, length, drop, slice_index, map, Option, Some, None, count_by, codes}
use Rattle.std.specs.Bool.{nat_eq}
use Rattle.std.specs.Cmp.Lexicographic.{pointwise}
use Rattle.mu_grammar.specs.Reading.{text_of}
use Rattle.mu_grammar.specs.Tokens.{tokens}
use Rattle.mu_grammar.specs.declared.token.Token.{Token}
use Rattle.mu_grammar.specs.declared.token.TokenSort.{TokenSort}
use Rattle.mu_grammar.specs.declared.token.TokenSort.TheVariants as token
use Rattle.mu_grammar.specs.declared.symbol.Word.{Word}
use Rattle.mu_grammar.specs.declared.symbol.Word.TheVariants.{Plain, Dotted, True, Meta, Place}
use Rattle.mu_grammar.specs.declared.symbol.Mark.{Mark}
use Rattle.mu_grammar.specs.declared.symbol.Mark.TheVariants.{And, Or, Not, Iff, Imp, Eq, Colon, Open, Close, OpenBracket, CloseBracket, OpenBrace, CloseBrace, Comma, Semicolon, Dot, Becomes, Bar, Turnstile, Arrow, Wrong}
use Rattle.mu_grammar.specs.declared.symbol.Sort.{Sort}
use Rattle.mu_grammar.specs.declared.symbol.Sort.TheVariants as sort

-- a token as the grammar takes it: a word with its bytes, a metavariable or a place without its first byte, or a mark
pub data Lexeme : Type 0 where
  word : Word → List ℕ → Lexeme
  mark : Mark → Lexeme

-- what an item is, without its bytes
abbrev pub sort_of : Lexeme → Sort
sort_of (word w text) = sort.Word w
sort_of (mark m) = sort.Mark m

-- the bytes of a word
abbrev pub bytes_of : Lexeme → List ℕ
bytes_of (word w text) = text
bytes_of (mark m) = []

-- what the first item is, where there is one
abbrev pub first_sort : List Lexeme → Option Sort
first_sort [] = None
first_sort (item ∷ rest) = Some (sort_of item)

-- the bytes of the first item
abbrev pub first_bytes : List Lexeme → List ℕ
first_bytes [] = []
first_bytes (item ∷ rest) = bytes_of item

-- all items but the first
abbrev pub after_first : List Lexeme → List Lexeme
after_first [] = []
after_first (item ∷ rest) = rest

-- a name that is no operator's word, by its bytes
abbrev pub name_word : List ℕ → Word
name_word text = if pointwise nat_eq text (codes "true") then True else (if count_by (λ byte. byte == 46) text == 0 then Plain else Dotted)

-- a name by its bytes
abbrev pub name_sort : List ℕ → Sort
name_sort text =
    if pointwise nat_eq text (codes "and") then sort.Mark And
    else (if pointwise nat_eq text (codes "or") then sort.Mark Or
    else (if pointwise nat_eq text (codes "not") then sort.Mark Not else sort.Word (name_word text)))

-- a symbol by its first byte and how many bytes follow
abbrev pub symbol_mark : ℕ → ℕ → Mark
symbol_mark byte more =
    if byte == 40 then Open else (if byte == 41 then Close else (if byte == 91 then OpenBracket else (if byte == 93 then CloseBracket
    else (if byte == 123 then OpenBrace else (if byte == 125 then CloseBrace else (if byte == 44 then Comma else (if byte == 59 then Semicolon
    else (if byte == 46 then Dot else (if byte == 45 then Arrow else (if byte == 60 then Iff
    else (if byte == 58 then (if more == 0 then Colon else Becomes)
    else (if byte == 61 then (if more == 0 then Eq else Imp)
    else (if byte == 124 then (if more == 0 then Bar else Turnstile) else Wrong)))))))))))))

-- a token by its sort and its bytes
abbrev pub sort_in : List ℕ → TokenSort → Sort
sort_in text token.Name = name_sort text
sort_in text token.Meta = sort.Word Meta
sort_in text token.Place = sort.Word Place
sort_in text token.Symbol = sort.Mark (symbol_mark (slice_index text 0) (length text - 1))
sort_in text token.Wrong = sort.Mark Wrong

-- a name whole; of a metavariable and a place what follows the first byte
abbrev pub word_in : List ℕ → TokenSort → List ℕ
word_in text token.Name = text
word_in text token.Meta = drop 1 text
word_in text token.Place = drop 1 text
word_in text token.Symbol = drop 1 text
word_in text token.Wrong = drop 1 text

-- an item by what it is and the bytes of a word
abbrev pub item_of : Sort → List ℕ → Lexeme
item_of (sort.Word w) text = word w text
item_of (sort.Mark m) text = mark m

-- a token of a line
unfoldable pub item : List ℕ → Token → Lexeme
item line t = item_of (sort_in (text_of line t) t.sort) (word_in (text_of line t) t.sort)

-- tokens of a line
abbrev pub items : List ℕ → List Token → List Lexeme
items line ts = map (item line) ts

-- all tokens of a line
abbrev pub items_of : List ℕ → List Lexeme
items_of line = items line (tokens line)
