-- Plain words in a row, which with one blank between each two are one of some texts.
-- `lookup` gives what a text stands for, and `is_front` says whether some text begins with these bytes.
use Rattle.std.specs.Prelude.{ℕ, Bool, false, if◌then◌else◌, ◌&&◌, List, [], ◌∷◌, ◌++◌, Option, None}
use Rattle.mu_tables.specs.Words.{is_bare, lengthened}
use Rattle.mu_grammar.specs.declared.symbol.Word.TheVariants.{Plain}
use Rattle.mu_grammar.specs.Lexemes.{Lexeme, word, bytes_of}
use Rattle.mu_grammar.specs.Parts.{Out, stopped, taken}

-- what the text stands for that the token ends, behind the words before it
abbrev pub ended_by : {A : Type 0} → (List ℕ → Option A) → List ℕ → Lexeme → Option A
ended_by lookup front (word Plain text) = if is_bare text then lookup (front ++ text) else None
ended_by lookup front _ = None

-- whether some text goes on with the token, behind the words before it, and does not end with it
abbrev pub goes_on : (List ℕ → Bool) → List ℕ → Lexeme → Bool
goes_on is_front front (word Plain text) = is_bare text && is_front (lengthened front text)
goes_on is_front front _ = false

-- reads words behind those before them, as far as some text goes on
abbrev pub read_words : {A : Type 0} → (List ℕ → Option A) → (List ℕ → Bool) → List ℕ → List Lexeme → Out A
read_words lookup is_front front [] = stopped []
read_words lookup is_front front (T ∷ rest) =
    if goes_on is_front front T then read_words lookup is_front (lengthened front (bytes_of T)) rest else taken (ended_by lookup front T) (T ∷ rest) rest
