-- How a token is spelled, given what it is to the grammar.
use Rattle.std.specs.Prelude.{ℕ, List, [], ◌∷◌, codes}
use Rattle.mu_grammar.specs.declared.symbol.Word.{Word}
use Rattle.mu_grammar.specs.declared.symbol.Word.TheVariants.{Meta, Place}
use Rattle.mu_grammar.specs.declared.symbol.Mark.{Mark}
use Rattle.mu_grammar.specs.declared.symbol.Mark.TheVariants.{And, Or, Not, Iff, Imp, Eq, Colon, Open, Close, OpenBracket, CloseBracket, OpenBrace, CloseBrace, Comma, Semicolon, Dot, Becomes, Bar, Turnstile, Arrow, Wrong}
use Rattle.mu_grammar.specs.Lexemes.{Lexeme, word, mark}

-- the bytes of a mark; what fits nothing has no spelling of its own
abbrev pub mark_text : Mark → List ℕ
mark_text And = codes "and"
mark_text Or = codes "or"
mark_text Not = codes "not"
mark_text Iff = codes "<=>"
mark_text Imp = codes "=>"
mark_text Eq = codes "="
mark_text Colon = codes ":"
mark_text Open = codes "("
mark_text Close = codes ")"
mark_text OpenBracket = codes "["
mark_text CloseBracket = codes "]"
mark_text OpenBrace = codes "{"
mark_text CloseBrace = codes "}"
mark_text Comma = codes ","
mark_text Semicolon = codes ";"
mark_text Dot = codes "."
mark_text Becomes = codes ":="
mark_text Bar = codes "|"
mark_text Turnstile = codes "|-"
mark_text Arrow = codes "->"
mark_text Wrong = []

-- the bytes of a word: a metavariable and a place have a first byte of their own
abbrev pub word_text : Word → List ℕ → List ℕ
word_text Meta text = 63 ∷ text
word_text Place text = 35 ∷ text
word_text _ text = text

-- the bytes of a token
abbrev pub lexeme_text : Lexeme → List ℕ
lexeme_text (word w text) = word_text w text
lexeme_text (mark m) = mark_text m
