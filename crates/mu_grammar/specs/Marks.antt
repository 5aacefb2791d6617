-- Which mark a token is.
use Rattle.std.specs.Prelude.{ℕ, Bool, false}
use Rattle.std.specs.Bool.{nat_eq}
use Rattle.mu_grammar.specs.declared.symbol.Mark.{Mark}
use Rattle.mu_grammar.specs.declared.symbol.Mark.TheVariants.{And, Or, Not, Iff, Imp, Eq, Colon, Open, Close, OpenBracket, CloseBracket, OpenBrace, CloseBrace, Comma, Semicolon, Dot, Becomes, Bar, Turnstile, Arrow, Wrong}
use Rattle.mu_grammar.specs.Lexemes.{Lexeme, word, mark}

-- a number of its own for each mark
abbrev pub number_of_mark : Mark → ℕ
number_of_mark And = 0
number_of_mark Or = 1
number_of_mark Not = 2
number_of_mark Iff = 3
number_of_mark Imp = 4
number_of_mark Eq = 5
number_of_mark Colon = 6
number_of_mark Open = 7
number_of_mark Close = 8
number_of_mark OpenBracket = 9
number_of_mark CloseBracket = 10
number_of_mark OpenBrace = 11
number_of_mark CloseBrace = 12
number_of_mark Comma = 13
number_of_mark Semicolon = 14
number_of_mark Dot = 15
number_of_mark Becomes = 16
number_of_mark Bar = 17
number_of_mark Turnstile = 18
number_of_mark Arrow = 19
number_of_mark Wrong = 20

-- whether the token is the mark
abbrev pub is_mark : Mark → Lexeme → Bool
is_mark sign (word w text) = false
is_mark sign (mark other) = nat_eq (number_of_mark sign) (number_of_mark other)
