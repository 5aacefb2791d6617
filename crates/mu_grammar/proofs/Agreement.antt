-- The grammar's operators are the table's: each mark by computing.
use Rattle.std.proofs.Common.{refl}
use Rattle.mu_grammar.specs.declared.symbol.Mark.{Mark}
use Rattle.mu_grammar.specs.declared.symbol.Mark.TheVariants.{And, Or, Not, Iff, Imp, Eq, Colon, Open, Close, OpenBracket, CloseBracket, OpenBrace, CloseBrace, Comma, Semicolon, Dot, Becomes, Bar, Turnstile, Arrow, Wrong}
use Rattle.mu_grammar.specs.Agreement.{AgreesWithTable, OperatorsAgree}

agrees : (sign : Mark) → AgreesWithTable sign
agrees And = record { operator = refl; constant = λ entry is. cc }
agrees Or = record { operator = refl; constant = λ entry is. cc }
agrees Not = record { operator = refl; constant = λ entry is. cc }
agrees Iff = record { operator = refl; constant = λ entry is. cc }
agrees Imp = record { operator = refl; constant = λ entry is. cc }
agrees Eq = record { operator = refl; constant = λ entry is. cc }
agrees Colon = record { operator = refl; constant = λ entry is. cc }
agrees Open = record { operator = refl; constant = λ entry is. cc }
agrees Close = record { operator = refl; constant = λ entry is. cc }
agrees OpenBracket = record { operator = refl; constant = λ entry is. cc }
agrees CloseBracket = record { operator = refl; constant = λ entry is. cc }
agrees OpenBrace = record { operator = refl; constant = λ entry is. cc }
agrees CloseBrace = record { operator = refl; constant = λ entry is. cc }
agrees Comma = record { operator = refl; constant = λ entry is. cc }
agrees Semicolon = record { operator = refl; constant = λ entry is. cc }
agrees Dot = record { operator = refl; constant = λ entry is. cc }
agrees Becomes = record { operator = refl; constant = λ entry is. cc }
agrees Bar = record { operator = refl; constant = λ entry is. cc }
agrees Turnstile = record { operator = refl; constant = λ entry is. cc }
agrees Arrow = record { operator = refl; constant = λ entry is. cc }
agrees Wrong = record { operator = refl; constant = λ entry is. cc }

pub operators_agree : OperatorsAgree
operators_agree = record { marks = agrees; negation = λ entry is. (cc, cc) }
