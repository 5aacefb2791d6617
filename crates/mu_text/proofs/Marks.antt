-- A mark is told from the others by its number.
use Rattle.std.proofs.Common.{◌≡◌, ℕ, zero, suc, Bool, true, false, IsTrue, ◌↔◌, Some, List, [], ◌∷◌, refl, ap, sym, ◌∙◌, subst, arith}
use Rattle.std.proofs.lemmas.Bool.Decides.{nat_tests}
use Rattle.mu_grammar.specs.declared.symbol.Mark.{Mark}
use Rattle.mu_grammar.specs.declared.symbol.Mark.TheVariants.{And, Or, Not, Iff, Imp, Eq, Colon, Open, Close, OpenBracket, CloseBracket, OpenBrace, CloseBrace, Comma, Semicolon, Dot, Becomes, Bar, Turnstile, Arrow, Wrong}
use Rattle.mu_grammar.specs.declared.symbol.Sort.TheVariants as sort
use Rattle.mu_grammar.specs.Lexemes.{Lexeme, word, mark, first_sort}
use Rattle.mu_grammar.specs.Marks.{number_of_mark, is_mark}
use Rattle.mu_grammar.specs.Parts.{starts}

abbrev mark_at : ℕ → List Mark → Mark
mark_at n [] = Wrong
mark_at zero (m ∷ ms) = m
mark_at (suc n) (m ∷ ms) = mark_at n ms

abbrev marks : List Mark
marks =
    And ∷ Or ∷ Not ∷ Iff ∷ Imp ∷ Eq ∷ Colon ∷ Open ∷ Close ∷ OpenBracket ∷ CloseBracket ∷ OpenBrace ∷ CloseBrace ∷ Comma ∷ Semicolon ∷ Dot ∷ Becomes ∷ Bar ∷ Turnstile ∷ Arrow ∷ Wrong ∷ []

at_number : (m : Mark) → mark_at (number_of_mark m) marks ≡ m
at_number And = refl
at_number _ = refl

-- the mark passes its own test
pub own_mark : (sign : Mark) → is_mark sign (mark sign) ≡ true
own_mark sign = grind (arith, nat_tests)

-- no other token passes the test of the mark
pub only_mark : (sign : Mark) (T : Lexeme) → is_mark sign T ≡ true → T ≡ mark sign
only_mark sign (word w text) e = cc
only_mark sign (mark other) e =
    let same : number_of_mark sign ≡ number_of_mark other = grind (arith, nat_tests) in
    ap mark (sym (at_number other) ∙ (ap (λ n. mark_at n marks) (sym same) ∙ at_number sign))

mark_first : (sign : Mark) (ts : List Lexeme) → first_sort ts ≡ Some (sort.Mark sign) → starts (is_mark sign) ts ≡ true
mark_first sign [] e = cc
mark_first sign (word w text ∷ rest) e = cc
mark_first sign (mark other ∷ rest) e = let same : other ≡ sign = cc in subst (λ (m : Mark). is_mark sign (mark m) ≡ true) (sym same) (own_mark sign)

first_mark : (sign : Mark) (ts : List Lexeme) → starts (is_mark sign) ts ≡ true → first_sort ts ≡ Some (sort.Mark sign)
first_mark sign [] e = cc
first_mark sign (T ∷ rest) e = ap (λ U. first_sort (U ∷ rest)) (only_mark sign T e)

-- the sort of the first token tells whether it is the mark
pub sees_is : (sign : Mark) (ts : List Lexeme) (seen : Bool) → (IsTrue seen ↔ (first_sort ts ≡ Some (sort.Mark sign))) → seen ≡ starts (is_mark sign) ts
sees_is sign ts true h = sym (mark_first sign ts (h.0 refl))
sees_is sign ts false h = at (starts (is_mark sign) ts) refl
  where
    at : (b : Bool) → starts (is_mark sign) ts ≡ b → false ≡ starts (is_mark sign) ts
    at true e = let wrong : false ≡ true = h.1 (first_mark sign ts e) in cc
    at false e = sym e
