-- What calls of readers give together.
use Rattle.std.proofs.Common.{List, ap, sym, subst}
use Rattle.std.specs.Prelude.{Result}
use Rattle.mu_grammar.specs.declared.fault.PartFault.{PartFault}
use Rattle.mu_grammar.specs.Lexemes.{Lexeme}
use Rattle.mu_grammar.specs.Parts.{Out, found, ◌>>=◌, Read, Gives, chain, mapped}

-- the same value stands by another relation
pub kept : {A B C : Type 0} {S : A → B → Type 0} {T : A → C → Type 0} {out : Out A} {y : B} {z : C} {rest : List Lexeme} → Read S out y rest → ((x : A) → S x y → T x z) → Read T out z rest
kept read k = record { value = read.value; is = read.is; stands = k read.value read.stands }

-- what is made of the value
pub kept_made : {A B C D : Type 0} {S : A → B → Type 0} {T : C → D → Type 0} (make : A → C) (p : List Lexeme → Out A) (ts : List Lexeme) {y : B} {z : D} {rest : List Lexeme}
    → Read S (p ts) y rest → ((x : A) → S x y → T (make x) z) → Read T (mapped make p ts) z rest
kept_made make p ts read k = record { value = make read.value; is = ap (λ o. o >>= (λ x r. found (make x) r)) read.is; stands = k read.value read.stands }

-- a part, and then what its value asks for
pub and_then : {A B C D : Type 0} {S : A → B → Type 0} (T : C → D → Type 0) (p : List Lexeme → Out A) (q : A → List Lexeme → Out C) (ts : List Lexeme) {mid : List Lexeme} {y : B} (result : Result D PartFault) (rest : List Lexeme)
    → Read S (p ts) y mid → ((x : A) → S x y → Gives T (q x mid) result rest) → Gives T (chain p q ts) result rest
and_then T p q ts result rest read k = subst (λ (out : Out _). Gives T (out >>= q) result rest) (sym read.is) (k read.value read.stands)
