-- Rows of parts: the form of a line as a list of the parts that it is made of.
-- `Part` is a crate's own type of parts, with the type of each part's values, what spells them and what reads them.
use Rattle.std.specs.Prelude.{◌≡◌, List, [], ◌∷◌, ◌++◌}
use Rattle.mu_grammar.specs.Lexemes.{Lexeme}
use Rattle.mu_grammar.specs.Parts.{Out, found, ◌>>=◌}

-- a value of each part of the row
abbrev pub Values : {Part : Type 0} → (Part → Type 0) → List Part → Type 0
Values Value [] = Unit {0}
Values Value (part ∷ parts) = Value part × Values Value parts

-- a spelling of each part of the row, one behind the other
abbrev pub SpellsRow : {Part : Type 0} (Value : Part → Type 0) → ((part : Part) → List Lexeme → Value part → Type 0) → (parts : List Part) → List Lexeme → Values Value parts → Type 0
SpellsRow Value Spells [] ts v = ts ≡ []
SpellsRow Value Spells (part ∷ parts) ts v = (a b : List Lexeme) × (ts ≡ a ++ b) × Spells part a v.0 × SpellsRow Value Spells parts b v.1

-- reads each part of the row, one behind the other
unfoldable pub read_row : {Part : Type 0} (Value : Part → Type 0) → ((part : Part) → List Lexeme → Out (Value part)) → (parts : List Part) → List Lexeme → Out (Values Value parts)
read_row Value read [] ts = found tt ts
read_row Value read (part ∷ parts) ts = read part ts >>= (λ x rest. read_row Value read parts rest >>= (λ xs left. found (x, xs) left))

-- each value of the code stands for the one that is spelled at its place of the row
abbrev pub StandsRow : {Part : Type 0} (Value Kept : Part → Type 0) → ((part : Part) → Value part → Kept part → Type 0) → (parts : List Part) → Values Value parts → Values Kept parts → Type 0
StandsRow Value Kept Stands [] v k = Unit {0}
StandsRow Value Kept Stands (part ∷ parts) v k = Stands part v.0 k.0 × StandsRow Value Kept Stands parts v.1 k.1

-- what the code makes of values that stand for the spelled ones
abbrev pub Makes : {Part : Type 0} (Value Kept : Part → Type 0) → ((part : Part) → Value part → Kept part → Type 0) → (parts : List Part) → {X : Type 0} → (Values Kept parts → X) → Values Value parts → X → Type 0
Makes Value Kept Stands parts make v x = (k : Values Kept parts) × StandsRow Value Kept Stands parts v k × (x ≡ make k)
