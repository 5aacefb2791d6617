-- Parts made of others: between two marks, or left out.
use Rattle.std.specs.Prelude.{◌≡◌, ℕ, Bool, List, [], ◌∷◌, ◌++◌, Option, Some, None}
use Rattle.mu_tree.specs.declared.claim.Kind.{Kind}
use Rattle.mu_grammar.specs.declared.symbol.Mark.{Mark}
use Rattle.mu_grammar.specs.declared.symbol.Mark.TheVariants.{Open, Close, OpenBracket, CloseBracket}
use Rattle.mu_grammar.specs.Lexemes.{Lexeme, mark}
use Rattle.mu_grammar.specs.Marks.{is_mark}
use Rattle.mu_grammar.specs.Parts.{Out, found, ◌>>=◌, chain, either, given_back}
use Rattle.mu_grammar.specs.SimpleParts.{SomeKinds, SomeVars, GivenWord, is_word, read_mark, read_word, read_kinds, read_vars}

-- a spelling between the two marks
abbrev pub Enclosed : {A : Type 0} → Mark → Mark → (List Lexeme → A → Type 0) → List Lexeme → A → Type 0
Enclosed left right G ts x = (inside : List Lexeme) × (ts ≡ mark left ∷ (inside ++ (mark right ∷ []))) × G inside x

-- reads the first mark, the part and the second mark
abbrev pub enclosed : {A : Type 0} → Mark → Mark → (List Lexeme → Out A) → List Lexeme → Out A
enclosed left right p ts = read_mark left ts >>= (λ _ inside. p inside >>= (λ x behind. read_mark right behind >>= (λ _ rest. found x rest)))

-- two values, together
abbrev pub both : {A B : Type 0} → A → B → A × B
both x y = (x, y)

-- a spelling, or no token where there is no value
abbrev pub Optional : {A : Type 0} → (List Lexeme → A → Type 0) → List Lexeme → Option A → Type 0
Optional G ts (Some x) = G ts x
Optional G ts None = ts ≡ []

-- reads the part where the first token passes the test
abbrev pub optional : {A : Type 0} → (Lexeme → Bool) → (List Lexeme → Out A) → List Lexeme → Out (Option A)
optional test p ts = either test (λ l. p l >>= (λ x rest. found (Some x) rest)) (given_back None) ts

-- a value stands for one where one is spelled
abbrev pub StandsOptional : {A B : Type 0} → (A → B → Type 0) → Option A → Option B → Type 0
StandsOptional S (Some x) (Some y) = S x y
StandsOptional S None None = Unit {0}
StandsOptional S _ _ = ⊥

-- items, or no token where there are none
abbrev pub Any : {A : Type 0} → (List Lexeme → List A → Type 0) → List Lexeme → List A → Type 0
Any G ts [] = ts ≡ []
Any G ts (x ∷ xs) = G ts (x ∷ xs)

-- reads items where the first token passes the test
abbrev pub any : {A : Type 0} → (Lexeme → Bool) → (List Lexeme → Out (List A)) → List Lexeme → Out (List A)
any test p ts = either test p (given_back []) ts

-- the word, and behind it the part
abbrev pub Behind : {A : Type 0} → List ℕ → (List Lexeme → A → Type 0) → List Lexeme → A → Type 0
Behind text G ts x = (a b : List Lexeme) × (ts ≡ a ++ b) × GivenWord text a tt × G b x

-- reads the word, and behind it the part
abbrev pub behind : {A : Type 0} → List ℕ → (List Lexeme → Out A) → List Lexeme → Out A
behind text p ts = chain (read_word text) (λ _. p) ts

-- reads the word and behind it the part, where the word stands
abbrev pub perhaps : {A : Type 0} → List ℕ → (List Lexeme → Out A) → List Lexeme → Out (Option A)
perhaps text p ts = optional (is_word text) (behind text p) ts

-- items between the two marks; where there are none, no token
abbrev pub Bracketed : {A : Type 0} → Mark → Mark → (List Lexeme → List A → Type 0) → List Lexeme → List A → Type 0
Bracketed left right G ts xs = Any (Enclosed left right G) ts xs

-- reads items between the two marks, where the first of them stands
abbrev pub bracketed : {A : Type 0} → Mark → Mark → (List Lexeme → Out (List A)) → List Lexeme → Out (List A)
bracketed left right p ts = any (is_mark left) (enclosed left right p) ts

-- the parameters of an abstraction: variables between commas, in brackets; where there are none, no token
abbrev pub Parameters : List Lexeme → List (List ℕ) → Type 0
Parameters ts names = Bracketed OpenBracket CloseBracket SomeVars ts names

-- reads the parameters of an abstraction
unfoldable pub read_parameters : List Lexeme → Out (List (List ℕ))
read_parameters ts = bracketed OpenBracket CloseBracket read_vars ts

-- the formal parameters of a definition: variables between commas, in parentheses; where there are none, no token
abbrev pub Formals : List Lexeme → List (List ℕ) → Type 0
Formals ts names = Bracketed Open Close SomeVars ts names

-- reads the formal parameters of a definition
unfoldable pub read_formals : List Lexeme → Out (List (List ℕ))
read_formals ts = bracketed Open Close read_vars ts

-- the kinds of a constant's arguments: between commas, in parentheses; where there are none, no token
abbrev pub ArgumentKinds : List Lexeme → List Kind → Type 0
ArgumentKinds ts kinds = Bracketed Open Close SomeKinds ts kinds

-- reads the kinds of a constant's arguments
unfoldable pub read_argument_kinds : List Lexeme → Out (List Kind)
read_argument_kinds ts = bracketed Open Close read_kinds ts
