-- Parts of a line: the languages that they are spelled in, what reads them, and what a refusal says.
use Rattle.std.specs.Prelude.{◌≡◌, ℕ, zero, suc, ◌+◌, ◌-◌, ◌<◌, ◌≤◌, ◌⊎◌, Bool, false, if◌then◌else◌, List, [], ◌∷◌, ◌++◌, Option, Some, None, length, take, Result, Ok, Err}
use Rattle.mu_grammar.specs.declared.fault.PartFault.{PartFault}
use Rattle.mu_grammar.specs.declared.fault.PartFault.TheVariants.{Mismatch, NoMemory}
use Rattle.mu_grammar.specs.declared.symbol.Mark.{Mark}
use Rattle.mu_grammar.specs.Lexemes.{Lexeme, after_first, mark}
use Rattle.mu_grammar.specs.Marks.{is_mark}

-- some spelling of some value begins with these tokens
abbrev pub Begins : {A : Type 0} → (List Lexeme → A → Type 0) → List Lexeme → Type 0
Begins {A} G ts = (more : List Lexeme) × (x : A) × G (ts ++ more) x

-- the first tokens begin a spelling; with the one after them none begins, and where there is none they are no spelling themselves
pub record Refused {A : Type 0} (G : List Lexeme → A → Type 0) (ts : List Lexeme) (at : ℕ) : Type 0 where
  pub within : at ≤ length ts
  pub begins : Begins G (take at ts)
  pub no_further : at < length ts → Begins G (take (at + 1) ts) → ⊥
  pub unfinished : at ≡ length ts → (x : A) → G ts x → ⊥

-- what reading a part gives: its value and the tokens after it, or the tokens that are left where no spelling goes on
pub data Out (A : Type 0) : Type 0 where
  found : A → List Lexeme → Out A
  stopped : List Lexeme → Out A

infixl 10 ◌>>=◌
-- what is read next, by the value that was found
abbrev pub ◌>>=◌ : {A B : Type 0} → Out A → (A → List Lexeme → Out B) → Out B
(found x rest) >>= f = f x rest
(stopped rest) >>= f = stopped rest

-- what reading says of the whole line: it spells the value, or it is refused at the first token that is left
abbrev pub Outcome : {A : Type 0} → (List Lexeme → A → Type 0) → List Lexeme → Out A → Type 0
Outcome G ts (found x []) = G ts x
Outcome G ts (found x (T ∷ rest)) = Refused G ts (length ts - length (T ∷ rest))
Outcome G ts (stopped rest) = Refused G ts (length ts - length rest)

-- reading gives a value for which y stands, by S, and leaves these tokens
pub record Read {A B : Type 0} (S : A → B → Type 0) (out : Out A) (y : B) (rest : List Lexeme) : Type 0 where
  pub value : A
  pub is : out ≡ found value rest
  pub stands : S value y

-- what a call answered stands, by S, for what reading gives, and what it left is what reading leaves, unless memory ran out
abbrev pub Gives : {A B : Type 0} → (A → B → Type 0) → Out A → Result B PartFault → List Lexeme → Type 0
Gives S out (Ok y) rest = Read S out y rest
Gives S out (Err Mismatch) rest = out ≡ stopped rest
Gives S out (Err NoMemory) rest = Unit {0}

-- the code's value is the spelled one
abbrev pub Same : {A : Type 0} → A → A → Type 0
Same x y = y ≡ x

-- each value of the code stands for the one that is spelled at its place
abbrev pub StandsEach : {A B : Type 0} → (A → B → Type 0) → List A → List B → Type 0
StandsEach S [] [] = Unit {0}
StandsEach S (x ∷ xs) (y ∷ ys) = S x y × StandsEach S xs ys
StandsEach S _ _ = ⊥

-- what the first token is, by a function of one token
abbrev pub first_as : {A : Type 0} → (Lexeme → Option A) → List Lexeme → Option A
first_as f [] = None
first_as f (T ∷ rest) = f T

-- whether there is a first token, and it passes the test
abbrev pub starts : (Lexeme → Bool) → List Lexeme → Bool
starts test [] = false
starts test (T ∷ rest) = test T

-- one token, whose value the function gives
abbrev pub OneToken : {A : Type 0} → (Lexeme → Option A) → List Lexeme → A → Type 0
OneToken f ts x = (T : Lexeme) × (ts ≡ T ∷ []) × (f T ≡ Some x)

-- what is taken at the first token
abbrev pub taken : {A : Type 0} → Option A → List Lexeme → List Lexeme → Out A
taken (Some x) ts rest = found x rest
taken None ts rest = stopped ts

-- reads one token
abbrev pub token : {A : Type 0} → (Lexeme → Option A) → List Lexeme → Out A
token f ts = taken (first_as f ts) ts (after_first ts)

-- no token, with this value
abbrev pub Nothing : {A : Type 0} → A → List Lexeme → A → Type 0
Nothing x ts y = (ts ≡ []) × (y ≡ x)

-- reads nothing
abbrev pub given_back : {A : Type 0} → A → List Lexeme → Out A
given_back x ts = found x ts

-- no token is left
abbrev pub End : List Lexeme → Type 0
End ts = ts ≡ []

-- reads the end of the line
abbrev pub at_end : List Lexeme → Out (Unit {0})
at_end [] = found tt []
at_end (T ∷ rest) = stopped (T ∷ rest)

-- a spelling of some value, and behind it one of what that value asks for
abbrev pub Then : {A B : Type 0} → (List Lexeme → A → Type 0) → (A → List Lexeme → B → Type 0) → List Lexeme → B → Type 0
Then {A} G H ts y = (x : A) × (a b : List Lexeme) × (ts ≡ a ++ b) × G a x × H x b y

-- reads a part, and then what its value asks for
abbrev pub chain : {A B : Type 0} → (List Lexeme → Out A) → (A → List Lexeme → Out B) → List Lexeme → Out B
chain p q ts = p ts >>= q

-- a spelling, and what is made of its value
abbrev pub Made : {A B : Type 0} → (A → B) → (List Lexeme → A → Type 0) → List Lexeme → B → Type 0
Made {A} make G ts y = (x : A) × G ts x × (y ≡ make x)

-- reads a part, and makes something of its value
abbrev pub mapped : {A B : Type 0} → (A → B) → (List Lexeme → Out A) → List Lexeme → Out B
mapped make p ts = p ts >>= (λ x rest. found (make x) rest)

-- a spelling in one language or in the other
abbrev pub Or : {A : Type 0} → (List Lexeme → A → Type 0) → (List Lexeme → A → Type 0) → List Lexeme → A → Type 0
Or G H ts x = G ts x ⊎ H ts x

-- reads one part where the first token passes the test, and the other elsewhere
abbrev pub either : {A : Type 0} → (Lexeme → Bool) → (List Lexeme → Out A) → (List Lexeme → Out A) → List Lexeme → Out A
either test p q ts = if starts test ts then p ts else q ts

-- any number of items, each behind the mark
abbrev pub More : {A : Type 0} → Mark → (List Lexeme → A → Type 0) → List Lexeme → List A → Type 0
More sign G ts [] = ts ≡ []
More sign G ts (x ∷ xs) = (a b : List Lexeme) × (ts ≡ mark sign ∷ (a ++ b)) × G a x × More sign G b xs

-- one item or more, with the mark between them
abbrev pub Separated : {A : Type 0} → Mark → (List Lexeme → A → Type 0) → List Lexeme → List A → Type 0
Separated sign G ts [] = ⊥
Separated sign G ts (x ∷ xs) = (a b : List Lexeme) × (ts ≡ a ++ b) × G a x × More sign G b xs

-- one more value, in front
abbrev pub with_first : {A : Type 0} → A → Out (List A) → Out (List A)
with_first x out = out >>= (λ xs rest. found (x ∷ xs) rest)

-- reads any number of items, each behind the mark; n bounds how many
abbrev pub more_of : {A : Type 0} → Mark → (List Lexeme → Out A) → ℕ → List Lexeme → Out (List A)
more_of sign item n [] = found [] []
more_of sign item zero (T ∷ rest) = found [] (T ∷ rest)
more_of sign item (suc n) (T ∷ rest) = if is_mark sign T then (item rest >>= (λ x r. with_first x (more_of sign item n r))) else found [] (T ∷ rest)

-- reads any number of items, each behind the mark
abbrev pub read_more : {A : Type 0} → Mark → (List Lexeme → Out A) → List Lexeme → Out (List A)
read_more sign item ts = more_of sign item (length ts) ts

-- reads one item or more, with the mark between them
abbrev pub separated : {A : Type 0} → Mark → (List Lexeme → Out A) → List Lexeme → Out (List A)
separated sign item ts = item ts >>= (λ x rest. with_first x (read_more sign item rest))
