-- Which tokens have names within the limit.
use Rattle.std.specs.Prelude.{◌≡◌, Bool, true, ◌&&◌, List, []}
use Rattle.std.specs.List.{AllByRecursion}
use Rattle.mu_tree.specs.Names.{is_name, is_short, IsName}
use Rattle.mu_grammar.specs.declared.symbol.Word.TheVariants.{Place}
use Rattle.mu_grammar.specs.Lexemes.{Lexeme, word, mark}
use Rattle.mu_grammar.specs.Writings.{Writing}
use Rattle.mu_grammar.specs.Excesses.{excess_of, no_excess}

-- the name or the metavariable that the token is, if it is one, is within the limit of names
abbrev pub WithinToken : Lexeme → Type 0
WithinToken (word Place text) = Unit {0}
WithinToken (word _ text) = IsName text
WithinToken (mark m) = Unit {0}

-- so is each of the tokens
abbrev pub WithinTokens : List Lexeme → Type 0
WithinTokens ts = AllByRecursion WithinToken ts

-- the test for it
abbrev pub is_within : Lexeme → Bool
is_within (word Place text) = true
is_within (word _ text) = is_name text && is_short text
is_within (mark m) = true

-- what is spelled by tokens within the limit is within it
abbrev pub KeepsNames : {A : Type 0} → (List Lexeme → A → Type 0) → (A → Type 0) → Type 0
KeepsNames {A} G Within = (ts : List Lexeme) (x : A) → WithinTokens ts → G ts x → Within x

-- where the names are within the limit and no tree passes one, what stands for the spelled value is what is meant
abbrev pub IsMeant : {A B : Type 0} → (List Lexeme → A → Type 0) → (A → List Writing) → (A → B → Type 0) → (A → B) → Type 0
IsMeant {A} {B} G trees S meant = (ts : List Lexeme) (x : A) (y : B) → WithinTokens ts → G ts x → excess_of (trees x) ≡ no_excess → S x y → y ≡ meant x

-- no trees
abbrev pub no_trees : {A : Type 0} → A → List Writing
no_trees x = []
