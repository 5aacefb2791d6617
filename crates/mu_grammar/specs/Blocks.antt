-- Typed variables, and what a sequent or a block begins with: how they are spelled, and what reads them.
use Rattle.std.specs.Prelude.{◌≡◌, ℕ, Bool, true, false, List, ◌∷◌, ◌++◌, map}
use Rattle.mu_tree.specs.declared.claim.TypedVar.{TypedVar}
use Rattle.mu_tree.specs.declared.trees.Tree.{Tree}
use Rattle.mu_grammar.specs.declared.symbol.Word.TheVariants.{Plain}
use Rattle.mu_grammar.specs.declared.symbol.Mark.TheVariants.{Bar, Colon, Comma}
use Rattle.mu_grammar.specs.declared.way.Beginning.{Beginning}
use Rattle.mu_grammar.specs.declared.way.Beginning.TheVariants as begins
use Rattle.mu_grammar.specs.Lexemes.{Lexeme, word, mark}
use Rattle.mu_grammar.specs.Machine.{beginning}
use Rattle.mu_grammar.specs.Parts.{Out, chain, mapped, Separated, StandsEach, separated}
use Rattle.mu_grammar.specs.SimpleParts.{StandsName, read_mark, read_var}
use Rattle.mu_grammar.specs.Groups.{Any, any}
use Rattle.mu_grammar.specs.Writings.{Writing, tree_of}
use Rattle.mu_grammar.specs.Trees.{OneTree, read_tree}
use Rattle.mu_grammar.specs.Excesses.{in_each, one_tree, StandsTree}

-- a variable with its type, as it is written
pub record TypedWriting : Type 0 where
  pub name : List ℕ
  pub type : Writing

-- a variable, a colon and its type
abbrev pub IsTyped : List Lexeme → TypedWriting → Type 0
IsTyped ts x = (b : List Lexeme) × (ts ≡ word Plain x.name ∷ mark Colon ∷ b) × OneTree b x.type

-- typed variables between commas, at least one
abbrev pub SomeTyped : List Lexeme → List TypedWriting → Type 0
SomeTyped ts xs = Separated Comma IsTyped ts xs

-- trees between commas, at least one
abbrev pub SomeTrees : List Lexeme → List Writing → Type 0
SomeTrees ts ws = Separated Comma OneTree ts ws

-- what a sequent or a block begins with, as it is written
pub record BlockWriting : Type 0 where
  pub vars : List TypedWriting
  pub assumptions : List Writing

-- typed variables where there are any, the bar, and trees where there are any
abbrev pub IsBlock : List Lexeme → BlockWriting → Type 0
IsBlock ts x = (a b : List Lexeme) × (ts ≡ a ++ (mark Bar ∷ b)) × Any SomeTyped a x.vars × Any SomeTrees b x.assumptions

-- the typed variable that is meant
abbrev pub typed_of : TypedWriting → TypedVar
typed_of x = record { name = x.name; ty = tree_of x.type }

-- the typed variables and the assumptions that are meant
abbrev pub block_of : BlockWriting → List TypedVar × List Tree
block_of x = (map typed_of x.vars, map tree_of x.assumptions)

-- the tree in a typed variable
abbrev pub trees_in_typed : TypedWriting → List Writing
trees_in_typed x = one_tree x.type

-- the trees in what a sequent or a block begins with
abbrev pub trees_in_block : BlockWriting → List Writing
trees_in_block x = in_each trees_in_typed x.vars ++ in_each one_tree x.assumptions

-- a typed variable whose name and type stand for the spelled ones
abbrev pub StandsTyped : TypedWriting → TypedVar → Type 0
StandsTyped x v = StandsName x.name v.name × StandsTree x.type v.ty

-- variables and trees that stand for the spelled ones
abbrev pub StandsBlock : BlockWriting → List TypedVar × List Tree → Type 0
StandsBlock x kept = StandsEach StandsTyped x.vars kept.0 × StandsEach StandsTree x.assumptions kept.1

-- whether the token is a variable
abbrev pub is_variable : Lexeme → Bool
is_variable (word Plain text) = true
is_variable _ = false

-- whether something begins so
abbrev pub is_beginning : Beginning → Bool
is_beginning begins.Nothing = false
is_beginning _ = true

-- whether a tree may begin with the token
abbrev pub begins_tree : Lexeme → Bool
begins_tree T = is_beginning (beginning T)

-- a typed variable of its parts
abbrev pub typing : List ℕ → Writing → TypedWriting
typing name type = record { name = name; type = type }

-- what a sequent or a block begins with, of its parts
abbrev pub assuming : List TypedWriting → List Writing → BlockWriting
assuming vars assumptions = record { vars = vars; assumptions = assumptions }

-- reads a typed variable
unfoldable pub read_typed : List Lexeme → Out TypedWriting
read_typed ts = chain read_var (λ name. chain (read_mark Colon) (λ _. mapped (typing name) read_tree)) ts

-- reads typed variables between commas
unfoldable pub read_typed_vars : List Lexeme → Out (List TypedWriting)
read_typed_vars ts = separated Comma read_typed ts

-- reads trees between commas
unfoldable pub read_trees : List Lexeme → Out (List Writing)
read_trees ts = separated Comma read_tree ts

-- reads typed variables, where there are any
unfoldable pub read_any_typed : List Lexeme → Out (List TypedWriting)
read_any_typed ts = any is_variable read_typed_vars ts

-- reads trees, where there are any
unfoldable pub read_any_trees : List Lexeme → Out (List Writing)
read_any_trees ts = any begins_tree read_trees ts

-- reads what a sequent or a block begins with
unfoldable pub read_block : List Lexeme → Out BlockWriting
read_block ts = chain read_any_typed (λ vars. chain (read_mark Bar) (λ _. mapped (assuming vars) read_any_trees)) ts
