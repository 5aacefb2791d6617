-- The heads of operations and of functions: how they are spelled, and what reads them.
use Rattle.std.specs.Prelude.{◌≡◌, ℕ, Bool, true, false, List, [], ◌++◌, Option, Some, None, codes, map}
use Rattle.std.specs.Option.{option_map, option_map_or}
use Rattle.mu_tree.specs.declared.claim.TypedVar.{TypedVar}
use Rattle.mu_tree.specs.declared.head.OpHead.{OpHead}
use Rattle.mu_grammar.specs.declared.symbol.Mark.TheVariants.{Open, Close}
use Rattle.mu_grammar.specs.Lexemes.{Lexeme}
use Rattle.mu_grammar.specs.Parts.{Out, chain, mapped, StandsEach}
use Rattle.mu_grammar.specs.SimpleParts.{PlainName, VarName, StandsName, read_plain_name, read_var}
use Rattle.mu_grammar.specs.Groups.{Any, Behind, Enclosed, Optional, StandsOptional, behind, both, enclosed, perhaps}
use Rattle.mu_grammar.specs.Writings.{Writing}
use Rattle.mu_grammar.specs.Excesses.{in_each}
use Rattle.mu_grammar.specs.Blocks.{TypedWriting, SomeTyped, IsTyped, StandsTyped, typed_of, trees_in_typed, read_any_typed, read_typed}

-- a head as it is written: the name, the inputs, the old and the new state, and the result
pub record HeadWriting : Type 0 where
  pub name : List ℕ
  pub inputs : List TypedWriting
  pub states : Option (List ℕ × List ℕ)
  pub result : Option TypedWriting

-- typed variables in parentheses, which stand there also where there are none
abbrev pub IsInputs : List Lexeme → List TypedWriting → Type 0
IsInputs ts xs = Enclosed Open Close (Any SomeTyped) ts xs

-- `old` and a variable, `new` and a variable
abbrev pub IsStates : List Lexeme → List ℕ × List ℕ → Type 0
IsStates ts s = (a b : List Lexeme) × (ts ≡ a ++ b) × Behind (codes "old") VarName a s.0 × Behind (codes "new") VarName b s.1

-- `result` and a typed variable
abbrev pub IsResult : List Lexeme → TypedWriting → Type 0
IsResult ts x = Behind (codes "result") IsTyped ts x

-- what follows the inputs: of an operation the states, and the result where it has one; of a function the result
abbrev pub IsRest : Bool → List Lexeme → Option (List ℕ × List ℕ) → Option TypedWriting → Type 0
IsRest true ts (Some states) result = (a b : List Lexeme) × (ts ≡ a ++ b) × IsStates a states × Optional IsResult b result
IsRest true ts None result = ⊥
IsRest false ts None (Some result) = IsResult ts result
IsRest false ts _ _ = ⊥

-- the head of an operation, or of a function
abbrev pub IsHead : Bool → List Lexeme → HeadWriting → Type 0
IsHead op ts x = (a b c : List Lexeme) × (ts ≡ a ++ (b ++ c)) × PlainName a x.name × IsInputs b x.inputs × IsRest op c x.states x.result

-- the name and the head that are meant
abbrev pub head_of : HeadWriting → List ℕ × OpHead
head_of x = (x.name, record { inputs = map typed_of x.inputs; states = x.states; result = option_map typed_of x.result })

-- the trees in a result, where there is one
abbrev pub trees_in_result : Option TypedWriting → List Writing
trees_in_result result = option_map_or trees_in_typed result []

-- the trees in a head
abbrev pub trees_in_head : HeadWriting → List Writing
trees_in_head x = in_each trees_in_typed x.inputs ++ trees_in_result x.result

-- two names that stand for the spelled ones
abbrev pub StandsStates : List ℕ × List ℕ → List ℕ × List ℕ → Type 0
StandsStates s kept = StandsName s.0 kept.0 × StandsName s.1 kept.1

-- states and a result that stand for the spelled ones
abbrev pub StandsRest : Option (List ℕ × List ℕ) × Option TypedWriting → Option (List ℕ × List ℕ) × Option TypedVar → Type 0
StandsRest x kept = StandsOptional StandsStates x.0 kept.0 × StandsOptional StandsTyped x.1 kept.1

-- the trees in states and a result
abbrev pub trees_in_rest : Option (List ℕ × List ℕ) × Option TypedWriting → List Writing
trees_in_rest x = trees_in_result x.1

-- a head whose names and types stand for the spelled ones
abbrev pub StandsHead : HeadWriting → List ℕ × OpHead → Type 0
StandsHead x kept =
    StandsName x.name kept.0 × StandsEach StandsTyped x.inputs kept.1.inputs × StandsOptional StandsStates x.states kept.1.states × StandsOptional StandsTyped x.result kept.1.result

-- a head of its parts
abbrev pub heading : List ℕ → List TypedWriting → Option (List ℕ × List ℕ) × Option TypedWriting → HeadWriting
heading name inputs rest = record { name = name; inputs = inputs; states = rest.0; result = rest.1 }

-- no states, and a result
abbrev pub stateless : TypedWriting → Option (List ℕ × List ℕ) × Option TypedWriting
stateless result = (None, Some result)

-- reads inputs in parentheses
unfoldable pub read_inputs : List Lexeme → Out (List TypedWriting)
read_inputs ts = enclosed Open Close read_any_typed ts

-- reads the old and the new state
unfoldable pub read_states : List Lexeme → Out (List ℕ × List ℕ)
read_states ts = chain (behind (codes "old") read_var) (λ old. mapped (both old) (behind (codes "new") read_var)) ts

-- reads a result
unfoldable pub read_result : List Lexeme → Out TypedWriting
read_result ts = behind (codes "result") read_typed ts

-- reads a result, where there is one
unfoldable pub read_any_result : List Lexeme → Out (Option TypedWriting)
read_any_result ts = perhaps (codes "result") read_typed ts

-- reads what follows the inputs
unfoldable pub read_rest : Bool → List Lexeme → Out (Option (List ℕ × List ℕ) × Option TypedWriting)
read_rest true ts = chain read_states (λ states. mapped (both (Some states)) read_any_result) ts
read_rest false ts = mapped stateless read_result ts

-- reads a head
unfoldable pub read_head : Bool → List Lexeme → Out HeadWriting
read_head op ts = chain read_plain_name (λ name. chain read_inputs (λ inputs. mapped (heading name inputs) (read_rest op))) ts
