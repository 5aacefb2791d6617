-- The heads of operations and of functions are read exactly.
use Rattle.std.proofs.Common.{ℕ, Bool, true, false, List, [], ◌++◌, Option, Some, None, refl, ap, sym, ◌∙◌, subst}
use Rattle.std.specs.Prelude.{codes}
use Rattle.mu_grammar.specs.declared.symbol.Mark.TheVariants.{Open, Close}
use Rattle.mu_grammar.specs.Lexemes.{Lexeme}
use Rattle.mu_grammar.specs.Parts.{Then, chain, Made, mapped}
use Rattle.mu_grammar.specs.SimpleParts.{PlainName, VarName, is_word, read_plain_name, read_var}
use Rattle.mu_grammar.specs.Groups.{Any, Behind, Optional, behind, both}
use Rattle.mu_grammar.specs.Blocks.{TypedWriting, IsTyped, SomeTyped, read_any_typed, read_typed}
use Rattle.mu_grammar.specs.Heads.{HeadWriting, IsInputs, IsStates, IsResult, IsRest, IsHead, heading, stateless, read_inputs, read_states, read_result, read_any_result, read_rest, read_head}
use Rattle.mu_text.proofs.Blocks.{NoTyped, Exact-typed, Exact-any_typed}
use Rattle.mu_text.proofs.Complete.{Follows, plain_follows}
use Rattle.mu_text.proofs.Exact.{Exact, Exact-same, Exact-chain, Exact-mapped, Exact-before}
use Rattle.mu_text.proofs.Groups.{NotBegun, Exact-behind, Exact-enclosed, Exact-perhaps}
use Rattle.mu_text.proofs.Simple.{Any as Anything, Exact-plain_name, Exact-var}

pub Exact-inputs : Exact read_inputs IsInputs Anything
unfolding read_inputs
Exact-inputs = Exact-enclosed Open Close read_any_typed (Any SomeTyped) NoTyped Exact-any_typed (λ rest. ((plain_follows Close 0 refl refl, refl), refl))

abbrev States : List Lexeme → List ℕ × List ℕ → Type 0
States = Then (Behind (codes "old") VarName) (λ old. Made (both old) (Behind (codes "new") VarName))

to_states : (ts : List Lexeme) (s : List ℕ × List ℕ) → States ts s → IsStates ts s
to_states ts s g = subst (IsStates ts) (sym g.5.2) (g.1, g.2, g.3, g.4, g.5.1)

from_states : (ts : List Lexeme) (s : List ℕ × List ℕ) → IsStates ts s → States ts s
from_states ts s g = (s.0, g.0, g.1, g.2, g.3, (s.1, g.4, refl))

exact_state : (text : List ℕ) → Exact (behind text read_var) (Behind text VarName) Anything
exact_state text = Exact-behind text read_var VarName Anything Exact-var

pub Exact-states : Exact read_states IsStates Anything
unfolding read_states
Exact-states =
    Exact-same read_states States IsStates Anything to_states from_states
    (Exact-chain (behind (codes "old") read_var) (λ old. mapped (both old) (behind (codes "new") read_var)) (Behind (codes "old") VarName) (λ old. Made (both old) (Behind (codes "new") VarName)) Anything Anything (exact_state (codes "old"))
    (λ old. Exact-mapped (both old) (behind (codes "new") read_var) (Behind (codes "new") VarName) Anything (exact_state (codes "new"))) (λ old b s rest g h. tt))

pub Exact-result : Exact read_result IsResult Follows
unfolding read_result
Exact-result = Exact-behind (codes "result") read_typed IsTyped Follows Exact-typed

-- no type goes on, and `result` does not follow
abbrev pub NoHead : List Lexeme → Type 0
NoHead rest = NotBegun (is_word (codes "result")) Follows rest

pub Exact-any_result : Exact read_any_result (Optional IsResult) NoHead
unfolding read_any_result
Exact-any_result = Exact-perhaps (codes "result") read_typed IsTyped Follows Exact-typed

-- what follows the inputs, as one value
abbrev Rest : Bool → List Lexeme → Option (List ℕ × List ℕ) × Option TypedWriting → Type 0
Rest op ts x = IsRest op ts x.0 x.1

abbrev WithStates : List Lexeme → Option (List ℕ × List ℕ) × Option TypedWriting → Type 0
WithStates = Then IsStates (λ s. Made (both (Some s)) (Optional IsResult))

to_operation : (ts : List Lexeme) (x : Option (List ℕ × List ℕ) × Option TypedWriting) → WithStates ts x → Rest true ts x
to_operation ts x g = subst (Rest true ts) (sym g.5.2) (g.1, g.2, g.3, g.4, g.5.1)

from_operation : (ts : List Lexeme) (x : Option (List ℕ × List ℕ) × Option TypedWriting) → Rest true ts x → WithStates ts x
from_operation ts (Some s, result) g = (s, g.0, g.1, g.2, g.3, (result, g.4, refl))
from_operation ts (None, result) g = absurd g

to_function : (ts : List Lexeme) (x : Option (List ℕ × List ℕ) × Option TypedWriting) → Made stateless IsResult ts x → Rest false ts x
to_function ts x g = subst (Rest false ts) (sym g.2) g.1

from_function : (ts : List Lexeme) (x : Option (List ℕ × List ℕ) × Option TypedWriting) → Rest false ts x → Made stateless IsResult ts x
from_function ts (None, Some result) g = (result, g, refl)
from_function ts (None, None) g = absurd g
from_function ts (Some s, result) g = absurd g

pub Exact-rest : (op : Bool) → Exact (read_rest op) (Rest op) NoHead
unfolding read_rest
Exact-rest true =
    Exact-same (read_rest true) WithStates (Rest true) NoHead to_operation from_operation
    (Exact-chain read_states (λ s. mapped (both (Some s)) read_any_result) IsStates (λ s. Made (both (Some s)) (Optional IsResult)) Anything NoHead Exact-states
    (λ s. Exact-mapped (both (Some s)) read_any_result (Optional IsResult) NoHead Exact-any_result) (λ s b x rest g h. tt))
Exact-rest false =
    Exact-same (read_rest false) (Made stateless IsResult) (Rest false) NoHead to_function from_function
    (Exact-before (mapped stateless read_result) (Made stateless IsResult) Follows NoHead (λ rest s. s.0) (Exact-mapped stateless read_result IsResult Follows Exact-result))

abbrev Described : Bool → List ℕ → List Lexeme → HeadWriting → Type 0
Described op name = Then IsInputs (λ inputs. Made (heading name inputs) (Rest op))

exact_described : (op : Bool) (name : List ℕ) → Exact (chain read_inputs (λ inputs. mapped (heading name inputs) (read_rest op))) (Described op name) NoHead
exact_described op name =
    Exact-chain read_inputs (λ inputs. mapped (heading name inputs) (read_rest op)) IsInputs (λ inputs. Made (heading name inputs) (Rest op)) Anything NoHead Exact-inputs
    (λ inputs. Exact-mapped (heading name inputs) (read_rest op) (Rest op) NoHead (Exact-rest op)) (λ inputs b x rest g h. tt)

to_head : (op : Bool) (ts : List Lexeme) (x : HeadWriting) → Then PlainName (Described op) ts x → IsHead op ts x
to_head op ts x g =
    let d = g.5 in
    let m = d.5 in
    subst (IsHead op ts) (sym m.2) (g.1, d.1, d.2, g.3 ∙ ap (λ l. g.1 ++ l) d.3, g.4, d.4, m.1)

from_head : (op : Bool) (ts : List Lexeme) (x : HeadWriting) → IsHead op ts x → Then PlainName (Described op) ts x
from_head op ts x g = (x.name, g.0, g.1 ++ g.2, g.3, g.4, (x.inputs, g.1, g.2, refl, g.5, ((x.states, x.result), g.6, refl)))

pub Exact-head : (op : Bool) → Exact (read_head op) (IsHead op) NoHead
unfolding read_head
Exact-head op =
    Exact-same (read_head op) (Then PlainName (Described op)) (IsHead op) NoHead (to_head op) (from_head op)
    (Exact-chain read_plain_name (λ name. chain read_inputs (λ inputs. mapped (heading name inputs) (read_rest op))) PlainName (Described op) Anything NoHead Exact-plain_name (exact_described op) (λ name b x rest g h. tt))

-- a head may end the line
pub head_ends : NoHead []
head_ends = (tt, tt)
