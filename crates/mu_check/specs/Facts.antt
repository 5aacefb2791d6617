-- What is known of a line, a block, an assumption or a hypothesis: a nameless tree, or a sequent of nameless trees.
use Rattle.std.specs.Prelude.{ℕ, List, [], ◌∷◌, ◌++◌, codes, map, length}
use Rattle.mu_tree.specs.declared.trees.Tree.{Tree}
use Rattle.mu_tree.specs.declared.claim.TypedVar.{TypedVar}
use Rattle.mu_tree.specs.declared.claim.Hyp.{Hyp}
use Rattle.mu_tree.specs.declared.claim.Hyp.TheVariants as hypothesis
use Rattle.mu_tree.specs.declared.why.Given.{Given}
use Rattle.mu_decl.specs.declared.bare.Bare.{Bare}
use Rattle.mu_decl.specs.declared.bare.Bare.TheVariants as bare
use Rattle.mu_decl.specs.declared.instantiating.Abstraction.{Abstraction}
use Rattle.mu_decl.specs.Nameless.{nameless}
use Rattle.mu_decl.specs.Instantiating.{instantiated}
use Rattle.mu_decl.specs.Claims.{names_of}
use Rattle.mu_check.specs.declared.fact.Fact.{Fact}
use Rattle.mu_check.specs.declared.fact.Fact.TheVariants as fact

-- a tree with these variables in scope
abbrev pub plain_fact : List (List ℕ) → Tree → Fact
plain_fact scope t = fact.Plain (nameless scope [] t)

-- the types of some variables, each under the variables before it
abbrev pub types_under : List (List ℕ) → List (List ℕ) → List TypedVar → List Bare
types_under scope bound [] = []
types_under scope bound (v ∷ vars) = nameless scope bound v.ty ∷ types_under scope (bound ++ v.name ∷ []) vars

-- a sequent, closed over its variables
abbrev pub closed : List (List ℕ) → List TypedVar → List Tree → Tree → Fact
closed scope vars premises upshot = fact.Sequent (types_under scope [] vars) (map (nameless scope (names_of vars)) premises) (nameless scope (names_of vars) upshot)

-- a hypothesis, in which no variable is in scope but a sequent's own
abbrev pub hypothesis_fact : Hyp → Fact
hypothesis_fact (hypothesis.Plain t) = plain_fact [] t
hypothesis_fact (hypothesis.Sequent vars premises upshot) = closed [] vars premises upshot

-- the constant that says of which type an element is
abbrev pub typing : List ℕ
typing = codes "typing"

-- the typing of a term
abbrev pub typing_fact : Bare → Bare → Fact
typing_fact t type = fact.Plain (bare.App typing (t ∷ type ∷ []))

-- the typing of a variable
abbrev pub typing_of : List (List ℕ) → TypedVar → Fact
typing_of scope v = typing_fact (bare.Var v.name) (nameless scope [] v.ty)

-- the typings of some variables, each type in the scope of the variables before it
abbrev pub typings : List (List ℕ) → List TypedVar → List Fact
typings scope [] = []
typings scope (v ∷ vars) = typing_of scope v ∷ typings (scope ++ v.name ∷ []) vars

-- the assumptions of a block: the typings of its variables, then what it assumes of them
abbrev pub assumptions_of : List (List ℕ) → List TypedVar → List Tree → List Fact
assumptions_of scope vars trees = typings scope vars ++ map (plain_fact (scope ++ names_of vars)) trees

-- a fact with its metavariables replaced
abbrev pub instantiated_fact : List Abstraction → Fact → Fact
instantiated_fact given (fact.Plain t) = fact.Plain (instantiated given t)
instantiated_fact given (fact.Sequent types premises upshot) = fact.Sequent (map (instantiated given) types) (map (instantiated given) premises) (instantiated given upshot)

-- what stands for a metavariable, with these variables in scope
abbrev pub entered : List (List ℕ) → Given → Abstraction
entered scope g = record { meta = g.meta; count = length g.params; body = nameless scope g.params g.body }
