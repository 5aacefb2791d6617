-- The canonical text of claims, of what a line holds by, of declarations and of heads.
use Rattle.std.specs.Prelude.{ℕ, List, [], ◌∷◌, ◌++◌, Option, Some, None, codes, map}
use Rattle.std.specs.Fmt.{decimal}
use Rattle.std.specs.List.{flat_map}
use Rattle.std.specs.Option.{option_map_or}
use Rattle.mu_tree.specs.declared.claim.Kind.{Kind}
use Rattle.mu_tree.specs.declared.claim.Kind.TheVariants as kind
use Rattle.mu_tree.specs.declared.claim.Shape.{Shape}
use Rattle.mu_tree.specs.declared.claim.Shape.TheVariants as shape
use Rattle.mu_tree.specs.declared.claim.TypedVar.{TypedVar}
use Rattle.mu_tree.specs.declared.claim.Hyp.{Hyp}
use Rattle.mu_tree.specs.declared.claim.Hyp.TheVariants as hyp
use Rattle.mu_tree.specs.declared.claim.Claim.{Claim}
use Rattle.mu_tree.specs.declared.head.OpHead.{OpHead}
use Rattle.mu_tree.specs.declared.trees.Tree.{Tree}
use Rattle.mu_tree.specs.declared.why.Ref.{Ref}
use Rattle.mu_tree.specs.declared.why.Ref.TheVariants as ref
use Rattle.mu_tree.specs.declared.why.Given.{Given}
use Rattle.mu_tree.specs.declared.why.Why.{Why}
use Rattle.mu_tree.specs.declared.why.Why.TheVariants as why
use Rattle.mu_print.specs.Canonical.{tree_text}

-- a text behind another
abbrev pub behind : List ℕ → List ℕ → List ℕ
behind separator text = separator ++ text

-- texts with the separator between each two
unfoldable pub between : List ℕ → List (List ℕ) → List ℕ
between separator [] = []
between separator (text ∷ texts) = text ++ flat_map (behind separator) texts

-- the texts with commas between them, behind the first text and before the last; nothing where there are none
abbrev pub surrounded : List ℕ → List ℕ → List ℕ → List (List ℕ) → List ℕ
surrounded before separator after [] = []
surrounded before separator after (text ∷ texts) = before ++ (between separator (text ∷ texts) ++ after)

-- a variable with its type: `x:T`
unfoldable pub variable_text : TypedVar → List ℕ
variable_text v = v.name ++ (codes ":" ++ tree_text v.ty)

-- typed variables, the bar, and trees: `x:T | p, q`, `| p`, `x:T |` or `|`
unfoldable pub block_text : List TypedVar → List Tree → List ℕ
block_text vars trees = surrounded [] (codes ", ") (codes " ") (map variable_text vars) ++ (codes "|" ++ surrounded (codes " ") (codes ", ") [] (map tree_text trees))

-- a hypothesis: a tree, or a sequent `{x:T | p, q |- u}`
unfoldable pub hypothesis_text : Hyp → List ℕ
hypothesis_text (hyp.Plain tree) = tree_text tree
hypothesis_text (hyp.Sequent vars premises upshot) = codes "{" ++ (block_text vars premises ++ (codes " |- " ++ (tree_text upshot ++ codes "}")))

-- a claim: its conclusion, behind its hypotheses and the turnstile where there are any
unfoldable pub claim_text : Claim → List ℕ
claim_text claim = surrounded [] (codes "; ") (codes " |- ") (map hypothesis_text claim.hyps) ++ tree_text claim.conclusion

-- a reference: `l`, `b#2` or `#1`
unfoldable pub reference_text : Ref → List ℕ
reference_text (ref.Item label) = label
reference_text (ref.Assumption label n) = label ++ (codes "#" ++ decimal n)
reference_text (ref.Hypothesis n) = codes "#" ++ decimal n

-- what stands for a metavariable: `?m := t` or `?m[x, y] := t`
unfoldable pub abstraction_text : Given → List ℕ
abstraction_text given = codes "?" ++ (given.meta ++ (surrounded (codes "[") (codes ", ") (codes "]") given.params ++ (codes " := " ++ tree_text given.body)))

-- the morphism that a rule is translated by
abbrev pub via_text : Option (List ℕ) → List ℕ
via_text via = option_map_or (behind (codes " via ")) via []

-- what a line holds by
unfoldable pub reason_text : Why → List ℕ
reason_text (why.Rule rule via refs inst) =
    codes "rule " ++ (rule ++ (via_text via ++ (surrounded (codes " from ") (codes ", ") [] (map reference_text refs) ++ surrounded (codes " with ") (codes "; ") [] (map abstraction_text inst))))
reason_text (why.Hypothesis n terms refs) =
    codes "hyp #" ++ (decimal n ++ (surrounded (codes " with ") (codes ", ") [] (map tree_text terms) ++ surrounded (codes " from ") (codes ", ") [] (map reference_text refs)))
reason_text (why.Definition constant on) = codes "def " ++ (constant ++ (codes " on " ++ reference_text on))
reason_text (why.Same on) = codes "same " ++ reference_text on

-- a kind: `e` or `t`
abbrev pub kind_text : Kind → List ℕ
kind_text kind.E = codes "e"
kind_text kind.T = codes "t"

-- how a constant is used: the kinds of its arguments, or that of a binder's body
abbrev pub shape_text : Shape → List ℕ
shape_text (shape.Plain kinds) = surrounded (codes "(") (codes ", ") (codes ")") (map kind_text kinds)
shape_text (shape.Binder body) = codes "{" ++ (kind_text body ++ codes "}")

-- a declaration: `c -> k`, `c(k, k) -> k` or `c{k} -> k`
unfoldable pub declaration_text : List ℕ → Shape → Kind → List ℕ
declaration_text name shape result = name ++ (shape_text shape ++ (codes " -> " ++ kind_text result))

-- the formal parameters of a definition, in parentheses; nothing where there are none
abbrev pub formals_text : List (List ℕ) → List ℕ
formals_text names = surrounded (codes "(") (codes ", ") (codes ")") names

-- the inputs of a head, in parentheses
abbrev pub inputs_text : List TypedVar → List ℕ
inputs_text vars = codes "(" ++ (between (codes ", ") (map variable_text vars) ++ codes ")")

-- the old and the new state of an operation
abbrev pub states_text : Option (List ℕ × List ℕ) → List ℕ
states_text None = []
states_text (Some states) = codes " old " ++ (states.0 ++ (codes " new " ++ states.1))

-- the result, where there is one
abbrev pub result_text : Option TypedVar → List ℕ
result_text result = option_map_or (λ v. codes " result " ++ variable_text v) result []

-- a head: `f(x:T, y:U) old s new t result r:V`
unfoldable pub head_text : List ℕ → OpHead → List ℕ
head_text name head = name ++ (inputs_text head.inputs ++ (states_text head.states ++ result_text head.result))
