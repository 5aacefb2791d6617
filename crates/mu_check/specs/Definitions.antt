-- Which definitions are well formed, and why a line that unfolds one doesn't hold: the first test that it fails.
use Rattle.std.specs.Prelude.{ℕ, Bool, false, ◌&&◌, List, [], ◌∷◌, length, nat_eq, Option, Some, None}
use Rattle.std.specs.FinMap as finite
use Rattle.mu_tree.specs.Names.{is_among}
use Rattle.mu_tree.specs.declared.trees.Tree.{Tree}
use Rattle.mu_tree.specs.declared.claim.Kind.{Kind}
use Rattle.mu_tree.specs.declared.claim.Shape.{Shape}
use Rattle.mu_tree.specs.declared.claim.Shape.TheVariants.{Plain, Binder}
use Rattle.mu_tree.specs.declared.claim.Definition.{Definition}
use Rattle.mu_decl.specs.Contexts.{World}
use Rattle.mu_decl.specs.declared.declaration.ConstDecl.{ConstDecl}
use Rattle.mu_decl.specs.declared.bare.Bare.{Bare}
use Rattle.mu_decl.specs.declared.formation.Scoped.{Scoped}
use Rattle.mu_decl.specs.Formation.{is_formed, occurrences}
use Rattle.mu_decl.specs.Nameless.{nameless}
use Rattle.mu_check.specs.declared.cause.Cause.{Cause}
use Rattle.mu_check.specs.declared.cause.Cause.TheVariants.{Absent, NotVisible, IllFormedDefinition, HypothesisDiffers, ConclusionDiffers}
use Rattle.mu_check.specs.declared.allowed.Allowed.{Allowed}
use Rattle.mu_check.specs.declared.fact.Fact.{Fact}
use Rattle.mu_check.specs.declared.fact.Fact.TheVariants as fact
use Rattle.mu_check.specs.declared.environments.Environment.{Environment}
use Rattle.mu_decl.specs.declared.unfolding.DeltaRule.{DeltaRule}
use Rattle.mu_check.specs.Same.{equal_facts}
use Rattle.mu_decl.specs.Unfolding.{unfolded, delta_of}
use Rattle.mu_check.specs.Causes.{test}

-- the parameters of a definition as variables, each of the kind of the argument that it stands for
abbrev pub parameters : List (List ℕ) → List Kind → List Scoped
parameters [] kinds = []
parameters (n ∷ names) [] = []
parameters (n ∷ names) (k ∷ kinds) = record { name = n; kind = k } ∷ parameters names kinds

-- whether a body may define a constant of arguments of these kinds: it is well formed in the constant's unit, and has no metavariable
abbrev pub body_formed : World → ConstDecl → Definition → List Kind → Bool
body_formed w c d kinds = nat_eq (length kinds) (length d.params) && is_formed w (w.seen c.theory) (parameters d.params kinds) c.result d.body && nat_eq (length (occurrences w d.body c.result)) 0

-- whether a definition may be one of a constant of this shape, which may not bind a variable
abbrev pub defines : World → ConstDecl → Definition → Shape → Bool
defines w c d (Plain kinds) = body_formed w c d kinds
defines w c d (Binder kind) = false

-- whether a definition of a constant that is declared so is well formed
abbrev pub definition_formed : World → ConstDecl → Definition → Bool
definition_formed w c d = defines w c d c.shape

-- a nameless tree, unfolded, as a fact
abbrev pub unfolded_fact : DeltaRule → Bare → Fact
unfolded_fact u t = fact.Plain (unfolded u t)

-- line and reference, both unfolded; the reference may not be a sequent
abbrev pub unfolding_cause : Environment → Tree → DeltaRule → Option Fact → Option Cause
unfolding_cause env t u None = None
unfolding_cause env t u (Some (fact.Sequent types premises upshot)) = Some HypothesisDiffers
unfolding_cause env t u (Some (fact.Plain given)) = test (equal_facts (unfolded_fact u (nameless env.scope [] t)) (unfolded_fact u given)) ConclusionDiffers None

-- a line that unfolds a definition, from the test of the constant's unit on; a constant that isn't declared has none
abbrev pub defined_cause : World → Allowed → Environment → Tree → List ℕ → Option Fact → Definition → Option ConstDecl → Option Cause
defined_cause w allowed env t c given d None = Some NotVisible
defined_cause w allowed env t c given d (Some k) =
    test (is_among allowed.seen k.theory) NotVisible
    (test (definition_formed w k d) IllFormedDefinition
    (unfolding_cause env t (delta_of c d) given))

-- a line that unfolds a definition, from the test that it is there on
abbrev pub definition_cause : World → Allowed → Environment → Tree → List ℕ → Option Fact → Option Definition → Option Cause
definition_cause w allowed env t c given None = Some Absent
definition_cause w allowed env t c given (Some d) = defined_cause w allowed env t c given d (finite.get w.constants c)
