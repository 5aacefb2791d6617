-- Why a line that cites a hypothesis by its number doesn't hold: the first test that it fails.
use Rattle.std.specs.Prelude.{◌+◌, Bool, ◌&&◌, List, [], ◌∷◌, ◌++◌, map, length, nat_eq, Option, Some, None}
use Rattle.std.specs.List.{list_all}
use Rattle.std.specs.Cmp.Lexicographic.{pointwise}
use Rattle.mu_tree.specs.declared.trees.Tree.{Tree}
use Rattle.mu_tree.specs.declared.claim.Kind.TheVariants.{E}
use Rattle.mu_tree.specs.declared.why.Ref.{Ref}
use Rattle.mu_decl.specs.declared.bare.Bare.{Bare}
use Rattle.mu_decl.specs.Nameless.{nameless}
use Rattle.mu_decl.specs.Opening.{opened}
use Rattle.mu_decl.specs.Contexts.{World}
use Rattle.mu_decl.specs.Formation.{is_formed, expression}
use Rattle.mu_decl.specs.Claims.{all_occurrences}
use Rattle.mu_check.specs.declared.cause.Cause.{Cause}
use Rattle.mu_check.specs.declared.cause.Cause.TheVariants.{Absent, WrongCount, IllFormedInstance, HypothesisDiffers, ConclusionDiffers}
use Rattle.mu_check.specs.declared.allowed.Allowed.{Allowed}
use Rattle.mu_check.specs.declared.fact.Fact.{Fact}
use Rattle.mu_check.specs.declared.fact.Fact.TheVariants as fact
use Rattle.mu_check.specs.declared.environments.Environment.{Environment}
use Rattle.mu_check.specs.Same.{equal_facts}
use Rattle.mu_check.specs.Facts.{plain_fact, typing_fact}
use Rattle.mu_check.specs.Environments.{gives}
use Rattle.mu_check.specs.Metas.{are_known}
use Rattle.mu_check.specs.Causes.{test, is_fact}

-- the typing of each term by its variable's type, in which the terms before it stand for the variables before it
abbrev pub term_typings : List Bare → List Bare → List Bare → List Fact
term_typings before [] types = []
term_typings before (t ∷ terms) [] = []
term_typings before (t ∷ terms) (type ∷ types) = typing_fact t (opened before type) ∷ term_typings (before ++ t ∷ []) terms types

-- a part of a sequent at these terms
abbrev pub opened_fact : List Bare → Bare → Fact
opened_fact by t = fact.Plain (opened by t)

-- what the references are to give for a sequent at these terms: the typings of the terms, then the premises
abbrev pub wanted : List Bare → List Bare → List Bare → List Fact
wanted terms types premises = term_typings [] terms types ++ map (opened_fact terms) premises

-- whether a reference gives this fact
abbrev pub gives_this : Environment → Ref → Fact → Bool
gives_this env x f = is_fact (gives env x) f

-- references and line against a sequent at these terms
abbrev pub upshot_cause : Environment → Tree → List Ref → List Bare → List Bare → List Bare → Bare → Option Cause
upshot_cause env t refs terms types premises upshot =
    test (pointwise (gives_this env) refs (wanted terms types premises)) HypothesisDiffers
    (test (equal_facts (plain_fact env.scope t) (opened_fact terms upshot)) ConclusionDiffers
    None)

-- a line against a fact
abbrev pub plain_cause : Environment → Tree → Fact → Option Cause
plain_cause env t h = test (equal_facts (plain_fact env.scope t) h) ConclusionDiffers None

-- whether terms are well formed where the line stands, with metavariables of the proof's claim alone
abbrev pub terms_formed : World → Allowed → Environment → List Tree → Bool
terms_formed w allowed env terms = list_all (is_formed w allowed.seen (map expression env.scope) E) terms && are_known allowed.metas (all_occurrences w terms)

-- a line that cites a sequent hypothesis
abbrev pub sequent_cause : World → Allowed → Environment → Tree → List Tree → List Ref → List Bare → List Bare → Bare → Option Cause
sequent_cause w allowed env t terms refs types premises upshot =
    test (nat_eq (length terms) (length types) && nat_eq (length refs) (length types + length premises)) WrongCount
    (test (terms_formed w allowed env terms) IllFormedInstance
    (upshot_cause env t refs (map (nameless env.scope []) terms) types premises upshot))

-- a line that cites a hypothesis, from the test that it is there on; one that is no sequent takes no terms and no references
abbrev pub hypothesis_cause : World → Allowed → Environment → Tree → List Tree → List Ref → Option Fact → Option Cause
hypothesis_cause w allowed env t terms refs None = Some Absent
hypothesis_cause w allowed env t terms refs (Some (fact.Plain h)) =
    test (nat_eq (length terms) 0 && nat_eq (length refs) 0) WrongCount
    (plain_cause env t (fact.Plain h))
hypothesis_cause w allowed env t terms refs (Some (fact.Sequent types premises upshot)) = sequent_cause w allowed env t terms refs types premises upshot
