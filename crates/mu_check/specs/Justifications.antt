-- Why a line doesn't hold: the first test that it fails.
use Rattle.std.specs.Prelude.{ℕ, List, [], ◌∷◌, map, Option, Some, None}
use Rattle.std.specs.List.{list_all}
use Rattle.std.specs.FinMap as finite
use Rattle.mu_tree.specs.declared.trees.Tree.{Tree}
use Rattle.mu_tree.specs.declared.claim.Kind.TheVariants.{E}
use Rattle.mu_tree.specs.declared.why.Ref.{Ref}
use Rattle.mu_tree.specs.declared.why.Given.{Given}
use Rattle.mu_tree.specs.declared.why.Why.{Why}
use Rattle.mu_tree.specs.declared.why.Why.TheVariants as why
use Rattle.mu_decl.specs.Contexts.{World}
use Rattle.mu_decl.specs.Formation.{is_formed, occurrences, expression}
use Rattle.mu_check.specs.declared.cause.Cause.{Cause}
use Rattle.mu_check.specs.declared.cause.Cause.TheVariants.{NoJustification, IllFormedLine, ForeignMeta, NotAccessible, Absent}
use Rattle.mu_check.specs.declared.allowed.Allowed.{Allowed}
use Rattle.mu_check.specs.declared.environments.Environment.{Environment}
use Rattle.mu_check.specs.Environments.{nth, gives, is_accessible}
use Rattle.mu_check.specs.Metas.{are_known}
use Rattle.mu_check.specs.Causes.{test, rule_cause, same_cause}
use Rattle.mu_check.specs.Hypotheses.{hypothesis_cause}
use Rattle.mu_check.specs.Definitions.{definition_cause}

-- what a justification refers to
abbrev pub refs_of : Why → List Ref
refs_of (why.Rule x via refs given) = refs
refs_of (why.Hypothesis n terms refs) = refs
refs_of (why.Definition c on) = on ∷ []
refs_of (why.Same on) = on ∷ []

-- a line that cites a rule, which a morphism may translate; no morphism counts as being there yet
abbrev pub citing_cause : World → Allowed → Environment → Tree → List ℕ → Option (List ℕ) → List Ref → List Given → Option Cause
citing_cause w allowed env t x None refs given = rule_cause w allowed env t refs given (finite.get w.rules x)
citing_cause w allowed env t x (Some via) refs given = Some Absent

-- a line of this justification, from the test that what it cites is there on
abbrev pub why_cause : World → Allowed → Environment → Tree → Why → Option Cause
why_cause w allowed env t (why.Rule x via refs given) = citing_cause w allowed env t x via refs given
why_cause w allowed env t (why.Hypothesis n terms refs) = hypothesis_cause w allowed env t terms refs (nth env.hyps n)
why_cause w allowed env t (why.Definition c on) = definition_cause w allowed env t c (gives env on) (finite.get w.definitions c)
why_cause w allowed env t (why.Same on) = same_cause env t (gives env on)

-- a line that is justified, from the test of its references on
abbrev pub justified_cause : World → Allowed → Environment → Tree → Why → Option Cause
justified_cause w allowed env t y = test (list_all (is_accessible env) (refs_of y)) NotAccessible (why_cause w allowed env t y)

-- a line: it is justified, it is an element, its metavariables are those of the proof's claim, its references may be cited, and its justification holds
abbrev pub line_cause : World → Allowed → Environment → Tree → Option Why → Option Cause
line_cause w allowed env t None = Some NoJustification
line_cause w allowed env t (Some y) =
    test (is_formed w allowed.seen (map expression env.scope) E t) IllFormedLine
    (test (are_known allowed.metas (occurrences w t E)) ForeignMeta
    (justified_cause w allowed env t y))
