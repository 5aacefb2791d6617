-- What the proofs of a rule are checked against, made ready once for all of them.
use Rattle.std.specs.Prelude.{◌≡◌, ℕ, List, [], map, Option, Some, None}
use Rattle.std.specs.Option.{option_or}
use Rattle.std.specs.FinMap as finite
use Rattle.mu_tree.specs.declared.trees.Tree.{Tree}
use Rattle.mu_decl.specs.Contexts.{World}
use Rattle.mu_decl.specs.declared.declaration.Statement.{Statement}
use Rattle.mu_proof.specs.declared.items.Item.{Item}
use Rattle.mu_proof.specs.Proofs.{root}
use Rattle.mu_check.specs.declared.cause.Cause.{Cause}
use Rattle.mu_check.specs.declared.cause.Cause.TheVariants.{Unfinished, ConclusionDiffers}
use Rattle.mu_check.specs.declared.cause.Fault.{Fault}
use Rattle.mu_check.specs.declared.fact.Fact.{Fact}
use Rattle.mu_check.specs.declared.environments.Extent.{Extent}
use Rattle.mu_check.specs.declared.verdicts.Goal.{Goal}
use Rattle.mu_check.specs.declared.verdicts.Checker.{Checker}
use Rattle.mu_check.specs.Same.{equal_facts}
use Rattle.mu_check.specs.Facts.{plain_fact, hypothesis_fact}
use Rattle.mu_check.specs.Environments.{start, left}
use Rattle.mu_check.specs.Causes.{test}
use Rattle.mu_check.specs.Verdicts.{checked, in_order, ends, labelled, allowed_by}

-- the whole proof, after its items: it ends with a line, which gives the conclusion
abbrev pub conclusion_cause : Fact → Option Tree → Option Cause
conclusion_cause conclusion None = Some Unfinished
conclusion_cause conclusion (Some t) = test (equal_facts (plain_fact [] t) conclusion) ConclusionDiffers None

-- what the proofs of a rule of this statement are checked against
abbrev pub goal_by : World → Statement → Goal
goal_by w s = record { allowed = allowed_by w s; environment = start s.claim; conclusion = plain_fact [] s.claim.conclusion }

-- no variables, blocks and items
abbrev pub nothing : Extent
nothing = record { scope = 0; blocks = 0; items = 0 }

-- the first fault of a proof of a goal, before whose first item the hypotheses alone may be cited
abbrev pub goal_fault : World → Goal → List Item → Option Fault
goal_fault w g items =
    option_or (in_order (map (checked w g.allowed) items) (left nothing g.environment))
    (labelled root (conclusion_cause g.conclusion (ends (map (checked w g.allowed) items))))

-- a goal is that of a rule, apart from what else may be cited
pub record IsGoal (w : World) (r : List ℕ) (g : Goal) : Type 0 where
  pub statement : Statement
  pub there : finite.get w.rules r ≡ Some statement
  pub allowed : g.allowed ≡ allowed_by w statement
  pub hyps : g.environment.hyps ≡ map hypothesis_fact statement.claim.hyps
  pub conclusion : g.conclusion ≡ plain_fact [] statement.claim.conclusion

-- a goal stays, apart from what else may be cited
pub record KeepsGoal (g later : Goal) : Type 0 where
  pub allowed : later.allowed ≡ g.allowed
  pub hyps : later.environment.hyps ≡ g.environment.hyps
  pub conclusion : later.conclusion ≡ g.conclusion

-- a goal is that of a rule, and there is none exactly where the rule isn't there
abbrev pub IsGoalOf : World → List ℕ → Option Goal → Type 0
IsGoalOf w r None = finite.get w.rules r ≡ None
IsGoalOf w r (Some g) = IsGoal w r g

-- a checker has the goal of its rule
unfoldable pub IsChecker : World → Checker → Type 0
IsChecker w c = IsGoalOf w c.rule c.goal
