-- A proof that is checked against a goal is checked against its rule.
use Rattle.std.proofs.Common.{◌≡◌, ℕ, List, [], map, ap, refl, sym, ◌∙◌}
use Rattle.std.specs.Prelude.{Option, Some, None}
use Rattle.std.specs.FinMap as finite
use Rattle.mu_tree.specs.declared.trees.Tree.{Tree}
use Rattle.std.specs.Option.{option_or}
use Rattle.mu_proof.specs.Proofs.{root}
use Rattle.mu_check.specs.declared.cause.Fault.{Fault}
use Rattle.mu_decl.specs.Contexts.{World}
use Rattle.mu_decl.specs.declared.declaration.Statement.{Statement}
use Rattle.mu_proof.specs.declared.items.Item.{Item}
use Rattle.mu_check.specs.declared.allowed.Allowed.{Allowed}
use Rattle.mu_check.specs.declared.fact.Fact.{Fact}
use Rattle.mu_check.specs.declared.environments.Environment.{Environment}
use Rattle.mu_check.specs.declared.verdicts.Goal.{Goal}
use Rattle.mu_check.specs.Facts.{plain_fact, hypothesis_fact}
use Rattle.mu_check.specs.Environments.{start, left}
use Rattle.mu_check.specs.Verdicts.{checked, in_order, ends, labelled, root_cause, allowed_by, verdict, verdict_by}
use Rattle.mu_check.specs.Goals.{conclusion_cause, goal_by, goal_fault, nothing, IsGoal, KeepsGoal}

by_tree : (t : Tree) (o : Option Tree) → conclusion_cause (plain_fact [] t) o ≡ root_cause t o
by_tree t None = refl
by_tree t (Some last) = refl

again : (env : Environment) (s : Statement) → env.hyps ≡ map hypothesis_fact s.claim.hyps → left nothing env ≡ start s.claim
again env s h = λ j. record { scope = []; hyps = h j; blocks = []; items = [] }

abbrev fault_by : World → List Item → Allowed → Environment → Fact → Option Fault
fault_by w items allowed env conclusion = option_or (in_order (map (checked w allowed) items) env) (labelled root (conclusion_cause conclusion (ends (map (checked w allowed) items))))

-- the first fault against a goal is the verdict on a proof of its rule
pub goal_verdict : (w : World) (r : List ℕ) (g : Goal) (items : List Item) → IsGoal w r g → goal_fault w g items ≡ verdict w r items
goal_verdict w r g items is =
    ap (λ a. fault_by w items a (left nothing g.environment) g.conclusion) is.allowed
    ∙ ap (λ env. fault_by w items (allowed_by w is.statement) env g.conclusion) (again g.environment is.statement is.hyps)
    ∙ ap (fault_by w items (allowed_by w is.statement) (start is.statement.claim)) is.conclusion
    ∙ ap (λ cause. option_or (in_order (map (checked w (allowed_by w is.statement)) items) (start is.statement.claim)) (labelled root cause)) (by_tree is.statement.claim.conclusion (ends (map (checked w (allowed_by w is.statement)) items)))
    ∙ ap (verdict_by w items) (sym is.there)

-- it stays one
pub keeps_goal : (w : World) (r : List ℕ) (g later : Goal) → IsGoal w r g → KeepsGoal g later → IsGoal w r later
keeps_goal w r g later is keeps = record {
  statement = is.statement;
  there = is.there;
  allowed = keeps.allowed ∙ is.allowed;
  hyps = keeps.hyps ∙ is.hyps;
  conclusion = keeps.conclusion ∙ is.conclusion;
}

-- what is made ready for a rule is a goal of it
pub made_ready : (w : World) (r : List ℕ) (s : Statement) → finite.get w.rules r ≡ Some s → IsGoal w r (goal_by w s)
made_ready w r s there = record { statement = s; there = there; allowed = refl; hyps = refl; conclusion = refl }
