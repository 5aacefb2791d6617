-- Why a line that cites a rule, or repeats a fact, doesn't hold: the first test that it fails.
use Rattle.std.specs.Prelude.{Bool, false, cond, List, [], map, length, nat_eq, Option, Some, None}
use Rattle.std.specs.Cmp.Lexicographic.{pointwise}
use Rattle.mu_tree.specs.Names.{is_among}
use Rattle.mu_tree.specs.declared.trees.Tree.{Tree}
use Rattle.mu_tree.specs.declared.claim.Hyp.{Hyp}
use Rattle.mu_tree.specs.declared.claim.Claim.{Claim}
use Rattle.mu_tree.specs.declared.why.Ref.{Ref}
use Rattle.mu_tree.specs.declared.why.Given.{Given}
use Rattle.mu_decl.specs.Contexts.{World}
use Rattle.mu_decl.specs.declared.declaration.Statement.{Statement}
use Rattle.mu_decl.specs.declared.instantiating.Abstraction.{Abstraction}
use Rattle.mu_decl.specs.Claims.{claim_occurrences}
use Rattle.mu_check.specs.declared.cause.Cause.{Cause}
use Rattle.mu_check.specs.declared.cause.Cause.TheVariants.{Absent, NotVisible, WrongCount, IllFormedInstance, HypothesisDiffers, ConclusionDiffers}
use Rattle.mu_check.specs.declared.allowed.Allowed.{Allowed}
use Rattle.mu_check.specs.declared.fact.Fact.{Fact}
use Rattle.mu_check.specs.declared.fact.Fact.TheVariants as fact
use Rattle.mu_check.specs.declared.environments.Environment.{Environment}
use Rattle.mu_check.specs.Same.{equal_facts}
use Rattle.mu_check.specs.Facts.{plain_fact, hypothesis_fact, instantiated_fact, entered}
use Rattle.mu_check.specs.Environments.{gives}
use Rattle.mu_check.specs.Instances.{is_instance}

-- the cause where a test fails, and else what the later tests say
abbrev pub test : Bool → Cause → Option Cause → Option Cause
test passes cause later = cond passes later (Some cause)

-- whether a fact that may be cited is this one
abbrev pub is_fact : Option Fact → Fact → Bool
is_fact None f = false
is_fact (Some given) f = equal_facts given f

-- whether a reference gives an instantiated hypothesis
abbrev pub meets : Environment → List Abstraction → Ref → Hyp → Bool
meets env given x h = is_fact (gives env x) (instantiated_fact given (hypothesis_fact h))

-- whether a line is an instantiated conclusion
abbrev pub concludes : Environment → List Abstraction → Tree → Tree → Bool
concludes env given t conclusion = equal_facts (plain_fact env.scope t) (instantiated_fact given (plain_fact [] conclusion))

-- references and line against the instantiated claim: its hypotheses in order, then its conclusion
abbrev pub instance_cause : Environment → List Abstraction → Tree → List Ref → Claim → Option Cause
instance_cause env given t refs claim =
    test (pointwise (meets env given) refs claim.hyps) HypothesisDiffers
    (test (concludes env given t claim.conclusion) ConclusionDiffers
    None)

-- a line that cites a rule of this claim, from the test of its instantiation on
abbrev pub claim_cause : World → Allowed → Environment → Tree → List Ref → List Given → Claim → Option Cause
claim_cause w allowed env t refs given claim =
    test (is_instance w allowed env.scope (claim_occurrences w claim) given) IllFormedInstance
    (instance_cause env (map (entered env.scope) given) t refs claim)

-- a line that cites a rule, from the test that the rule is there on
abbrev pub rule_cause : World → Allowed → Environment → Tree → List Ref → List Given → Option Statement → Option Cause
rule_cause w allowed env t refs given None = Some Absent
rule_cause w allowed env t refs given (Some s) =
    test (is_among allowed.seen s.theory) NotVisible
    (test (nat_eq (length refs) (length s.claim.hyps)) WrongCount
    (claim_cause w allowed env t refs given s.claim))

-- a line that repeats what its reference gives, which may not be a sequent
abbrev pub same_cause : Environment → Tree → Option Fact → Option Cause
same_cause env t None = None
same_cause env t (Some (fact.Sequent types premises upshot)) = Some HypothesisDiffers
same_cause env t (Some (fact.Plain given)) = test (equal_facts (plain_fact env.scope t) (fact.Plain given)) ConclusionDiffers None
