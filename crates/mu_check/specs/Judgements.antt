-- Which proofs are right, by rules: when a line holds at its place and when a block may be entered there. Nothing is tested in
-- order and nothing is carried along, as it is in a verdict.
use Rattle.std.specs.Prelude.{◌≡◌, ℕ, true, List, [], map, length, Option, Some, None}
use Rattle.std.specs.List.{AllByRecursion, AllZip, Contains, IsDistinct, flat_map}
use Rattle.std.specs.Cmp.Lexicographic.{pointwise}
use Rattle.std.specs.Bool.{nat_eq}
use Rattle.std.specs.FinMap as finite
use Rattle.mu_tree.specs.declared.trees.Tree.{Tree}
use Rattle.mu_tree.specs.declared.claim.Kind.TheVariants.{E}
use Rattle.mu_tree.specs.declared.claim.TypedVar.{TypedVar}
use Rattle.mu_tree.specs.declared.claim.Definition.{Definition}
use Rattle.mu_tree.specs.declared.why.Ref.{Ref}
use Rattle.mu_tree.specs.declared.why.Ref.TheVariants as reference
use Rattle.mu_tree.specs.declared.why.Given.{Given}
use Rattle.mu_tree.specs.declared.why.Why.{Why}
use Rattle.mu_tree.specs.declared.why.Why.TheVariants as why
use Rattle.mu_decl.specs.Contexts.{World}
use Rattle.mu_decl.specs.Claims.{types_formed, claim_occurrences, type_occurrences}
use Rattle.mu_decl.specs.Formation.{is_formed, occurrences, expression}
use Rattle.mu_decl.specs.Nameless.{nameless}
use Rattle.mu_decl.specs.Unfolding.{unfolded, delta_of}
use Rattle.mu_decl.specs.declared.bare.Bare.{Bare}
use Rattle.mu_decl.specs.declared.declaration.ConstDecl.{ConstDecl}
use Rattle.mu_decl.specs.declared.occurring.Occurrence.{Occurrence}
use Rattle.mu_decl.specs.declared.declaration.Statement.{Statement}
use Rattle.mu_proof.specs.declared.items.Item.{Item}
use Rattle.mu_proof.specs.declared.items.Item.TheVariants as item
use Rattle.mu_check.specs.declared.fact.Fact.{Fact}
use Rattle.mu_check.specs.declared.fact.Fact.TheVariants as fact
use Rattle.mu_check.specs.Facts.{plain_fact, hypothesis_fact, instantiated_fact, entered}
use Rattle.mu_check.specs.Places.{Place, inside, scope_at, IsAt, EndsWith, MayCite, HasDistinctLabels}
use Rattle.mu_check.specs.Instances.{expressions, metas_of}
use Rattle.mu_check.specs.Metas.{first_of}
use Rattle.mu_check.specs.Hypotheses.{wanted, opened_fact}
use Rattle.mu_check.specs.Definitions.{definition_formed}
use Rattle.mu_check.specs.Verdicts.{verdict}

-- proofs of a rule
module _ (w : World) (s : Statement) where
  -- metavariables occur so in the rule's claim
  abbrev pub AreKnown : List Occurrence → Type 0
  AreKnown found = AllByRecursion (Contains (claim_occurrences w s.claim)) found

  -- a tree is an element at a place, with no other metavariables than the rule's claim
  pub record IsElement (place : Place) (t : Tree) : Type 0 where
    pub formed : is_formed w (w.seen s.theory) (map expression (scope_at place)) E t ≡ true
    pub known : AreKnown (occurrences w t E)

  -- what is given for a metavariable may stand for it at a place, where the metavariable first occurs so in a cited claim
  pub record Fits (place : Place) (all : List Occurrence) (g : Given) : Type 0 where
    pub first : Occurrence
    pub there : first_of all g.meta ≡ Some first
    pub many : first.count ≡ length g.params
    pub distinct : IsDistinct (pointwise nat_eq) g.params
    pub formed : is_formed w (w.seen s.theory) (expressions (scope_at place) g.params) first.kind g.body ≡ true
    pub known : AreKnown (occurrences w g.body first.kind)

  -- an instantiation at a place gives each metavariable that occurs in a cited claim, once, and no other
  pub record IsInstance (place : Place) (all : List Occurrence) (given : List Given) : Type 0 where
    pub fits : AllByRecursion (Fits place all) given
    pub once : IsDistinct (pointwise nat_eq) (metas_of given)
    pub whole : AllByRecursion (λ o. Contains (metas_of given) o.meta) all

  -- a fact of a cited rule at an instance that is given at a place
  abbrev pub instance : Place → List Given → Fact → Fact
  instance place given f = instantiated_fact (map (entered (scope_at place)) given) f

  -- the line of a tree holds at a place by a justification
  pub data HoldsBy (place : Place) (t : Tree) : Why → Type 0 where
    -- by an instance of a rule that is seen: each reference gives its hypothesis, and the line is the conclusion
    by_rule : (x : List ℕ) (refs : List Ref) (given : List Given) (cited : Statement)
        → finite.get w.rules x ≡ Some cited
        → Contains (w.seen s.theory) cited.theory
        → IsInstance place (claim_occurrences w cited.claim) given
        → AllZip (λ x h. MayCite s place x (instance place given (hypothesis_fact h))) refs cited.claim.hyps
        → plain_fact (scope_at place) t ≡ instance place given (plain_fact [] cited.claim.conclusion)
        → HoldsBy place t (why.Rule x None refs given)
    -- by a hypothesis that is no sequent, which it is
    by_hypothesis : (n : ℕ) (h : Bare)
        → MayCite s place (reference.Hypothesis n) (fact.Plain h)
        → plain_fact (scope_at place) t ≡ fact.Plain h
        → HoldsBy place t (why.Hypothesis n [] [])
    -- by a sequent at terms: the references give the terms' typings and then the premises, and the line is the upshot
    by_sequent : (n : ℕ) (terms : List Tree) (refs : List Ref) (types premises : List Bare) (upshot : Bare)
        → MayCite s place (reference.Hypothesis n) (fact.Sequent types premises upshot)
        → length terms ≡ length types
        → AllByRecursion (IsElement place) terms
        → AllZip (MayCite s place) refs (wanted (map (nameless (scope_at place) []) terms) types premises)
        → plain_fact (scope_at place) t ≡ opened_fact (map (nameless (scope_at place) []) terms) upshot
        → HoldsBy place t (why.Hypothesis n terms refs)
    -- by a definition that is seen: the line and what the reference gives are equal once it is unfolded in both
    by_definition : (c : List ℕ) (on : Ref) (d : Definition) (k : ConstDecl) (given : Bare)
        → finite.get w.definitions c ≡ Some d
        → finite.get w.constants c ≡ Some k
        → Contains (w.seen s.theory) k.theory
        → definition_formed w k d ≡ true
        → MayCite s place on (fact.Plain given)
        → unfolded (delta_of c d) (nameless (scope_at place) [] t) ≡ unfolded (delta_of c d) given
        → HoldsBy place t (why.Definition c on)
    -- by what it repeats
    by_repeating : (on : Ref)
        → MayCite s place on (plain_fact (scope_at place) t)
        → HoldsBy place t (why.Same on)

  -- a line is right at a place: it is an element, and it holds by its justification
  pub record IsRightLine (place : Place) (t : Tree) (y : Option Why) : Type 0 where
    pub element : IsElement place t
    pub reason : Why
    pub given : y ≡ Some reason
    pub holds : HoldsBy place t reason

  -- a block is right at a place: none of its variables has the name of one in scope, each type is well formed in the scope of
  -- the variables before it, with no other metavariables than the rule's claim, its assumptions are elements in it, and it ends
  -- with a line
  pub record IsRightBlock (place : Place) (l : List ℕ) (vars : List TypedVar) (trees : List Tree) (items : List Item) : Type 0 where
    pub fresh : AllByRecursion (λ v. Contains (scope_at place) v.name → ⊥) vars
    pub types : types_formed w (w.seen s.theory) (map expression (scope_at place)) vars ≡ true
    pub known : AreKnown (flat_map (type_occurrences w) vars)
    pub assumptions : AllByRecursion (IsElement (inside place l vars trees [])) trees
    pub last : Tree
    pub ends : EndsWith items last

-- a proof of the rule of a name is right: the rule is there, each line and each block is right where it stands, and the last
-- item is a line, the rule's conclusion
pub record IsRight (w : World) (r : List ℕ) (proof : List Item) : Type 0 where
  pub rule : Statement
  pub there : finite.get w.rules r ≡ Some rule
  pub lines : (place : Place) (l : List ℕ) (t : Tree) (y : Option Why) → IsAt proof place (item.Line l t y) → IsRightLine w rule place t y
  pub blocks : (place : Place) (l : List ℕ) (vars : List TypedVar) (trees : List Tree) (items : List Item) → IsAt proof place (item.Block l vars trees items) → IsRightBlock w rule place l vars trees items
  pub last : Tree
  pub ends : EndsWith proof last
  pub concludes : plain_fact [] last ≡ plain_fact [] rule.claim.conclusion

-- a proof without a fault is right, whatever its labels are, and a right proof has no fault where no label stands twice
unfoldable pub VerdictsAreExact : Type 0
VerdictsAreExact = (w : World) (r : List ℕ) (proof : List Item) → (verdict w r proof ≡ None → IsRight w r proof) × (HasDistinctLabels proof → IsRight w r proof → verdict w r proof ≡ None)
