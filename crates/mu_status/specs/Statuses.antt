-- The status of a rule: as a relation, and as a function that computes it.
use Rattle.std.specs.Prelude.{◌≡◌, ℕ, Bool, true, false, if◌then◌else◌, List, [], ◌∷◌, map, Option, Some, is_none, codes}
use Rattle.std.specs.Option.{option_map_or, option_map}
use Rattle.std.specs.List.{filter, list_any}
use Rattle.std.specs.FinMap as finite
use Rattle.mu_graph.specs.Decisions.{is_derivable}
use Rattle.mu_decl.specs.declared.declaration.Statement.{Statement}
use Rattle.mu_proof.specs.declared.items.Item.{Item}
use Rattle.mu_proof.specs.Citations.{cites}
use Rattle.mu_check.specs.Verdicts.{verdict}
use Rattle.mu_proof.specs.declared.citations.Cited.{Cited}
use Rattle.mu_proof.specs.declared.citations.Cited.TheVariants.{Rule, Morphism}
use Rattle.mu_flat.specs.ProofTables.{proofs_of}
use Rattle.mu_flat.specs.Entries.{Entries, world_of}
use Rattle.mu_status.specs.Derivations.{is_well_formed, HasProof, HasCheckedProof, IsEstablished, HoldsByRules}
use Rattle.mu_status.specs.declared.statuses.RuleStatus.{RuleStatus}
use Rattle.mu_status.specs.declared.statuses.RuleStatus.TheVariants.{IllFormed, Established, Complete, Incomplete, Unproved}

-- some stored proof of the rule checks
abbrev pub SomeChecks : Entries → List ℕ → Type 0
SomeChecks e rule = (items : List Item) × HasCheckedProof e rule items

-- some proof of the rule is stored
abbrev pub SomeProof : Entries → List ℕ → Type 0
SomeProof e rule = (items : List Item) × HasProof e rule items

-- the status is the first that fits a rule with this statement: its claim is not well formed; some derivation has it; some proof of it checks; some proof of it is stored; none is
abbrev pub HasStatus : Entries → List ℕ → Statement → RuleStatus → Type 0
HasStatus e rule s IllFormed = is_well_formed e s ≡ false
HasStatus e rule s Established = (is_well_formed e s ≡ true) × IsEstablished e rule
HasStatus e rule s Complete = (is_well_formed e s ≡ true) × (IsEstablished e rule → ⊥) × SomeChecks e rule
HasStatus e rule s Incomplete = (is_well_formed e s ≡ true) × (IsEstablished e rule → ⊥) × (SomeChecks e rule → ⊥) × SomeProof e rule
HasStatus e rule s Unproved = (is_well_formed e s ≡ true) × (IsEstablished e rule → ⊥) × (SomeChecks e rule → ⊥) × (SomeProof e rule → ⊥)

-- whether a stored proof of the rule checks
abbrev pub checks : Entries → List ℕ → List ℕ × List Item → Bool
checks e rule entry = is_none (verdict (world_of e) rule entry.1)

-- what each of some proofs of the rule that checks cites
abbrev pub proof_ways : Entries → List ℕ → List (List ℕ × List Item) → List (List Cited)
proof_ways e rule entries = map (λ entry. cites entry.1) (filter (checks e rule) entries)

-- what a proof of the rule cites, where it checks
abbrev pub way_by : Entries → List ℕ → List Item → List (List Cited)
way_by e rule items = if is_none (verdict (world_of e) rule items) then (cites items ∷ []) else []

-- the ways to a well-formed rule with this statement: one without premises for an axiom, and what each proof that checks cites for another rule
abbrev pub formed_ways : Entries → List ℕ → Statement → List (List Cited)
formed_ways e rule s = if s.is_axiom then ([] ∷ []) else proof_ways e rule (finite.entries (proofs_of e.proofs rule))

-- the ways to a rule with this statement: none where it is not well formed
abbrev pub rule_ways : Entries → List ℕ → Statement → List (List Cited)
rule_ways e rule s = if is_well_formed e s then formed_ways e rule s else []

-- the ways to a member of a derivation
abbrev pub ways : Entries → Cited → List (List Cited)
ways e (Rule rule) = option_map_or (rule_ways e rule) (finite.get e.rules rule) []
ways e (Morphism morphism) = []

-- whether some derivation has the rule
abbrev pub is_established : Entries → List ℕ → Bool
is_established e rule = is_derivable (ways e) (map Rule (finite.keys e.rules)) (Rule rule)

-- the status of a rule none of whose proofs checks
abbrev pub status_unchecked : List (List ℕ × List Item) → RuleStatus
status_unchecked [] = Unproved
status_unchecked (entry ∷ entries) = Incomplete

-- the status of a rule without a derivation, by its proofs
abbrev pub status_by_proofs : Entries → List ℕ → List (List ℕ × List Item) → RuleStatus
status_by_proofs e rule entries = if list_any (checks e rule) entries then Complete else status_unchecked entries

-- the status of a rule with this statement
abbrev pub status_of : Entries → List ℕ → Statement → RuleStatus
status_of e rule s =
    if is_well_formed e s then (if is_established e rule then Established else status_by_proofs e rule (finite.entries (proofs_of e.proofs rule))) else IllFormed

-- the status of the rule of a name, where there is one
abbrev pub status_at : Entries → List ℕ → Option RuleStatus
status_at e rule = option_map (status_of e rule) (finite.get e.rules rule)

-- the word for a status
abbrev pub word_of : RuleStatus → List ℕ
word_of IllFormed = codes "ill-formed"
word_of Established = codes "established"
word_of Complete = codes "complete"
word_of Incomplete = codes "incomplete"
word_of Unproved = codes "unproved"

-- what holds of statuses
pub record AreStatuses : Type 0 where
  -- the status that is computed is the one that fits
  pub fits : (e : Entries) (rule : List ℕ) (s : Statement) → finite.get e.rules rule ≡ Some s → HasStatus e rule s (status_of e rule s)
  -- no other fits
  pub one : (e : Entries) (rule : List ℕ) (s : Statement) (a b : RuleStatus) → HasStatus e rule s a → HasStatus e rule s b → a ≡ b
  -- an established rule rests on axioms alone: a test that axioms pass and that checked proofs pass on is one that it passes
  pub rests : (e : Entries) (test : Cited → Bool) → HoldsByRules e (λ member. test member ≡ true) → (rule : List ℕ) → IsEstablished e rule → test (Rule rule) ≡ true

-- the statuses are as the laws say
unfoldable pub StatusesAreExact : Type 0
StatusesAreExact = AreStatuses
