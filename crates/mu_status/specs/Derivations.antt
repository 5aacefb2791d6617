-- When a rule is established: derivations in a store.
use Rattle.std.specs.Prelude.{◌≡◌, ◌⊎◌, ℕ, Bool, true, false, List, Some, None}
use Rattle.std.specs.List.{AllByRecursion}
use Rattle.std.specs.FinMap as finite
use Rattle.mu_graph.specs.Derivations.{AllStand, StandsInSome}
use Rattle.mu_decl.specs.Claims.{well_formed}
use Rattle.mu_decl.specs.declared.declaration.Statement.{Statement}
use Rattle.mu_proof.specs.declared.items.Item.{Item}
use Rattle.mu_proof.specs.Citations.{cites}
use Rattle.mu_check.specs.Verdicts.{verdict}
use Rattle.mu_proof.specs.declared.citations.Cited.{Cited}
use Rattle.mu_proof.specs.declared.citations.Cited.TheVariants.{Rule, Morphism}
use Rattle.mu_flat.specs.ProofTables.{proof_at}
use Rattle.mu_flat.specs.Entries.{Entries, world_of}

-- a rule is well formed where its claim is so in its unit
abbrev pub is_well_formed : Entries → Statement → Bool
is_well_formed e s = well_formed (world_of e) s.theory s.claim

-- the rule has these items as a stored proof
abbrev pub HasProof : Entries → List ℕ → List Item → Type 0
HasProof e rule items = (proof : List ℕ) × (proof_at e.proofs rule proof ≡ Some items)

-- the rule has these items as a stored proof, and it checks
abbrev pub HasCheckedProof : Entries → List ℕ → List Item → Type 0
HasCheckedProof e rule items = HasProof e rule items × (verdict (world_of e) rule items ≡ None)

-- A well-formed axiom may follow anything. A well-formed rule that wants a proof may follow where a stored proof of it checks and all that this proof cites stands before.
abbrev pub RuleMayFollow : Entries → List ℕ → Statement → List Cited → Type 0
RuleMayFollow e rule s before =
    (is_well_formed e s ≡ true)
    × ((s.is_axiom ≡ true) ⊎ ((s.is_axiom ≡ false) × ((items : List Item) × HasCheckedProof e rule items × AllStand (cites items) before)))

-- the member may follow these in a derivation; no morphism does, as none is stored
abbrev pub MemberMayFollow : Entries → Cited → List Cited → Type 0
MemberMayFollow e (Rule rule) before = (s : Statement) × (finite.get e.rules rule ≡ Some s) × RuleMayFollow e rule s before
MemberMayFollow e (Morphism morphism) before = ⊥

-- the rule stands in some derivation
abbrev pub IsEstablished : Entries → List ℕ → Type 0
IsEstablished e rule = StandsInSome (MemberMayFollow e) (Rule rule)

-- P holds of all that can be derived in steps from axioms: of each well-formed axiom, and of each well-formed rule with a checked proof where it holds of all that the proof cites
pub record HoldsByRules (e : Entries) (P : Cited → Type 0) : Type 0 where
  pub of_axiom : (rule : List ℕ) (s : Statement) → finite.get e.rules rule ≡ Some s → is_well_formed e s ≡ true → s.is_axiom ≡ true → P (Rule rule)
  pub of_proof : (rule : List ℕ) (s : Statement) (items : List Item) → finite.get e.rules rule ≡ Some s → is_well_formed e s ≡ true → s.is_axiom ≡ false → HasCheckedProof e rule items
      → AllByRecursion P (cites items) → P (Rule rule)
