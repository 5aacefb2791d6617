-- What a store is that commands of the language have put together.
use Rattle.std.specs.Prelude.{◌≡◌, ℕ, true, List, Some, None}
use Rattle.std.specs.FinMap as finite
use Rattle.mu_tree.specs.Maps.{NamesOf}
use Rattle.mu_tree.specs.declared.claim.Claim.{Claim}
use Rattle.mu_tree.specs.declared.claim.Definition.{Definition}
use Rattle.mu_decl.specs.declared.declaration.ConstDecl.{ConstDecl}
use Rattle.mu_decl.specs.declared.declaration.Statement.{Statement}
use Rattle.mu_graph.specs.Derivations.{Stands}
use Rattle.mu_proof.specs.Proofs.{IsProof}
use Rattle.mu_proof.specs.declared.items.Item.{Item}
use Rattle.mu_flat.specs.Entries.{Entries, IsValid}
use Rattle.mu_flat.specs.ProofTables.{proof_at}
use Rattle.mu_command.specs.declared.command.Command.{Command}
use Rattle.mu_command.specs.declared.command.Command.TheVariants as command
use Rattle.mu_command.specs.Language.{IsCommand}
use Rattle.mu_edit.specs.Distinct.{repeated_in_claim, repeated_name}
use Rattle.mu_machine.specs.Parts.{Part, IsSpoken, parts}

-- the command says that the constant of this name is used so
abbrev pub Declares : Command → List ℕ → ConstDecl → Type 0
Declares (command.Const unit c shape result) name declared = (c ≡ name) × (shape ≡ declared.shape) × (result ≡ declared.result)
Declares (command.AlterConst c shape result) name declared = (c ≡ name) × (shape ≡ declared.shape) × (result ≡ declared.result)
Declares _ name declared = ⊥

-- the command says that the rule of this name has the claim
abbrev pub Claims : Command → List ℕ → Claim → Type 0
Claims (command.Axiom unit r stated) rule claim = (r ≡ rule) × (stated ≡ claim)
Claims (command.Rule unit r stated) rule claim = (r ≡ rule) × (stated ≡ claim)
Claims (command.AlterRule r stated) rule claim = (r ≡ rule) × (stated ≡ claim)
Claims _ rule claim = ⊥

-- The store is valid; each part of it stands in a command of the language; each proof has items as a proof may have them, with labels of their own; and no claim, no definition and no part of a proof repeats a name where it may stand once.
pub record IsSound (e : Entries) : Type 0 where
  pub valid : IsValid e
  pub unit : (unit : List ℕ) (parents : NamesOf) → finite.get e.units unit ≡ Some parents → IsCommand (command.Theory unit)
  pub parent : (unit : List ℕ) (parents : NamesOf) → finite.get e.units unit ≡ Some parents → (parent : List ℕ) → finite.contains_key parents parent ≡ true → IsCommand (command.Parent unit parent)
  pub constant : (name : List ℕ) (declared : ConstDecl) → finite.get e.constants name ≡ Some declared → (c : Command) × IsCommand c × Declares c name declared
  pub definition : (name : List ℕ) (d : Definition) → finite.get e.definitions name ≡ Some d → IsCommand (command.Define name d) × (repeated_name d.params ≡ None)
  pub rule : (rule : List ℕ) (statement : Statement) → finite.get e.rules rule ≡ Some statement → (repeated_in_claim statement.claim ≡ None) × ((c : Command) × IsCommand c × Claims c rule statement.claim)
  pub proof : (rule proof : List ℕ) (items : List Item) → proof_at e.proofs rule proof ≡ Some items → IsCommand (command.Proof rule proof)
  pub items : (rule proof : List ℕ) (items : List Item) → proof_at e.proofs rule proof ≡ Some items → IsProof items
  pub part : (rule proof : List ℕ) (items : List Item) → proof_at e.proofs rule proof ≡ Some items → (part : Part) → Stands part (parts items) → IsSpoken part
