-- What a store holds, what a check sees of it, and when it is valid.
use Rattle.std.specs.Prelude.{◌≡◌, ◌≤◌, ℕ, true, false, List, Some}
use Rattle.std.specs.FinMap as finite
use Rattle.mu_tree.specs.Maps.{MapOf, NamesOf}
use Rattle.mu_tree.specs.Names.{is_segment}
use Rattle.mu_tree.specs.declared.claim.Definition.{Definition}
use Rattle.mu_decl.specs.Contexts.{World}
use Rattle.mu_decl.specs.declared.declaration.ConstDecl.{ConstDecl}
use Rattle.mu_decl.specs.declared.declaration.Statement.{Statement}
use Rattle.mu_graph.specs.Circles.{IsAcyclic}
use Rattle.mu_graph.specs.Names.{led_by, members}
use Rattle.mu_defs.specs.Base.{is_base, is_base_constant, with_base}
use Rattle.mu_defs.specs.Sight.{parent_lists, seen_from}
use Rattle.mu_defs.specs.Uses.{used_by}
use Rattle.mu_flat.specs.KeptProofs.{AreProofs}
use Rattle.mu_flat.specs.ProofTables.{ProofsOf}

-- a store as finite maps by name
pub record Entries : Type 0 where
  -- the theories, each with its parents
  pub units : MapOf NamesOf
  -- the constants that were declared
  pub constants : MapOf ConstDecl
  -- the definitions of declared constants
  pub definitions : MapOf Definition
  -- the axioms and the rules that want a proof
  pub rules : MapOf Statement
  -- the proofs, by the name of their rule, which needn't be there, and their own
  pub proofs : ProofsOf

-- a store that nothing was put into
abbrev pub initial : Entries
initial = record { units = finite.empty; constants = finite.empty; definitions = finite.empty; rules = finite.empty; proofs = finite.empty }

-- what a check may look up: the store with the base theory, and what is seen by its parents
abbrev pub world_of : Entries → World
world_of e = record {
  parents = parent_lists e.units;
  constants = with_base e.constants;
  definitions = e.definitions;
  rules = e.rules;
  morphisms = finite.empty;
  seen = seen_from e.units;
}

-- a theory of this name is stored
abbrev pub IsTheory : Entries → List ℕ → Type 0
IsTheory e theory = finite.contains_key e.units theory ≡ true

-- a name that may be declared has one segment
abbrev pub IsPlain : List ℕ → Type 0
IsPlain name = is_segment name ≡ true

-- the store with these units in place of its own
abbrev pub with_units : Entries → MapOf NamesOf → Entries
with_units e units = record e { units = units }

-- the store with these constants in place of its own
abbrev pub with_constants : Entries → MapOf ConstDecl → Entries
with_constants e constants = record e { constants = constants }

-- the store with these definitions in place of its own
abbrev pub with_definitions : Entries → MapOf Definition → Entries
with_definitions e definitions = record e { definitions = definitions }

-- the store with these rules in place of its own
abbrev pub with_rules : Entries → MapOf Statement → Entries
with_rules e rules = record e { rules = rules }

-- the store with these proofs in place of its own
abbrev pub with_proofs : Entries → ProofsOf → Entries
with_proofs e proofs = record e { proofs = proofs }

-- Declared names are plain, and none is of the base theory; each constant and each rule stands in a theory that is there, and each definition is of a constant that is there; nothing leads back to itself, units by parents, constants by definitions, rules by citations; and there is no more of each than there may be.
pub record IsValid (e : Entries) : Type 0 where
  pub unit : (name : List ℕ) → IsTheory e name → IsPlain name × (is_base name ≡ false)
  pub constant : (name : List ℕ) (declared : ConstDecl) → finite.get e.constants name ≡ Some declared → IsPlain name × (is_base_constant name ≡ false) × IsTheory e declared.theory
  pub definition : (name : List ℕ) → finite.contains_key e.definitions name ≡ true → finite.contains_key e.constants name ≡ true
  pub rule : (name : List ℕ) (statement : Statement) → finite.get e.rules name ≡ Some statement → IsPlain name × IsTheory e statement.theory
  pub proofs : AreProofs e.proofs
  pub parents_acyclic : IsAcyclic (led_by members e.units)
  pub definitions_acyclic : IsAcyclic (led_by used_by e.definitions)
  pub few_units : finite.len e.units ≤ 4096
  pub few_constants : finite.len e.constants ≤ 65536
  pub few_rules : finite.len e.rules ≤ 65536
