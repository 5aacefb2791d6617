-- A store keeps what it has to keep: one lemma for each change.
use Rattle.std.proofs.Common.{◌≡◌, ◌<◌, ℕ, false, true, List, None}
use Rattle.std.specs.FinMap as finite
use Rattle.mu_tree.specs.declared.claim.Definition.{Definition}
use Rattle.mu_defs.specs.Base.{is_base}
use Rattle.mu_defs.specs.DefinitionTables.{first_constant}
use Rattle.mu_defs.specs.Units.{first_unit, with_parent, without_parent}
use Rattle.mu_defs.proofs.UnitLemmas.{free_acyclic, added_acyclic, taken_acyclic, lost_acyclic}
use Rattle.mu_defs.proofs.DefinitionLemmas as definition
use Rattle.mu_flat.specs.Entries.{Entries, IsValid, IsPlain, IsTheory, with_units, with_definitions}
use Rattle.mu_flat.specs.Stores.{IsEmptyUnit}
use Rattle.mu_flat.proofs.Validity.{valid_unit_added, valid_parents, valid_unit_taken, valid_defined, valid_undefined}

module _ (e : Entries) (valid : IsValid e) where
  pub unit_added : (name : List ℕ) → IsPlain name → is_base name ≡ false → finite.contains_key e.units name ≡ false → finite.len e.units < 4096 → IsValid (with_units e (finite.insert e.units name finite.empty))
  unit_added name plain other new room = valid_unit_added e valid name plain other new room (added_acyclic e.units valid.parents_acyclic name)

  pub unit_taken : (name : List ℕ) → IsEmptyUnit e name → IsValid (with_units e (finite.remove e.units name))
  unit_taken name empty = valid_unit_taken e valid name empty (taken_acyclic e.units valid.parents_acyclic name)

  pub parent_added : (unit parent : List ℕ) → IsTheory e unit → first_unit (with_parent e.units unit parent) ≡ None → IsValid (with_units e (with_parent e.units unit parent))
  parent_added unit parent there free = valid_parents e valid unit _ there (free_acyclic e.units unit parent free)

  pub parent_taken : (unit parent : List ℕ) → IsTheory e unit → IsValid (with_units e (without_parent e.units unit parent))
  parent_taken unit parent there = valid_parents e valid unit _ there (lost_acyclic e.units valid.parents_acyclic unit parent)

  pub defined : (name : List ℕ) (d : Definition) → finite.contains_key e.constants name ≡ true → first_constant (finite.insert e.definitions name d) ≡ None → IsValid (with_definitions e (finite.insert e.definitions name d))
  defined name d there free = valid_defined e valid name d there (definition.free_acyclic (finite.insert e.definitions name d) free)

  pub undefined : (name : List ℕ) → IsValid (with_definitions e (finite.remove e.definitions name))
  undefined name = valid_undefined e valid name (definition.taken_acyclic e.definitions valid.definitions_acyclic name)
