-- A store stays valid by each of its changes.
use Rattle.std.proofs.Common.{arith, ◌≡◌, ◌≤◌, ◌<◌, ◌+◌, ◌-◌, refl, sym, ap, subst, ◌∙◌, ℕ, Bool, true, false, cond, List, [], Some, None}
use Rattle.std.specs.Prelude.{Option, is_some}
use Rattle.std.specs.Option.{option_map_or}
use Rattle.std.specs.Ordering.{nat_cmp}
use Rattle.std.specs.Cmp.Lexicographic.{slice_cmp, nat_list_cmp_total}
use Rattle.std.specs.FinMap as finite
use Rattle.std.proofs.lemmas.Bool.{false≢true}
use Rattle.mu_tree.specs.Maps.{MapOf, NamesOf}
use Rattle.mu_tree.specs.declared.claim.Definition.{Definition}
use Rattle.mu_tree.proofs.MapLemmas.{inserted, contains_key-insert, left_by, get-remove_other}
use Rattle.mu_decl.specs.declared.declaration.ConstDecl.{ConstDecl}
use Rattle.mu_decl.specs.declared.declaration.Statement.{Statement}
use Rattle.mu_defs.specs.Base.{is_base, is_base_constant}
use Rattle.mu_defs.specs.Uses.{used_by}
use Rattle.mu_graph.specs.Circles.{IsAcyclic}
use Rattle.mu_graph.specs.Derivations.{Stands}
use Rattle.mu_graph.proofs.Decided.{circle_leaves}
use Rattle.mu_flat.proofs.ProofChanges.{are_none}
use Rattle.mu_graph.specs.Names.{led_by, members}
use Rattle.mu_flat.specs.Entries.{Entries, IsValid, IsPlain, IsTheory, initial, with_units, with_constants, with_definitions, with_rules, with_proofs}
use Rattle.mu_flat.specs.KeptProofs.{AreProofs}
use Rattle.mu_flat.specs.ProofTables.{ProofsOf}
use Rattle.mu_flat.specs.Stores.{IsEmptyUnit}

no_entry : {V : Type 0} (name : List ℕ) (value : V) → finite.get (finite.empty {X = V} {R = slice_cmp nat_cmp}) name ≡ Some value → ⊥
no_entry {V} name value is = let none : finite.get (finite.empty {X = V} {R = slice_cmp nat_cmp}) name ≡ None = finite.get-empty (slice_cmp nat_cmp) name in cc

no_key : (V : Type 0) (name : List ℕ) → finite.contains_key (finite.empty {X = V} {R = slice_cmp nat_cmp}) name ≡ true → ⊥
no_key V name is = false≢true (sym (ap is_some (finite.get-empty (slice_cmp nat_cmp) name)) ∙ is)

some_of : {V : Type 0} (o : Option V) → is_some o ≡ true → (v : V) × (o ≡ Some v)
some_of None is = absurd (false≢true is)
some_of (Some v) is = (v, refl)

-- a name that is left when another one is taken out was there
key_left : {V : Type 0} (table : MapOf V) (name q : List ℕ) → finite.contains_key (finite.remove table name) q ≡ true → (name ≡ q → ⊥) × (finite.contains_key table q ≡ true)
key_left table name q is =
    let found = some_of (finite.get (finite.remove table name) q) is in
    let left = left_by table name q found.0 found.1 in
    (left.0, ap is_some left.1)

-- and every other name stays
key_stays : {V : Type 0} (table : MapOf V) (name q : List ℕ) → (name ≡ q → ⊥) → finite.contains_key table q ≡ true → finite.contains_key (finite.remove table name) q ≡ true
key_stays table name q other is = ap is_some (get-remove_other table name q other) ∙ is

-- one more at most
len_inserted : {V : Type 0} (table : MapOf V) (name : List ℕ) (value : V) (most : ℕ) → finite.len table ≤ most → (finite.contains_key table name ≡ false → finite.len table < most) → finite.len (finite.insert table name value) ≤ most
len_inserted table name value most few room =
    subst (λ n. n ≤ most) (sym (finite.len-insert nat_list_cmp_total table name value)) (go (finite.contains_key table name) refl)
  where
    go : (there : Bool) → finite.contains_key table name ≡ there → cond there (finite.len table) (finite.len table + 1) ≤ most
    go true is = few
    go false is = let less : finite.len table < most = room is in omega arith

len_removed : {V : Type 0} (table : MapOf V) (name : List ℕ) (most : ℕ) → finite.len table ≤ most → finite.len (finite.remove table name) ≤ most
len_removed table name most few = subst (λ n. n ≤ most) (sym (finite.len-remove nat_list_cmp_total table name)) (go (finite.contains_key table name))
  where
    go : (there : Bool) → cond there (finite.len table - 1) (finite.len table) ≤ most
    go true = omega arith
    go false = few

none_acyclic : {V : Type 0} (links : V → List (List ℕ)) → IsAcyclic (led_by links finite.empty)
none_acyclic {V} links name on =
    let edge = circle_leaves (led_by links finite.empty) name on in
    subst (λ (found : Option V). Stands edge.0 (option_map_or links found [])) (finite.get-empty (slice_cmp nat_cmp) name) edge.1

no_length : (V : Type 0) (most : ℕ) → finite.len (finite.empty {X = V} {R = slice_cmp nat_cmp}) ≤ most
no_length V most = subst (λ n. n ≤ most) (sym (finite.len-empty (slice_cmp nat_cmp) V)) (omega arith)

pub valid_initial : IsValid initial
valid_initial = record {
  unit = λ name is. absurd (no_key NamesOf name is);
  constant = λ name declared is. absurd (no_entry name declared is);
  definition = λ name is. absurd (no_key Definition name is);
  rule = λ name statement is. absurd (no_entry name statement is);
  proofs = are_none;
  parents_acyclic = none_acyclic members;
  definitions_acyclic = none_acyclic used_by;
  few_units = no_length NamesOf 4096;
  few_constants = no_length ConstDecl 65536;
  few_rules = no_length Statement 65536;
}

module _ (e : Entries) (valid : IsValid e) where
  -- ---- units
  module _ (units : MapOf NamesOf) (keys : (name : List ℕ) → finite.contains_key e.units name ≡ true → finite.contains_key units name ≡ true)
      (declared : (name : List ℕ) → finite.contains_key units name ≡ true → IsPlain name × (is_base name ≡ false)) (acyclic : IsAcyclic (led_by members units)) (few : finite.len units ≤ 4096) where
    -- units among which all that were there are still
    pub valid_units : IsValid (with_units e units)
    valid_units = record {
      unit = declared;
      constant = λ name d is. let old = valid.constant name d is in (old.0, old.1, keys d.theory old.2);
      definition = valid.definition;
      rule = λ name s is. let old = valid.rule name s is in (old.0, keys s.theory old.1);
      proofs = valid.proofs;
      parents_acyclic = acyclic;
      definitions_acyclic = valid.definitions_acyclic;
      few_units = few;
      few_constants = valid.few_constants;
      few_rules = valid.few_rules;
    }

  -- another set of parents of a unit
  key_known : (unit : List ℕ) (parents : NamesOf) → finite.contains_key e.units unit ≡ true → (name : List ℕ) → finite.contains_key (finite.insert e.units unit parents) name ≡ true → finite.contains_key e.units name ≡ true
  key_known unit parents there name is =
      let found = some_of (finite.get (finite.insert e.units unit parents) name) is in
      inserted e.units unit parents (λ q w. finite.contains_key e.units q ≡ true) there (λ q w got. ap is_some got) name found.0 found.1

  -- a theory is added
  pub valid_unit_added : (name : List ℕ) → IsPlain name → is_base name ≡ false → finite.contains_key e.units name ≡ false → finite.len e.units < 4096 → IsAcyclic (led_by members (finite.insert e.units name finite.empty))
      → IsValid (with_units e (finite.insert e.units name finite.empty))
  valid_unit_added name plain other new room acyclic =
      valid_units (finite.insert e.units name finite.empty) (contains_key-insert e.units name finite.empty)
      (λ q is. let found = some_of (finite.get (finite.insert e.units name finite.empty) q) is in
      inserted e.units name finite.empty (λ r w. IsPlain r × (is_base r ≡ false)) (plain, other) (λ r w got. valid.unit r (ap is_some got)) q found.0 found.1)
      acyclic (len_inserted e.units name finite.empty 4096 valid.few_units (λ none. room))

  -- a theory that is there has other parents
  pub valid_parents : (unit : List ℕ) (parents : NamesOf) → finite.contains_key e.units unit ≡ true → IsAcyclic (led_by members (finite.insert e.units unit parents)) → IsValid (with_units e (finite.insert e.units unit parents))
  valid_parents unit parents there acyclic =
      valid_units (finite.insert e.units unit parents) (contains_key-insert e.units unit parents) (λ q is. valid.unit q (key_known unit parents there q is)) acyclic
      (len_inserted e.units unit parents 4096 valid.few_units (λ none. absurd (false≢true (sym none ∙ there))))

  -- a theory in which there is nothing is taken out
  pub valid_unit_taken : (name : List ℕ) → IsEmptyUnit e name → IsAcyclic (led_by members (finite.remove e.units name)) → IsValid (with_units e (finite.remove e.units name))
  valid_unit_taken name empty acyclic = record {
    unit = λ q is. valid.unit q (key_left e.units name q is).1;
    constant = λ q d is. let old = valid.constant q d is in (old.0, old.1, key_stays e.units name d.theory (λ same. empty.constants q d is (sym same)) old.2);
    definition = valid.definition;
    rule = λ q s is. let old = valid.rule q s is in (old.0, key_stays e.units name s.theory (λ same. empty.rules q s is (sym same)) old.1);
    proofs = valid.proofs;
    parents_acyclic = acyclic;
    definitions_acyclic = valid.definitions_acyclic;
    few_units = len_removed e.units name 4096 valid.few_units;
    few_constants = valid.few_constants;
    few_rules = valid.few_rules;
  }

  -- ---- constants
  -- a constant is declared, or used in another way
  pub valid_constant_put : (name : List ℕ) (declared : ConstDecl) → IsPlain name → is_base_constant name ≡ false → IsTheory e declared.theory → (finite.contains_key e.constants name ≡ false → finite.len e.constants < 65536)
      → IsValid (with_constants e (finite.insert e.constants name declared))
  valid_constant_put name declared plain other there room = record {
    unit = valid.unit;
    constant = inserted e.constants name declared (λ q d. IsPlain q × (is_base_constant q ≡ false) × IsTheory e d.theory) (plain, other, there) valid.constant;
    definition = λ q is. contains_key-insert e.constants name declared q (valid.definition q is);
    rule = valid.rule;
    proofs = valid.proofs;
    parents_acyclic = valid.parents_acyclic;
    definitions_acyclic = valid.definitions_acyclic;
    few_units = valid.few_units;
    few_constants = len_inserted e.constants name declared 65536 valid.few_constants room;
    few_rules = valid.few_rules;
  }

  -- a constant that has no definition is taken out
  pub valid_constant_taken : (name : List ℕ) → finite.contains_key e.definitions name ≡ false → IsValid (with_constants e (finite.remove e.constants name))
  valid_constant_taken name bare = record {
    unit = valid.unit;
    constant = λ q d is. valid.constant q d (left_by e.constants name q d is).1;
    definition = λ q is. key_stays e.constants name q (λ same. false≢true (sym bare ∙ ap (finite.contains_key e.definitions) same ∙ is)) (valid.definition q is);
    rule = valid.rule;
    proofs = valid.proofs;
    parents_acyclic = valid.parents_acyclic;
    definitions_acyclic = valid.definitions_acyclic;
    few_units = valid.few_units;
    few_constants = len_removed e.constants name 65536 valid.few_constants;
    few_rules = valid.few_rules;
  }

  -- ---- definitions
  -- definitions of constants that are there
  pub valid_definitions : (definitions : MapOf Definition) → ((name : List ℕ) → finite.contains_key definitions name ≡ true → finite.contains_key e.constants name ≡ true) → IsAcyclic (led_by used_by definitions)
      → IsValid (with_definitions e definitions)
  valid_definitions definitions known acyclic = record {
    unit = valid.unit;
    constant = valid.constant;
    definition = known;
    rule = valid.rule;
    proofs = valid.proofs;
    parents_acyclic = valid.parents_acyclic;
    definitions_acyclic = acyclic;
    few_units = valid.few_units;
    few_constants = valid.few_constants;
    few_rules = valid.few_rules;
  }

  -- a constant that is there is defined
  pub valid_defined : (name : List ℕ) (definition : Definition) → finite.contains_key e.constants name ≡ true → IsAcyclic (led_by used_by (finite.insert e.definitions name definition))
      → IsValid (with_definitions e (finite.insert e.definitions name definition))
  valid_defined name definition there acyclic = valid_definitions (finite.insert e.definitions name definition)
      (λ q is. let found = some_of (finite.get (finite.insert e.definitions name definition) q) is in
      inserted e.definitions name definition (λ r d. finite.contains_key e.constants r ≡ true) there (λ r d got. valid.definition r (ap is_some got)) q found.0 found.1) acyclic

  -- a definition is taken from a constant
  pub valid_undefined : (name : List ℕ) → IsAcyclic (led_by used_by (finite.remove e.definitions name)) → IsValid (with_definitions e (finite.remove e.definitions name))
  valid_undefined name acyclic = valid_definitions (finite.remove e.definitions name) (λ q is. valid.definition q (key_left e.definitions name q is).1) acyclic

  -- ---- rules
  -- rules that stand in theories
  pub valid_rules : (rules : MapOf Statement) → ((name : List ℕ) (statement : Statement) → finite.get rules name ≡ Some statement → IsPlain name × IsTheory e statement.theory) → finite.len rules ≤ 65536 → IsValid (with_rules e rules)
  valid_rules rules stated few = record {
    unit = valid.unit;
    constant = valid.constant;
    definition = valid.definition;
    rule = stated;
    proofs = valid.proofs;
    parents_acyclic = valid.parents_acyclic;
    definitions_acyclic = valid.definitions_acyclic;
    few_units = valid.few_units;
    few_constants = valid.few_constants;
    few_rules = few;
  }

  -- a rule is stated, or has another claim
  pub valid_rule_put : (name : List ℕ) (statement : Statement) → IsPlain name → IsTheory e statement.theory → (finite.contains_key e.rules name ≡ false → finite.len e.rules < 65536) → IsValid (with_rules e (finite.insert e.rules name statement))
  valid_rule_put name statement plain there room = valid_rules (finite.insert e.rules name statement)
      (inserted e.rules name statement (λ q s. IsPlain q × IsTheory e s.theory) (plain, there) valid.rule) (len_inserted e.rules name statement 65536 valid.few_rules room)

  -- a rule is taken out
  pub valid_rule_taken : (name : List ℕ) → IsValid (with_rules e (finite.remove e.rules name))
  valid_rule_taken name = valid_rules (finite.remove e.rules name) (λ q s is. valid.rule q s (left_by e.rules name q s is).1) (len_removed e.rules name 65536 valid.few_rules)

  -- ---- proofs
  -- proofs as a store has them
  pub valid_proofs : (proofs : ProofsOf) → AreProofs proofs → IsValid (with_proofs e proofs)
  valid_proofs proofs are = record {
    unit = valid.unit;
    constant = valid.constant;
    definition = valid.definition;
    rule = valid.rule;
    proofs = are;
    parents_acyclic = valid.parents_acyclic;
    definitions_acyclic = valid.definitions_acyclic;
    few_units = valid.few_units;
    few_constants = valid.few_constants;
    few_rules = valid.few_rules;
  }
