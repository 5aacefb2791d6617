-- When a command is refused, and what it changes.
use Rattle.std.specs.Prelude.{◌≡◌, ◌||◌, nat_le, ℕ, Bool, true, false, if◌then◌else◌, List, [], ◌∷◌, Option, Some, None, Result, Ok, Err, is_some}
use Rattle.std.specs.Option.{option_map, option_map_or, option_or}
use Rattle.std.specs.FinMap as finite
use Rattle.mu_tree.specs.Maps.{MapOf}
use Rattle.mu_tree.specs.declared.claim.Claim.{Claim}
use Rattle.mu_tree.specs.declared.claim.Kind.{Kind}
use Rattle.mu_tree.specs.declared.claim.Shape.{Shape}
use Rattle.mu_tree.specs.declared.refusal.CountWord.{CountWord}
use Rattle.mu_tree.specs.declared.refusal.CountWord.TheVariants.{Theories, Constants, Rules, Proofs}
use Rattle.mu_tree.specs.declared.refusal.Refusal.{Refusal}
use Rattle.mu_tree.specs.declared.refusal.Refusal.TheVariants.{Unknown, Taken, Builtin, NotEmpty, Circle, TooMany}
use Rattle.mu_proof.specs.declared.items.Item.{Item}
use Rattle.mu_proof.specs.declared.items.Item.TheVariants as item
use Rattle.mu_decl.specs.declared.declaration.ConstDecl.{ConstDecl}
use Rattle.mu_decl.specs.declared.declaration.Statement.{Statement}
use Rattle.mu_defs.specs.Base.{is_base, is_base_constant}
use Rattle.mu_defs.specs.DefinitionTables.{first_constant}
use Rattle.mu_defs.specs.declared.fault.CircleFault.{CircleFault}
use Rattle.mu_defs.specs.declared.fault.CircleFault.TheVariants as circle
use Rattle.mu_defs.specs.Owned.{is_used}
use Rattle.mu_defs.specs.Units.{first_unit, is_parent, with_parent, without_parent}
use Rattle.mu_flat.specs.declared.edits.EditFault.{EditFault}
use Rattle.mu_flat.specs.declared.edits.EditFault.TheVariants as fault
use Rattle.mu_flat.specs.declared.proof_edits.ProofEdit.{ProofEdit}
use Rattle.mu_flat.specs.declared.proof_edits.ProofEdit.TheVariants as edit
use Rattle.mu_flat.specs.ProofTables.{count_proofs, proof_at, with_edit_at, with_proof, with_reason_at, without_proof}
use Rattle.mu_flat.specs.Edits.{box_refusal, circle_refusal, edit_refusal, line_refusal, place_refusal}
use Rattle.mu_flat.specs.Entries.{Entries, with_constants, with_definitions, with_proofs, with_rules, with_units}
use Rattle.mu_command.specs.declared.command.Command.{Command}
use Rattle.mu_command.specs.declared.command.Command.TheVariants as command
use Rattle.mu_edit.specs.Distinct.{repeated_in_claim, repeated_in_item, repeated_in_reason, repeated_name, repeated_variable}

-- the first of some reasons to refuse
abbrev pub first_of : List (Option Refusal) → Option Refusal
first_of [] = None
first_of (reason ∷ reasons) = option_or reason (first_of reasons)

-- a name must be there
abbrev pub unknown_unless : Bool → List ℕ → Option Refusal
unknown_unless there name = if there then None else Some (Unknown name)

-- a new name must not be there
abbrev pub taken_where : Bool → List ℕ → Option Refusal
taken_where there name = if there then Some (Taken name) else None

-- what the base theory has stays as it is
abbrev pub builtin_where : Bool → List ℕ → Option Refusal
builtin_where base name = if base then Some (Builtin name) else None

-- what holds something is not dropped
abbrev pub not_empty_where : Bool → List ℕ → Option Refusal
not_empty_where held name = if held then Some (NotEmpty name) else None

-- one more would be more than there may be, where there are so many
abbrev pub too_many : CountWord → ℕ → ℕ → Option Refusal
too_many word most count = if nat_le most count then Some (TooMany word) else None

-- a theory, the base theory among them, is there
abbrev pub has_unit : Entries → List ℕ → Bool
has_unit e unit = finite.contains_key e.units unit || is_base unit

-- a constant, those of the base theory among them, is there
abbrev pub has_constant : Entries → List ℕ → Bool
has_constant e name = finite.contains_key e.constants name || is_base_constant name

-- a constant has a definition or is one of the base theory, whose constants stay as they are
abbrev pub has_definition : Entries → List ℕ → Bool
has_definition e name = finite.contains_key e.definitions name || is_base_constant name

-- a constant or a rule stands in a unit
abbrev pub holds_something : Entries → List ℕ → Bool
holds_something e unit = is_used (λ declared. declared.theory) e.constants unit || is_used (λ statement. statement.theory) e.rules unit

-- why a rule can't be stated in a theory
abbrev pub stated_refusal : Entries → List ℕ → List ℕ → Claim → Option Refusal
stated_refusal e unit rule claim = first_of (
    unknown_unless (has_unit e unit) unit
    ∷ taken_where (finite.contains_key e.rules rule) rule
    ∷ repeated_in_claim claim
    ∷ builtin_where (is_base unit) unit
    ∷ too_many Rules 65536 (finite.len e.rules)
    ∷ [])

-- why a constant can't be declared in a theory
abbrev pub constant_refusal : Entries → List ℕ → List ℕ → Option Refusal
constant_refusal e unit name = first_of (
    unknown_unless (has_unit e unit) unit
    ∷ taken_where (finite.contains_key e.constants name) name
    ∷ builtin_where (is_base unit) unit
    ∷ builtin_where (is_base_constant name) name
    ∷ too_many Constants 65536 (finite.len e.constants)
    ∷ [])

-- why a constant can't be changed
abbrev pub constant_change_refusal : Entries → List ℕ → Option Refusal
constant_change_refusal e name = first_of (
    unknown_unless (has_constant e name) name
    ∷ builtin_where (is_base_constant name) name
    ∷ [])

-- why an item can't be put into a block of a proof: its place and its labels, then a variable that stands twice, then how much there may be
abbrev pub put_refusal : Entries → List ℕ → List ℕ → List ℕ → Option (List ℕ) → Item → Option Refusal
put_refusal e rule proof block before new = first_of (
    place_refusal e.proofs rule proof block before new
    ∷ repeated_in_item new
    ∷ edit_refusal e.proofs rule proof (edit.Insert block before new)
    ∷ [])

-- why a command is refused: the first reason that fits. A query is not refused here.
unfoldable pub refusal : Entries → Command → Option Refusal
refusal e (command.Theory unit) = first_of (
    taken_where (finite.contains_key e.units unit) unit
    ∷ builtin_where (is_base unit) unit
    ∷ too_many Theories 4096 (finite.len e.units)
    ∷ [])
refusal e (command.Parent unit parent) = first_of (
    unknown_unless (has_unit e unit) unit
    ∷ taken_where (is_parent e.units unit parent) parent
    ∷ builtin_where (is_base unit) unit
    ∷ option_map Circle (first_unit (with_parent e.units unit parent))
    ∷ [])
refusal e (command.Unparent unit parent) = first_of (
    unknown_unless (has_unit e unit) unit
    ∷ unknown_unless (is_parent e.units unit parent) parent
    ∷ builtin_where (is_base unit) unit
    ∷ [])
refusal e (command.Const unit name shape result) = constant_refusal e unit name
refusal e (command.AlterConst name shape result) = constant_change_refusal e name
refusal e (command.Define name definition) = first_of (
    unknown_unless (has_constant e name) name
    ∷ repeated_name definition.params
    ∷ builtin_where (is_base_constant name) name
    ∷ option_map Circle (first_constant (finite.insert e.definitions name definition))
    ∷ [])
refusal e (command.Undefine name) = first_of (
    unknown_unless (has_definition e name) name
    ∷ builtin_where (is_base_constant name) name
    ∷ [])
refusal e (command.Axiom unit rule claim) = stated_refusal e unit rule claim
refusal e (command.Rule unit rule claim) = stated_refusal e unit rule claim
refusal e (command.AlterRule rule claim) = first_of (
    unknown_unless (finite.contains_key e.rules rule) rule
    ∷ repeated_in_claim claim
    ∷ [])
refusal e (command.Proof rule proof) = first_of (
    taken_where (is_some (proof_at e.proofs rule proof)) proof
    ∷ too_many Proofs 65536 (count_proofs e.proofs)
    ∷ [])
refusal e (command.Line rule proof label block before tree) = edit_refusal e.proofs rule proof (edit.Insert block before (item.Line label tree None))
refusal e (command.Box rule proof label block before vars assumptions) = put_refusal e rule proof block before (item.Block label vars assumptions [])
refusal e (command.AlterLine rule proof label tree) = edit_refusal e.proofs rule proof (edit.SetTree label tree)
refusal e (command.AlterBox rule proof label vars assumptions) = first_of (
    box_refusal e.proofs rule proof label
    ∷ repeated_variable vars
    ∷ [])
refusal e (command.Move rule proof label block before) = edit_refusal e.proofs rule proof (edit.Move label block before)
refusal e (command.Cite rule proof label why) = first_of (
    line_refusal e.proofs rule proof label
    ∷ repeated_in_reason why
    ∷ circle_refusal e.proofs rule proof label why
    ∷ [])
refusal e (command.Unjustify rule proof label) = edit_refusal e.proofs rule proof (edit.ClearReason label)
refusal e (command.DropUnit unit) = first_of (
    unknown_unless (has_unit e unit) unit
    ∷ builtin_where (is_base unit) unit
    ∷ not_empty_where (holds_something e unit) unit
    ∷ [])
refusal e (command.DropConst name) = first_of (
    unknown_unless (has_constant e name) name
    ∷ builtin_where (is_base_constant name) name
    ∷ not_empty_where (finite.contains_key e.definitions name) name
    ∷ [])
refusal e (command.DropRule rule) = unknown_unless (finite.contains_key e.rules rule) rule
refusal e (command.DropProof rule proof) = unknown_unless (is_some (proof_at e.proofs rule proof)) proof
refusal e (command.DropItem rule proof label) = edit_refusal e.proofs rule proof (edit.Remove label)
refusal e _ = None

-- the constant that was found, used in another way: its theory stays
abbrev pub altered_constant : Shape → Kind → ConstDecl → ConstDecl
altered_constant shape result declared = record declared { shape = shape; result = result }

-- the rule that was found, with another claim: its theory stays, and whether it is an axiom
abbrev pub altered_rule : Claim → Statement → Statement
altered_rule claim statement = record statement { claim = claim }

-- a map with the value of a name changed, where it has one
abbrev pub with_change : {V : Type 0} → MapOf V → List ℕ → (V → V) → MapOf V
with_change map name change = option_map_or (λ found. finite.insert map name (change found)) (finite.get map name) map

-- the store with an edit of one of its proofs made
abbrev pub with_edit : Entries → List ℕ → List ℕ → ProofEdit → Entries
with_edit e rule proof change = with_proofs e (with_edit_at e.proofs rule proof change)

-- the store after a command that is not refused; a query leaves it
unfoldable pub changed : Entries → Command → Entries
changed e (command.Theory unit) = with_units e (finite.insert e.units unit finite.empty)
changed e (command.Parent unit parent) = with_units e (with_parent e.units unit parent)
changed e (command.Unparent unit parent) = with_units e (without_parent e.units unit parent)
changed e (command.Const unit name shape result) = with_constants e (finite.insert e.constants name (record { theory = unit; shape = shape; result = result }))
changed e (command.AlterConst name shape result) = with_constants e (with_change e.constants name (altered_constant shape result))
changed e (command.Define name definition) = with_definitions e (finite.insert e.definitions name definition)
changed e (command.Undefine name) = with_definitions e (finite.remove e.definitions name)
changed e (command.Axiom unit rule claim) = with_rules e (finite.insert e.rules rule (record { theory = unit; is_axiom = true; claim = claim }))
changed e (command.Rule unit rule claim) = with_rules e (finite.insert e.rules rule (record { theory = unit; is_axiom = false; claim = claim }))
changed e (command.AlterRule rule claim) = with_rules e (with_change e.rules rule (altered_rule claim))
changed e (command.Proof rule proof) = with_proofs e (with_proof e.proofs rule proof [])
changed e (command.Line rule proof label block before tree) = with_edit e rule proof (edit.Insert block before (item.Line label tree None))
changed e (command.Box rule proof label block before vars assumptions) = with_edit e rule proof (edit.Insert block before (item.Block label vars assumptions []))
changed e (command.AlterLine rule proof label tree) = with_edit e rule proof (edit.SetTree label tree)
changed e (command.AlterBox rule proof label vars assumptions) = with_edit e rule proof (edit.SetHead label vars assumptions)
changed e (command.Move rule proof label block before) = with_edit e rule proof (edit.Move label block before)
changed e (command.Cite rule proof label why) = with_proofs e (with_reason_at e.proofs rule proof label (Some why))
changed e (command.Unjustify rule proof label) = with_edit e rule proof (edit.ClearReason label)
changed e (command.DropUnit unit) = with_units e (finite.remove e.units unit)
changed e (command.DropConst name) = with_constants e (finite.remove e.constants name)
changed e (command.DropRule rule) = with_rules e (finite.remove e.rules rule)
changed e (command.DropProof rule proof) = with_proofs e (without_proof e.proofs rule proof)
changed e (command.DropItem rule proof label) = with_edit e rule proof (edit.Remove label)
changed e _ = e

-- what is told of circles: that there is none, or the first name on one, or that memory ran out
abbrev pub TellsCircle : Option (List ℕ) → Result (Unit {0}) CircleFault → Type 0
TellsCircle first (Ok done) = first ≡ None
TellsCircle first (Err (circle.Circle name)) = first ≡ Some name
TellsCircle first (Err circle.NoMemory) = Unit {0}

-- what a test tells: that nothing refuses, or the reason, or that memory ran out
abbrev pub Tests : Option Refusal → Result (Unit {0}) EditFault → Type 0
Tests reason (Ok done) = reason ≡ None
Tests reason (Err (fault.Refused refused)) = reason ≡ Some refused
Tests reason (Err fault.NoMemory) = Unit {0}

-- What a change leads to: it is made where nothing refuses it, or it is refused, or memory ran out; in these the store is as it was.
abbrev pub Does : Entries → Entries → Option Refusal → Entries → Result (Unit {0}) EditFault → Type 0
Does old new refused after (Ok done) = (refused ≡ None) × (new ≡ after)
Does old new refused after (Err (fault.Refused reason)) = (refused ≡ Some reason) × (new ≡ old)
Does old new refused after (Err fault.NoMemory) = new ≡ old

-- what carrying out a command leads to
abbrev pub Applies : Entries → Entries → Command → Result (Unit {0}) EditFault → Type 0
Applies old new c result = Does old new (refusal old c) (changed old c) result
