-- A command of the language that is carried out leaves a sound store.
use Rattle.std.proofs.Common.{◌≡◌, inl, inr, refl, sym, ap, subst, ◌∙◌, ℕ, Bool, true, false, List, [], Some, None}
use Rattle.std.specs.Prelude.{Option, is_some, option_and_then}
use Rattle.std.specs.Ordering.{nat_cmp}
use Rattle.std.specs.Cmp.Lexicographic.{slice_cmp}
use Rattle.std.specs.Option.{option_map, option_map_or, option_or}
use Rattle.std.specs.FinMap as finite
use Rattle.std.proofs.lemmas.Bool.{false≢true}
use Rattle.mu_tree.specs.Maps.{MapOf, NamesOf}
use Rattle.mu_tree.specs.declared.claim.Claim.{Claim}
use Rattle.mu_tree.specs.declared.claim.Definition.{Definition}
use Rattle.mu_tree.specs.declared.claim.TypedVar.{TypedVar}
use Rattle.mu_tree.specs.declared.refusal.CountWord.TheVariants as count
use Rattle.mu_tree.specs.declared.refusal.Refusal.{Refusal}
use Rattle.mu_tree.specs.declared.refusal.Refusal.TheVariants.{TooMany, Unknown}
use Rattle.mu_tree.specs.declared.trees.Tree.{Tree}
use Rattle.mu_tree.proofs.MapLemmas.{inserted, left_by}
use Rattle.mu_decl.specs.declared.declaration.ConstDecl.{ConstDecl}
use Rattle.mu_decl.specs.declared.declaration.Statement.{Statement}
use Rattle.mu_defs.specs.Units.{parents_in, with_parent, without_parent}
use Rattle.mu_graph.specs.Derivations.{Stands}
use Rattle.mu_proof.specs.Edits.{altered, removed}
use Rattle.mu_proof.specs.Edits as edits
use Rattle.mu_proof.specs.Proofs.{IsProof, before_fault, block_fault, boxes_fault, insert_fault, items_fault, place_fault, room_fault, taken_fault, unless}
use Rattle.mu_proof.specs.declared.alteration.Alteration.TheVariants as alteration
use Rattle.mu_proof.specs.declared.fault.ProofFault.{ProofFault}
use Rattle.mu_proof.specs.declared.fault.ProofFault.TheVariants as fault
use Rattle.mu_proof.specs.declared.items.Item.{Item}
use Rattle.mu_proof.specs.declared.items.Item.TheFolds.{fold-roll-Item}
use Rattle.mu_proof.specs.declared.items.Item.TheOpen.{Block}
use Rattle.mu_proof.specs.declared.items.Item.TheVariants as item
use Rattle.mu_proof.proofs.KeepLemmas.{altered_proof, removed_proof}
use Rattle.mu_proof.proofs.ProofLemmas.{faultless, no_items}
use Rattle.mu_flat.specs.Edits.{edit_refusal, refusal_in, refused_by}
use Rattle.mu_flat.specs.Entries.{Entries, IsValid, initial, with_constants, with_definitions, with_proofs, with_rules, with_units}
use Rattle.mu_flat.specs.ProofEdits.{fault_of, item_at, made, moving, moving_fault}
use Rattle.mu_flat.specs.ProofTables.{ProofsOf, proof_at, with_change_at, with_change_in, with_edit_at, with_proof}
use Rattle.mu_flat.specs.declared.proof_edits.ProofEdit.{ProofEdit}
use Rattle.mu_flat.specs.declared.proof_edits.ProofEdit.TheVariants as edit
use Rattle.mu_flat.proofs.ProofChanges.{put_known, taken_known}
use Rattle.mu_flat.proofs.ProofTables.{proof_at-with_proof}
use Rattle.mu_flat.proofs.Validity.{valid_initial}
use Rattle.mu_command.specs.declared.command.Command.{Command}
use Rattle.mu_command.specs.declared.command.Command.TheVariants as command
use Rattle.mu_command.specs.Language.{IsCommand}
use Rattle.mu_edit.specs.Changes.{altered_constant, altered_rule, changed, refusal, stated_refusal, with_edit}
use Rattle.mu_edit.specs.Distinct.{repeated_in_claim, repeated_in_item, repeated_name, repeated_step, repeated_variable}
use Rattle.mu_edit.proofs.TestLemmas.{either_own, first, is_own, is_there, second}
use Rattle.mu_edit.proofs.Valid.{changed_valid}
use Rattle.mu_machine.specs.Parts.{Part, Label, Expression, Reason, Head, IsSpoken, RepeatsNone, StandsIn, item_parts, parts}
use Rattle.mu_machine.specs.Sound.{Claims, Declares, IsSound}
use Rattle.mu_machine.proofs.PartEdits.{brought, made_parts, parts-block, parts-line, reasoned_parts}
use Rattle.mu_machine.proofs.Storable.{storable}

-- ---- what each sort of entry has, whatever the store
abbrev UnitSo : List ℕ → NamesOf → Type 0
UnitSo unit parents = IsCommand (command.Theory unit) × ((parent : List ℕ) → finite.contains_key parents parent ≡ true → IsCommand (command.Parent unit parent))

abbrev ConstantSo : List ℕ → ConstDecl → Type 0
ConstantSo name declared = (c : Command) × IsCommand c × Declares c name declared

abbrev DefinitionSo : List ℕ → Definition → Type 0
DefinitionSo name d = IsCommand (command.Define name d) × (repeated_name d.params ≡ None)

abbrev RuleSo : List ℕ → Statement → Type 0
RuleSo rule s = (repeated_in_claim s.claim ≡ None) × ((c : Command) × IsCommand c × Claims c rule s.claim)

abbrev ItemsSo : List Item → Type 0
ItemsSo items = IsProof items × ((part : Part) → Stands part (parts items) → IsSpoken part)

abbrev ProofSo : List ℕ → List ℕ → List Item → Type 0
ProofSo rule proof items = IsCommand (command.Proof rule proof) × ItemsSo items

-- all entries of a map have what those of their sort have
abbrev All : {V : Type 0} → (List ℕ → V → Type 0) → MapOf V → Type 0
All {V} So map = (name : List ℕ) (value : V) → finite.get map name ≡ Some value → So name value

abbrev AllProofs : ProofsOf → Type 0
AllProofs proofs = (rule proof : List ℕ) (items : List Item) → proof_at proofs rule proof ≡ Some items → ProofSo rule proof items

-- the parts of a sound store, map by map
record Sorts (e : Entries) : Type 0 where
  units : All UnitSo e.units
  constants : All ConstantSo e.constants
  definitions : All DefinitionSo e.definitions
  rules : All RuleSo e.rules
  proofs : AllProofs e.proofs

sorts_of : (e : Entries) → IsSound e → Sorts e
sorts_of e sound = record {
  units = λ unit parents is. (sound.unit unit parents is, sound.parent unit parents is);
  constants = sound.constant;
  definitions = sound.definition;
  rules = sound.rule;
  proofs = λ rule proof items is. (sound.proof rule proof items is, (sound.items rule proof items is, sound.part rule proof items is));
}

sound_of : (e : Entries) → IsValid e → Sorts e → IsSound e
sound_of e valid sorts = record {
  valid = valid;
  unit = λ unit parents is. (sorts.units unit parents is).0;
  parent = λ unit parents is. (sorts.units unit parents is).1;
  constant = sorts.constants;
  definition = sorts.definitions;
  rule = sorts.rules;
  proof = λ rule proof items is. (sorts.proofs rule proof items is).0;
  items = λ rule proof items is. (sorts.proofs rule proof items is).1.0;
  part = λ rule proof items is. (sorts.proofs rule proof items is).1.1;
}

-- ---- maps
none_in : {V : Type 0} (So : List ℕ → V → Type 0) → All So finite.empty
none_in {V} So name value is = let none : finite.get (finite.empty {X = V} {R = slice_cmp nat_cmp}) name ≡ None = finite.get-empty (slice_cmp nat_cmp) name in cc

put_in : {V : Type 0} (So : List ℕ → V → Type 0) (map : MapOf V) (name : List ℕ) (value : V) → All So map → So name value → All So (finite.insert map name value)
put_in So map name value all here = inserted map name value So here all

left_in : {V : Type 0} (So : List ℕ → V → Type 0) (map : MapOf V) (name : List ℕ) → All So map → All So (finite.remove map name)
left_in So map name all q value is = all q value (left_by map name q value is).1

-- what is found at a name is changed
changed_in : {V : Type 0} (So : List ℕ → V → Type 0) (map : MapOf V) (name : List ℕ) (change : V → V) → All So map → ((value : V) → So name value → So name (change value))
    → All So (option_map_or (λ found. finite.insert map name (change found)) (finite.get map name) map)
changed_in {V} So map name change all still = go (finite.get map name) refl
  where
    go : (found : Option V) → finite.get map name ≡ found → All So (option_map_or (λ value. finite.insert map name (change value)) found map)
    go None is = all
    go (Some value) is = put_in So map name (change value) all (still value (all name value is))

-- ---- theories
-- the parents of a unit are as such
parents_so : (units : MapOf NamesOf) → All UnitSo units → (unit parent : List ℕ) → finite.contains_key (parents_in units unit) parent ≡ true → IsCommand (command.Parent unit parent)
parents_so units all unit parent = go (finite.get units unit) refl
  where
    go : (found : Option NamesOf) → finite.get units unit ≡ found → finite.contains_key (option_map_or (λ (names : NamesOf). names) found finite.empty) parent ≡ true → IsCommand (command.Parent unit parent)
    go None is has = absurd (false≢true (sym (ap is_some (finite.get-empty (slice_cmp nat_cmp) parent)) ∙ has))
    go (Some parents) is has = (all unit parents is).1 parent has

-- a unit that is there is called so by a command
called : (units : MapOf NamesOf) → All UnitSo units → (unit : List ℕ) → finite.contains_key units unit ≡ true → IsCommand (command.Theory unit)
called units all unit = go (finite.get units unit) refl
  where
    go : (found : Option NamesOf) → finite.get units unit ≡ found → is_some found ≡ true → IsCommand (command.Theory unit)
    go None is there = absurd (false≢true there)
    go (Some parents) is there = (all unit parents is).0

some_there : {V : Type 0} (found : Option V) → is_some found ≡ true → (value : V) × (found ≡ Some value)
some_there None there = absurd (false≢true there)
some_there (Some value) there = (value, refl)

-- a name that is there with one more was there, or is this one
one_more : (names : NamesOf) (name q : List ℕ) (P : List ℕ → Type 0) → P name → ((p : List ℕ) → finite.contains_key names p ≡ true → P p) → finite.contains_key (finite.insert names name tt) q ≡ true → P q
one_more names name q P here there has =
    let found = some_there (finite.get (finite.insert names name tt) q) has in
    inserted names name tt (λ p _. P p) here (λ p _ is. there p (ap is_some is)) q found.0 found.1

one_less : (names : NamesOf) (name q : List ℕ) (P : List ℕ → Type 0) → ((p : List ℕ) → finite.contains_key names p ≡ true → P p) → finite.contains_key (finite.remove names name) q ≡ true → P q
one_less names name q P there has =
    let found = some_there (finite.get (finite.remove names name) q) has in
    there q (ap is_some (left_by names name q found.0 found.1).1)

-- ---- proofs
put_proof : (proofs : ProofsOf) (rule proof : List ℕ) (items : List Item) → AllProofs proofs → ProofSo rule proof items → AllProofs (with_proof proofs rule proof items)
put_proof proofs rule proof items all here r p found is = elim (put_known proofs rule proof items r p found is) [
  | inl same ↦
      let at : proof_at (with_proof proofs rule proof items) rule proof ≡ Some found =
      subst (λ (name : List ℕ). proof_at (with_proof proofs rule proof items) rule name ≡ Some found) (sym same.1)
      (subst (λ (name : List ℕ). proof_at (with_proof proofs rule proof items) name p ≡ Some found) (sym same.0) is) in
      let one : items ≡ found = some_same (sym (proof_at-with_proof proofs rule proof items) ∙ at) in
      subst (λ (name : List ℕ). ProofSo name p found) same.0 (subst (λ (name : List ℕ). ProofSo rule name found) same.1 (subst (ProofSo rule proof) one here))
  | inr old ↦ all r p found old
]
  where
    some_same : {A : Type 0} {a b : A} → Some a ≡ Some b → a ≡ b
    some_same e = cc

-- the items of a proof that is there are changed
change_proof : (proofs : ProofsOf) (rule proof : List ℕ) (change : List Item → List Item) → AllProofs proofs → ((items : List Item) → proof_at proofs rule proof ≡ Some items → ItemsSo items → ItemsSo (change items)) → AllProofs (with_change_at proofs rule proof change)
change_proof proofs rule proof change all still = go (proof_at proofs rule proof) refl
  where
    go : (found : Option (List Item)) → proof_at proofs rule proof ≡ found → AllProofs (with_change_in proofs rule proof change found)
    go None is = all
    go (Some items) is = let old = all rule proof items is in put_proof proofs rule proof (change items) all (old.0, still items is old.1)

-- ---- faults
-- where a fault is told as no refusal, there is none
abbrev IsTold : Option ProofFault → Type 0
IsTold found = option_and_then refused_by found ≡ None → found ≡ None

told_unless : (passes : Bool) (blame : ProofFault) (refused : Refusal) → refused_by blame ≡ Some refused → IsTold (unless passes blame)
told_unless true blame refused is none = refl
told_unless false blame refused is none = absurd (some_none (sym is ∙ none))
  where
    some_none : {A : Type 0} {a : A} → Some a ≡ None → ⊥
    some_none e = cc

told_or : (a b : Option ProofFault) → IsTold a → IsTold b → IsTold (option_or a b)
told_or None b first_one other none = other none
told_or (Some blame) b first_one other none = absurd (some_none (first_one none))
  where
    some_none : {A : Type 0} {a : A} → Some a ≡ None → ⊥
    some_none e = cc

told_taken : (found : Option (List ℕ)) → IsTold (option_map fault.Taken found)
told_taken None none = refl
told_taken (Some label) none = cc

told_before : (items : List Item) (block : List ℕ) (before : Option (List ℕ)) → IsTold (before_fault items block before)
told_before items block None = λ none. refl
told_before items block (Some before) = told_unless _ (fault.Unknown before) (Unknown before) refl

told_insert : (items : List Item) (block : List ℕ) (before : Option (List ℕ)) (new : Item) → IsTold (insert_fault items block before new)
told_insert items block before new =
    told_or (place_fault items block before new) (room_fault (edits.inserted items block before new))
    (told_or (block_fault items block) (option_or (before_fault items block before) (taken_fault items new)) (told_unless _ (fault.Unknown block) (Unknown block) refl)
    (told_or (before_fault items block before) (taken_fault items new) (told_before items block before) (told_taken _)))
    (told_or (boxes_fault (edits.inserted items block before new)) (items_fault (edits.inserted items block before new)) (told_unless _ fault.Boxes (TooMany count.Boxes) refl) (told_unless _ fault.Items (TooMany count.Items) refl))

-- ---- edits
-- an edit that is not refused leaves items as a proof may have them
made_proof : (change : ProofEdit) (items : List Item) → IsProof items → option_and_then refused_by (fault_of change items) ≡ None → IsProof (made change items)
made_proof (edit.Insert block before new) items is free = faultless items block before new is (told_insert items block before new free)
made_proof (edit.SetTree label tree) items is free = altered_proof label (alteration.Tree tree) items is
made_proof (edit.SetHead label vars assumptions) items is free = altered_proof label (alteration.Head vars assumptions) items is
made_proof (edit.Move label block before) items is free = go (item_at items label) free
  where
    go : (found : Option Item) → option_and_then refused_by (moving_fault items label block before found) ≡ None → IsProof (moving items label block before found)
    go None free = is
    go (Some found) free = faultless (removed items label) block before found (removed_proof items is label) (told_insert (removed items label) block before found free)
made_proof (edit.ClearReason label) items is free = altered_proof label (alteration.Why None) items is
made_proof (edit.Remove label) items is free = removed_proof items is label

edit_proof : (proofs : ProofsOf) (rule proof : List ℕ) (change : ProofEdit) → AllProofs proofs → ((items : List Item) → IsProof items → proof_at proofs rule proof ≡ Some items → IsProof (made change items))
    → ((part : Part) → Stands part (brought change) → IsSpoken part) → AllProofs (with_edit_at proofs rule proof change)
edit_proof proofs rule proof change all kept spoken =
    change_proof proofs rule proof (made change) all (λ items there so. (kept items so.0 there, λ part s. elim (made_parts change items part s) [ inl t ↦ spoken part t | inr t ↦ so.1 part t ]))

-- one that is not refused
free_edit : (proofs : ProofsOf) (rule proof : List ℕ) (change : ProofEdit) → edit_refusal proofs rule proof change ≡ None → (items : List Item) → IsProof items → proof_at proofs rule proof ≡ Some items → IsProof (made change items)
free_edit proofs rule proof change free items is there = made_proof change items is (sym (ap (refusal_in proof (fault_of change)) there) ∙ free)

-- ---- what a command brings
module _ (c : Command) (language : IsCommand c) where
  spoken : (part to : Part) → StandsIn part c → RepeatsNone part → part ≡ to → IsSpoken to
  spoken part to stands none same = subst IsSpoken same (none, (c, language, stands))

line_brings : (rule proof label block : List ℕ) (before : Option (List ℕ)) (tree : Tree) → IsCommand (command.Line rule proof label block before tree) → (to : Part) → Stands to (item_parts (item.Line label tree None)) → IsSpoken to
line_brings rule proof label block before tree language to s =
    let c = command.Line rule proof label block before tree in
    elim (subst (Stands to) (parts-line label tree None) s) [
      | inl e ↦ spoken c language (Label label) to refl tt e
      | inr t ↦ elim t [ inl e ↦ spoken c language (Expression tree) to refl tt e | inr none ↦ absurd none ]
    ]

box_brings : (rule proof label block : List ℕ) (before : Option (List ℕ)) (vars : List TypedVar) (assumptions : List Tree) → IsCommand (command.Box rule proof label block before vars assumptions) → repeated_variable vars ≡ None
    → (to : Part) → Stands to (item_parts (item.Block label vars assumptions [])) → IsSpoken to
box_brings rule proof label block before vars assumptions language none to s =
    let c = command.Box rule proof label block before vars assumptions in
    elim (subst (Stands to) (parts-block label vars assumptions []) s) [
      | inl e ↦ spoken c language (Label label) to refl tt e
      | inr t ↦ elim t [ inl e ↦ spoken c language (Head vars assumptions) to (refl, refl) none e | inr nothing ↦ absurd nothing ]
    ]

-- a box repeats what its head does
head_repeats : (label : List ℕ) (vars : List TypedVar) (assumptions : List Tree) → repeated_in_item (item.Block label vars assumptions []) ≡ repeated_variable vars
head_repeats label vars assumptions = ap repeated_in_item (sym (item.rolls-Block label vars assumptions [])) ∙ fold-roll-Item (Option Refusal) repeated_step (Block label vars assumptions [])

-- ---- commands
module _ (e : Entries) (sorts : Sorts e) where
  units_so : (units : MapOf NamesOf) → All UnitSo units → Sorts (with_units e units)
  units_so units so = record { units = so; constants = sorts.constants; definitions = sorts.definitions; rules = sorts.rules; proofs = sorts.proofs }

  constants_so : (constants : MapOf ConstDecl) → All ConstantSo constants → Sorts (with_constants e constants)
  constants_so constants so = record { units = sorts.units; constants = so; definitions = sorts.definitions; rules = sorts.rules; proofs = sorts.proofs }

  definitions_so : (definitions : MapOf Definition) → All DefinitionSo definitions → Sorts (with_definitions e definitions)
  definitions_so definitions so = record { units = sorts.units; constants = sorts.constants; definitions = so; rules = sorts.rules; proofs = sorts.proofs }

  rules_so : (rules : MapOf Statement) → All RuleSo rules → Sorts (with_rules e rules)
  rules_so rules so = record { units = sorts.units; constants = sorts.constants; definitions = sorts.definitions; rules = so; proofs = sorts.proofs }

  proofs_so : (proofs : ProofsOf) → AllProofs proofs → Sorts (with_proofs e proofs)
  proofs_so proofs so = record { units = sorts.units; constants = sorts.constants; definitions = sorts.definitions; rules = sorts.rules; proofs = so }

  with_edit_so : (rule proof : List ℕ) (change : ProofEdit) → ((items : List Item) → IsProof items → proof_at e.proofs rule proof ≡ Some items → IsProof (made change items))
      → ((part : Part) → Stands part (brought change) → IsSpoken part) → Sorts (with_edit e rule proof change)
  with_edit_so rule proof change kept brings = proofs_so _ (edit_proof e.proofs rule proof change sorts.proofs kept brings)

  theory_so : (unit : List ℕ) → IsCommand (command.Theory unit) → All UnitSo (finite.insert e.units unit finite.empty)
  theory_so unit language = put_in UnitSo e.units unit finite.empty sorts.units (language, λ parent has. absurd (false≢true (sym (ap is_some (finite.get-empty (slice_cmp nat_cmp) parent)) ∙ has)))

  parent_so : (unit parent : List ℕ) → IsCommand (command.Parent unit parent) → finite.contains_key e.units unit ≡ true → All UnitSo (with_parent e.units unit parent)
  parent_so unit parent language there =
      put_in UnitSo e.units unit (finite.insert (parents_in e.units unit) parent tt) sorts.units
      (called e.units sorts.units unit there, λ q has. one_more (parents_in e.units unit) parent q (λ p. IsCommand (command.Parent unit p)) language (parents_so e.units sorts.units unit) has)

  unparent_so : (unit parent : List ℕ) → finite.contains_key e.units unit ≡ true → All UnitSo (without_parent e.units unit parent)
  unparent_so unit parent there =
      put_in UnitSo e.units unit (finite.remove (parents_in e.units unit) parent) sorts.units
      (called e.units sorts.units unit there, λ q has. one_less (parents_in e.units unit) parent q (λ p. IsCommand (command.Parent unit p)) (parents_so e.units sorts.units unit) has)

  -- a rule is stated
  state_so : (unit rule : List ℕ) (claim : Claim) (axiom_ : Bool) (c : Command) → IsCommand c → Claims c rule claim → stated_refusal e unit rule claim ≡ None → All RuleSo (finite.insert e.rules rule (record { theory = unit; is_axiom = axiom_; claim = claim }))
  state_so unit rule claim axiom_ c language says free =
      put_in RuleSo e.rules rule (record { theory = unit; is_axiom = axiom_; claim = claim }) sorts.rules (first _ _ (second _ _ (second _ _ free)), (c, language, says))

  changed_sorts : (c : Command) → IsCommand c → refusal e c ≡ None → Sorts (changed e c)
  unfolding refusal changed
  changed_sorts (command.Theory unit) language free = units_so _ (theory_so unit language)
  changed_sorts (command.Parent unit parent) language free =
      units_so _ (parent_so unit parent language (either_own _ _ (is_there _ _ (first _ _ free)) (is_own _ _ (first _ _ (second _ _ (second _ _ free))))))
  changed_sorts (command.Unparent unit parent) language free =
      units_so _ (unparent_so unit parent (either_own _ _ (is_there _ _ (first _ _ free)) (is_own _ _ (first _ _ (second _ _ (second _ _ free))))))
  changed_sorts (command.Const unit name shape kind) language free =
      constants_so _ (put_in ConstantSo e.constants name (record { theory = unit; shape = shape; result = kind }) sorts.constants (command.Const unit name shape kind, language, (refl, refl, refl)))
  changed_sorts (command.AlterConst name shape kind) language free =
      constants_so _ (changed_in ConstantSo e.constants name (altered_constant shape kind) sorts.constants (λ declared old. (command.AlterConst name shape kind, language, (refl, refl, refl))))
  changed_sorts (command.Define name d) language free = definitions_so _ (put_in DefinitionSo e.definitions name d sorts.definitions (language, first _ _ (second _ _ free)))
  changed_sorts (command.Undefine name) language free = definitions_so _ (left_in DefinitionSo e.definitions name sorts.definitions)
  changed_sorts (command.Axiom unit rule claim) language free = rules_so _ (state_so unit rule claim true (command.Axiom unit rule claim) language (refl, refl) free)
  changed_sorts (command.Rule unit rule claim) language free = rules_so _ (state_so unit rule claim false (command.Rule unit rule claim) language (refl, refl) free)
  changed_sorts (command.AlterRule rule claim) language free =
      rules_so _ (changed_in RuleSo e.rules rule (altered_rule claim) sorts.rules (λ statement old. (first _ _ (second _ _ free), (command.AlterRule rule claim, language, (refl, refl)))))
  changed_sorts (command.Proof rule proof) language free = proofs_so _ (put_proof e.proofs rule proof [] sorts.proofs (language, (no_items, λ part s. absurd s)))
  changed_sorts (command.Line rule proof label block before tree) language free =
      with_edit_so rule proof (edit.Insert block before (item.Line label tree None)) (free_edit e.proofs rule proof (edit.Insert block before (item.Line label tree None)) free) (line_brings rule proof label block before tree language)
  changed_sorts (command.Box rule proof label block before vars assumptions) language free =
      let rest = second _ _ free in
      with_edit_so rule proof (edit.Insert block before (item.Block label vars assumptions []))
      (free_edit e.proofs rule proof (edit.Insert block before (item.Block label vars assumptions [])) (first _ _ (second _ _ rest)))
      (box_brings rule proof label block before vars assumptions language (sym (head_repeats label vars assumptions) ∙ first _ _ rest))
  changed_sorts (command.AlterLine rule proof label tree) language free =
      with_edit_so rule proof (edit.SetTree label tree) (λ items is there. altered_proof label (alteration.Tree tree) items is)
      (λ to s. elim s [ inl same ↦ spoken (command.AlterLine rule proof label tree) language (Expression tree) to refl tt same | inr none ↦ absurd none ])
  changed_sorts (command.AlterBox rule proof label vars assumptions) language free =
      with_edit_so rule proof (edit.SetHead label vars assumptions) (λ items is there. altered_proof label (alteration.Head vars assumptions) items is)
      (λ to s. elim s [ inl same ↦ spoken (command.AlterBox rule proof label vars assumptions) language (Head vars assumptions) to (refl, refl) (first _ _ (second _ _ free)) same | inr none ↦ absurd none ])
  changed_sorts (command.Move rule proof label block before) language free =
      with_edit_so rule proof (edit.Move label block before) (free_edit e.proofs rule proof (edit.Move label block before) free) (λ to s. absurd s)
  changed_sorts (command.Cite rule proof label why) language free =
      proofs_so _ (change_proof e.proofs rule proof (λ items. altered items label (alteration.Why (Some why))) sorts.proofs (λ items there so. (
        altered_proof label (alteration.Why (Some why)) items so.0,
        λ to s. elim (reasoned_parts label why items to s) [
          | inl t ↦ elim t [ inl same ↦ spoken (command.Cite rule proof label why) language (Reason why) to refl (first _ _ (second _ _ free)) same | inr none ↦ absurd none ]
          | inr t ↦ so.1 to t
        ],
      )))
  changed_sorts (command.Unjustify rule proof label) language free =
      with_edit_so rule proof (edit.ClearReason label) (λ items is there. altered_proof label (alteration.Why None) items is) (λ to s. absurd s)
  changed_sorts (command.DropUnit unit) language free = units_so _ (left_in UnitSo e.units unit sorts.units)
  changed_sorts (command.DropConst name) language free = constants_so _ (left_in ConstantSo e.constants name sorts.constants)
  changed_sorts (command.DropRule rule) language free = rules_so _ (left_in RuleSo e.rules rule sorts.rules)
  changed_sorts (command.DropProof rule proof) language free = proofs_so _ (λ r p items is. sorts.proofs r p items (taken_known e.proofs rule proof r p items is))
  changed_sorts (command.DropItem rule proof label) language free =
      with_edit_so rule proof (edit.Remove label) (λ items is there. removed_proof items is label) (λ to s. absurd s)
  changed_sorts _ language free = sorts

pub changed_sound : (e : Entries) (c : Command) → IsCommand c → refusal e c ≡ None → IsSound e → IsSound (changed e c)
changed_sound e c language free sound = sound_of (changed e c) (changed_valid e sound.valid c (storable c language) free) (changed_sorts e (sorts_of e sound) c language free)

-- a store that nothing was put into is sound
none_proved : AllProofs finite.empty
none_proved rule proof items is = absurd (some_none (sym is ∙ ap (λ (o : Option (MapOf (List Item))). finite.get (option_map_or (λ (own : MapOf (List Item)). own) o finite.empty) proof) (finite.get-empty (slice_cmp nat_cmp) rule) ∙ finite.get-empty (slice_cmp nat_cmp) proof))
  where
    some_none : {A : Type 0} {a : A} → Some a ≡ None → ⊥
    some_none e = cc

pub sound_initial : IsSound initial
sound_initial = sound_of initial valid_initial (record { units = none_in UnitSo; constants = none_in ConstantSo; definitions = none_in DefinitionSo; rules = none_in RuleSo; proofs = none_proved })
