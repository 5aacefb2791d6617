-- A command that is carried out leaves a valid store.
use Rattle.std.proofs.Common.{◌≡◌, inl, inr, refl, sym, ap, subst, ◌∙◌, ℕ, Bool, true, false, List, [], ◌∷◌, Some, None}
use Rattle.std.specs.Prelude.{Option, is_some}
use Rattle.std.specs.Option.{option_map_or}
use Rattle.std.specs.FinMap as finite
use Rattle.std.proofs.lemmas.Bool.{false≢true}
use Rattle.mu_tree.specs.declared.claim.Claim.{Claim}
use Rattle.mu_tree.specs.declared.claim.Definition.{Definition}
use Rattle.mu_tree.specs.declared.claim.Kind.{Kind}
use Rattle.mu_tree.specs.declared.claim.Shape.{Shape}
use Rattle.mu_tree.specs.declared.refusal.CountWord.TheVariants.{Rules}
use Rattle.mu_defs.specs.Base.{is_base}
use Rattle.mu_edit.specs.Distinct.{repeated_in_claim}
use Rattle.mu_tree.specs.declared.refusal.Refusal.{Refusal}
use Rattle.mu_decl.specs.declared.declaration.ConstDecl.{ConstDecl}
use Rattle.mu_decl.specs.declared.declaration.Statement.{Statement}
use Rattle.mu_proof.specs.declared.items.Item.{Item}
use Rattle.mu_proof.specs.declared.items.Item.TheVariants as item
use Rattle.mu_flat.specs.Entries.{Entries, IsPlain, IsTheory, IsValid, with_constants, with_rules}
use Rattle.mu_flat.specs.ProofEdits.{PutsOpen}
use Rattle.mu_flat.specs.declared.proof_edits.ProofEdit.{ProofEdit}
use Rattle.mu_flat.specs.declared.proof_edits.ProofEdit.TheVariants as edit
use Rattle.mu_command.specs.declared.command.Command.{Command}
use Rattle.mu_command.specs.declared.command.Command.TheVariants as command
use Rattle.mu_edit.specs.Changes.{refusal, changed, first_of, unknown_unless, taken_where, builtin_where, too_many, has_unit, stated_refusal, altered_constant, altered_rule, with_change, with_edit}
use Rattle.mu_edit.specs.Storable.{IsStorable}
use Rattle.mu_edit.proofs.TestLemmas.{first, second, is_there, is_new, is_own, is_bare, either_own, no_circle, is_room, empty_unit}
use Rattle.mu_flat.proofs.Keeping.{unit_added, unit_taken, parent_added, parent_taken, defined, undefined}
use Rattle.mu_flat.proofs.ProofChanges.{are_added, are_taken}
use Rattle.mu_flat.proofs.ProofKeeping.{are_edited, are_cited}
use Rattle.mu_flat.proofs.Validity.{valid_constant_put, valid_constant_taken, valid_rule_put, valid_rule_taken, valid_proofs}

module _ (e : Entries) (valid : IsValid e) where
  unit_valid : (unit : List ℕ) → IsPlain unit → refusal e (command.Theory unit) ≡ None → IsValid (changed e (command.Theory unit))
  unfolding refusal changed
  unit_valid unit plain free =
      let new = first _ _ free in
      let rest = second _ _ free in
      unit_added e valid unit plain (is_own _ _ (first _ _ rest)) (is_new _ _ new) (is_room _ _ _ (first _ _ (second _ _ rest)))

  parent_valid : (unit parent : List ℕ) → refusal e (command.Parent unit parent) ≡ None → IsValid (changed e (command.Parent unit parent))
  unfolding refusal changed
  parent_valid unit parent free =
      let there = is_there _ _ (first _ _ free) in
      let rest = second _ _ (second _ _ free) in
      parent_added e valid unit parent (either_own _ _ there (is_own _ _ (first _ _ rest))) (no_circle _ (first _ _ (second _ _ rest)))

  unparent_valid : (unit parent : List ℕ) → refusal e (command.Unparent unit parent) ≡ None → IsValid (changed e (command.Unparent unit parent))
  unfolding refusal changed
  unparent_valid unit parent free =
      parent_taken e valid unit parent (either_own _ _ (is_there _ _ (first _ _ free)) (is_own _ _ (first _ _ (second _ _ (second _ _ free)))))

  constant_valid : (unit name : List ℕ) (shape : Shape) (kind : Kind) → IsPlain name → refusal e (command.Const unit name shape kind) ≡ None → IsValid (changed e (command.Const unit name shape kind))
  unfolding refusal changed
  constant_valid unit name shape kind plain free =
      let rest = second _ _ (second _ _ free) in
      valid_constant_put e valid name (record { theory = unit; shape = shape; result = kind }) plain (is_own _ _ (first _ _ (second _ _ rest)))
      (either_own _ _ (is_there _ _ (first _ _ free)) (is_own _ _ (first _ _ rest))) (λ none. is_room _ _ _ (first _ _ (second _ _ (second _ _ rest))))

  -- what is found at a name is changed
  alter_valid : (name : List ℕ) (change : ConstDecl → ConstDecl) → ((declared : ConstDecl) → (change declared).theory ≡ declared.theory) → IsValid (with_constants e (with_change e.constants name change))
  alter_valid name change same = go (finite.get e.constants name) refl
    where
      go : (found : Option ConstDecl) → finite.get e.constants name ≡ found → IsValid (with_constants e (option_map_or (λ declared. finite.insert e.constants name (change declared)) found e.constants))
      go None is = valid
      go (Some declared) is =
          let old = valid.constant name declared is in
          valid_constant_put e valid name (change declared) old.0 old.1 (subst (IsTheory e) (sym (same declared)) old.2) (λ none. absurd (false≢true (sym none ∙ ap is_some is)))

  alter_rule_valid : (name : List ℕ) (change : Statement → Statement) → ((statement : Statement) → (change statement).theory ≡ statement.theory) → IsValid (with_rules e (with_change e.rules name change))
  alter_rule_valid name change same = go (finite.get e.rules name) refl
    where
      go : (found : Option Statement) → finite.get e.rules name ≡ found → IsValid (with_rules e (option_map_or (λ statement. finite.insert e.rules name (change statement)) found e.rules))
      go None is = valid
      go (Some statement) is =
          let old = valid.rule name statement is in
          valid_rule_put e valid name (change statement) old.0 (subst (IsTheory e) (sym (same statement)) old.1) (λ none. absurd (false≢true (sym none ∙ ap is_some is)))

  define_valid : (name : List ℕ) (d : Definition) → refusal e (command.Define name d) ≡ None → IsValid (changed e (command.Define name d))
  unfolding refusal changed
  define_valid name d free =
      let rest = second _ _ (second _ _ free) in
      defined e valid name d (either_own _ _ (is_there _ _ (first _ _ free)) (is_own _ _ (first _ _ rest))) (no_circle _ (first _ _ (second _ _ rest)))

  state_valid : (unit rule : List ℕ) (claim : Claim) (axiom_ : Bool) → IsPlain rule → stated_refusal e unit rule claim ≡ None
      → IsValid (with_rules e (finite.insert e.rules rule (record { theory = unit; is_axiom = axiom_; claim = claim })))
  state_valid unit rule claim axiom_ plain free =
      let there : Option Refusal = unknown_unless (has_unit e unit) unit in
      let new : Option Refusal = taken_where (finite.contains_key e.rules rule) rule in
      let own : Option Refusal = builtin_where (is_base unit) unit in
      let room : Option Refusal = too_many Rules 65536 (finite.len e.rules) in
      let rest = second (repeated_in_claim claim) (first_of (own ∷ room ∷ [])) (second new (first_of (repeated_in_claim claim ∷ own ∷ room ∷ [])) (second there (first_of (new ∷ repeated_in_claim claim ∷ own ∷ room ∷ [])) free)) in
      valid_rule_put e valid rule (record { theory = unit; is_axiom = axiom_; claim = claim }) plain
      (either_own (finite.contains_key e.units unit) (is_base unit) (is_there (has_unit e unit) unit (first there (first_of (new ∷ repeated_in_claim claim ∷ own ∷ room ∷ [])) free)) (is_own (is_base unit) unit (first own (first_of (room ∷ [])) rest)))
      (λ none. is_room Rules 65536 (finite.len e.rules) (first room None (second own (first_of (room ∷ [])) rest)))

  drop_unit_valid : (unit : List ℕ) → refusal e (command.DropUnit unit) ≡ None → IsValid (changed e (command.DropUnit unit))
  unfolding refusal changed
  drop_unit_valid unit free =
      unit_taken e valid unit (empty_unit e unit (is_bare _ _ (first _ _ (second _ _ (second _ _ free)))))

  drop_constant_valid : (name : List ℕ) → refusal e (command.DropConst name) ≡ None → IsValid (changed e (command.DropConst name))
  unfolding refusal changed
  drop_constant_valid name free = valid_constant_taken e valid name (is_bare _ _ (first _ _ (second _ _ (second _ _ free))))

  -- what puts an item in puts in an open one
  edit_valid : (rule proof : List ℕ) (change : ProofEdit) → PutsOpen change → IsValid (with_edit e rule proof change)
  edit_valid rule proof change opens = valid_proofs e valid _ (are_edited e.proofs rule proof valid.proofs change opens)

  pub changed_valid : (c : Command) → IsStorable c → refusal e c ≡ None → IsValid (changed e c)
  unfolding refusal changed
  changed_valid (command.Theory unit) plain free = unit_valid unit plain free
  changed_valid (command.Parent unit parent) plain free = parent_valid unit parent free
  changed_valid (command.Unparent unit parent) plain free = unparent_valid unit parent free
  changed_valid (command.Const unit name shape kind) plain free = constant_valid unit name shape kind plain free
  changed_valid (command.AlterConst name shape kind) plain free = alter_valid name (altered_constant shape kind) (λ declared. refl)
  changed_valid (command.Define name d) plain free = define_valid name d free
  changed_valid (command.Undefine name) plain free = undefined e valid name
  changed_valid (command.Axiom unit rule claim) plain free = state_valid unit rule claim true plain free
  changed_valid (command.Rule unit rule claim) plain free = state_valid unit rule claim false plain free
  changed_valid (command.AlterRule rule claim) plain free = alter_rule_valid rule (altered_rule claim) (λ statement. refl)
  changed_valid (command.Proof rule proof) plain free = valid_proofs e valid _ (are_added e.proofs rule proof valid.proofs plain (no_proof _ (is_new _ _ (first _ _ free))) (is_room _ _ _ (first _ _ (second _ _ free))))
    where
      no_proof : (found : Option (List Item)) → is_some found ≡ false → found ≡ None
      no_proof None is = refl
      no_proof (Some items) is = cc
  changed_valid (command.Line rule proof label block before tree) plain free = edit_valid rule proof (edit.Insert block before (item.Line label tree None)) (inl (label, tree, refl))
  changed_valid (command.Box rule proof label block before vars assumptions) plain free = edit_valid rule proof (edit.Insert block before (item.Block label vars assumptions [])) (inr (label, vars, assumptions, refl))
  changed_valid (command.AlterLine rule proof label tree) plain free = edit_valid rule proof (edit.SetTree label tree) tt
  changed_valid (command.AlterBox rule proof label vars assumptions) plain free = edit_valid rule proof (edit.SetHead label vars assumptions) tt
  changed_valid (command.Move rule proof label block before) plain free = edit_valid rule proof (edit.Move label block before) tt
  changed_valid (command.Cite rule proof label why) plain free = valid_proofs e valid _ (are_cited e.proofs rule proof valid.proofs label why (first _ _ (second _ _ (second _ _ free))))
  changed_valid (command.Unjustify rule proof label) plain free = edit_valid rule proof (edit.ClearReason label) tt
  changed_valid (command.DropUnit unit) plain free = drop_unit_valid unit free
  changed_valid (command.DropConst name) plain free = drop_constant_valid name free
  changed_valid (command.DropRule rule) plain free = valid_rule_taken e valid rule
  changed_valid (command.DropProof rule proof) plain free = valid_proofs e valid _ (are_taken e.proofs rule proof valid.proofs)
  changed_valid (command.DropItem rule proof label) plain free = edit_valid rule proof (edit.Remove label) tt
  changed_valid _ plain free = valid
