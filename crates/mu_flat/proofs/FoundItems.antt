-- Items that are found by their labels.
use Rattle.std.proofs.Common.{◌≡◌, inl, inr, refl, ap, subst, ◌∙◌, cond, find, ℕ, Bool, true, false, List, [], ◌∷◌, None, Some}
use Rattle.std.specs.Prelude.{◌&&◌, ◌||◌, Option}
use Rattle.std.specs.List.{list_any}
use Rattle.std.specs.Option.{option_map_or}
use Rattle.std.proofs.lemmas.Bool.{false≢true}
use Rattle.mu_graph.specs.Derivations.{Stands}
use Rattle.mu_graph.proofs.DerivationLemmas.{some_any}
use Rattle.mu_proof.specs.declared.fault.ProofFault.{ProofFault}
use Rattle.mu_proof.specs.declared.fault.ProofFault.TheVariants as fault
use Rattle.mu_proof.specs.declared.items.Item.{Item}
use Rattle.mu_proof.specs.declared.items.Item.TheOpen.{Item-F, Line, Block}
use Rattle.mu_proof.specs.declared.items.Item.TheVariants as item
use Rattle.mu_proof.specs.declared.items.Item.TheViews.{out-Item, roll-Item, roll-out-Item}
use Rattle.mu_proof.specs.Items.{has_label, is_line, is_line_at, all_items}
use Rattle.mu_proof.specs.Proofs.{unless, is_label, is_line_label, line_fault, remove_fault}
use Rattle.mu_proof.proofs.ItemEquations.{is_line-line}
use Rattle.mu_flat.specs.ProofEdits.{has_reason, has_reason_step, item_at, moving_fault}

none_found : (test : Item → Bool) (items : List Item) → list_any test items ≡ false → find test items ≡ None
none_found test [] is = refl
none_found test (i ∷ items) is = go (test i) (none_found test items) is
  where
    go : (b : Bool) → (list_any test items ≡ false → find test items ≡ None) → (b || list_any test items) ≡ false → cond b (Some i) (find test items) ≡ None
    go true rest e = cc
    go false rest e = rest e

-- what can't be taken out can't be moved, for the same reason
pub absent_moves : (items : List Item) (label block : List ℕ) (before : Option (List ℕ)) (blame : ProofFault) → remove_fault items label ≡ Some blame → moving_fault items label block before (item_at items label) ≡ Some blame
absent_moves items label block before blame = go (is_label items label) refl
  where
    go : (b : Bool) → is_label items label ≡ b → unless b (fault.Unknown label) ≡ Some blame → moving_fault items label block before (item_at items label) ≡ Some blame
    go true is e = cc
    go false is e = ap (moving_fault items label block before) (none_found (has_label label) (all_items items) is) ∙ e

found_has : (test : Item → Bool) (items : List Item) (i : Item) → find test items ≡ Some i → Stands i items × (test i ≡ true)
found_has test [] i is = let no : None ≡ Some i = is in absurd (cc)
found_has test (j ∷ items) i is = go (test j) refl (found_has test items i) is
  where
    go : (b : Bool) → test j ≡ b → (find test items ≡ Some i → Stands i items × (test i ≡ true)) → cond b (Some j) (find test items) ≡ Some i → Stands i (j ∷ items) × (test i ≡ true)
    go true passes rest e = let same : j ≡ i = cc in (inl same, subst (λ k. test k ≡ true) same passes)
    go false passes rest e = let later = rest e in (inr later.0, later.1)

-- what has a reason is a line
reason_is_line : (i : Item) → has_reason i ≡ true → is_line i ≡ true
reason_is_line i is = subst (λ k. is_line k ≡ true) (roll-out-Item i) (go (out-Item i) is)
  where
    go : (y : Item-F Item) → has_reason_step y ≡ true → is_line (roll-Item y) ≡ true
    go (Line l t w) e = ap is_line (item.rolls-Line l t w) ∙ is_line-line l t w
    go (Block l vars trees items) e = absurd (false≢true e)

-- where the item of a label has a reason, a line has the label
pub reason_line : (items : List Item) (label : List ℕ) → option_map_or has_reason (item_at items label) false ≡ true → is_line_label items label ≡ true
reason_line items label is = go (item_at items label) refl is
  where
    go : (found : Option Item) → item_at items label ≡ found → option_map_or has_reason found false ≡ true → is_line_label items label ≡ true
    go None at e = absurd (false≢true e)
    go (Some i) at e =
        let found = found_has (has_label label) (all_items items) i at in
        some_any (is_line_at label) (all_items items) i found.0 (ap (λ b. b && is_line i) found.1 ∙ reason_is_line i e)

-- such a line has no fault
pub no_line_fault : (items : List Item) (label : List ℕ) (blame : ProofFault) → option_map_or has_reason (item_at items label) false ≡ true → line_fault items label ≡ Some blame → ⊥
no_line_fault items label blame is fault_is =
    let none : line_fault items label ≡ None = ap (λ b. unless b (fault.Unknown label)) (reason_line items label is) in
    cc
