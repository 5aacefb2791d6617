use Rattle.std.proofs.Common.{arith, ◌≡◌, ◌≤◌, length, set, sym, ap, ◌∙◌, suc, count_by, true, false}
use Rattle.std.specs.Bool.{nat_eq}
use Rattle.std.specs.Cmp.Lexicographic.{pointwise}
use Rattle.std.specs.List.{list_any}
use Rattle.mu_proof.specs.Items.{has_label, all_in, all_items}
use Rattle.mu_proof.specs.Edits.{edited_item, altering, altered}
use Rattle.mu_proof.specs.declared.items.Item.TheVariants as item
use Rattle.mu_proof.specs.declared.items.Item.TheViews.{outs-Block}
use Rattle.mu_proof.proofs.ItemEquations.{all_in-block, label_of-block}
use Rattle.mu_proof.proofs.CountLemmas.{length_piece, position_some, none_way}
use Rattle.mu_proof.proofs.EditLemmas.{still_altered, alone, altered_there, altered_here, altered_below, one_below, line_alone}
use Rattle.mu_proof.proofs.edits.+alter.Goals as goal

pub alter_in-alter_item-requires : goal.alter_in-alter_item-requires
alter_in-alter_item-requires t c =
    let label = c.args.label.now in
    let items = c.args.items.now in
    let old = c.at_mut.result.now in
    let has : list_any (has_label label) (all_in old) ≡ true = position_some (λ each. list_any (has_label label) (all_in each)) items c.in-Some.at old (sym c.in-Some.ensures) c.at_mut.ensures.value in
    let shorter : length (all_in old) ≤ length (all_items items) = length_piece all_in items c.in-Some.at old c.at_mut.ensures.value in
    (omega arith, (alone (has_label label) (edited_item (altering label c.args.alteration)) (still_altered label c.args.alteration) items c.in-Some.at old c.at_mut.ensures.value has c.requires).1)

pub alter_in-unreachable-requires : goal.alter_in-unreachable-requires
alter_in-unreachable-requires t c = none_way (has_label c.args.label.now) all_in c.args.items.now (sym c.in-None.ensures) c.requires

pub alter_in-returns : goal.alter_in-returns
alter_in-returns t c =
    let label = c.args.label.now in
    let items = c.args.items.now in
    let old = c.at_mut.result.now in
    let has : list_any (has_label label) (all_in old) ≡ true = position_some (λ each. list_any (has_label label) (all_in each)) items c.in-Some.at old (sym c.in-Some.ensures) c.at_mut.ensures.value in
    ap (set items c.in-Some.at) c.alter_item.ensures ∙ altered_there label c.args.alteration items c.in-Some.at old c.at_mut.ensures.value has c.requires

pub alter_item-returns-then-eq : goal.alter_item-returns-then-eq
alter_item-returns-then-eq t c =
    let own : has_label c.args.label.now c.args.item.now ≡ true = ap (λ l. pointwise nat_eq l c.args.label.now) (sym c.label.ensures) ∙ sym c.eq.ensures ∙ c.if-eq.true in
    c.alter.ensures ∙ altered_here c.args.label.now c.args.alteration c.args.item.now own c.requires

pub alter_item-alter_in-requires : goal.alter_item-alter_in-requires
alter_item-alter_in-requires t c =
    let box = c.in-Block in
    let label = c.args.label.now in
    let not_own : has_label label c.args.item.now ≡ false = ap (λ l. pointwise nat_eq l label) (sym c.label.ensures) ∙ sym c.eq.ensures ∙ c.if-eq.false in
    let apart : pointwise nat_eq box.label label ≡ false = sym (ap (λ l. pointwise nat_eq l label) (label_of-block box.label box.vars box.assumptions box.items)) ∙ (rw box.is at not_own) in
    let shorter : length (all_in c.args.item.now) ≡ suc (length (all_items box.items)) = rw box.is (ap length (all_in-block box.label box.vars box.assumptions box.items)) in
    let one : count_by (has_label label) (all_items box.items) ≡ 1 = one_below label box.label box.vars box.assumptions box.items apart (rw box.is at c.requires) in
    rw (box.is, outs-Block box.label box.vars box.assumptions box.items) (omega arith, one)

pub alter_item-unreachable-requires : goal.alter_item-unreachable-requires
alter_item-unreachable-requires t c =
    let line = c.in-Line in
    let label = c.args.label.now in
    let not_own : has_label label c.args.item.now ≡ false = ap (λ l. pointwise nat_eq l label) (sym c.label.ensures) ∙ sym c.eq.ensures ∙ c.if-eq.false in
    let none = line_alone label line.label line.tree line.why (rw line.is at not_own) in
    let one = rw line.is at c.requires in
    absurd (omega arith)

pub alter_item-returns : goal.alter_item-returns
alter_item-returns t c =
    let box = c.in-Block in
    let label = c.args.label.now in
    let not_own : has_label label c.args.item.now ≡ false = ap (λ l. pointwise nat_eq l label) (sym c.label.ensures) ∙ sym c.eq.ensures ∙ c.if-eq.false in
    let apart : pointwise nat_eq box.label label ≡ false = sym (ap (λ l. pointwise nat_eq l label) (label_of-block box.label box.vars box.assumptions box.items)) ∙ (rw box.is at not_own) in
    let done : c.alter_in.new.items ≡ altered box.items label c.args.alteration = rw (box.is, outs-Block box.label box.vars box.assumptions box.items) at c.alter_in.ensures in
    rw (box.is, outs-Block box.label box.vars box.assumptions box.items)
    (ap (item.Block box.label box.vars box.assumptions) done ∙ altered_below label c.args.alteration box.label box.vars box.assumptions box.items apart)
