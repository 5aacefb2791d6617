use Rattle.std.proofs.Common.{arith, ◌≡◌, ◌≤◌, length, set, sym, ap, ◌∙◌, suc, count_by, true, false}
use Rattle.std.specs.Bool.{nat_eq}
use Rattle.std.specs.Cmp.Lexicographic.{pointwise}
use Rattle.std.specs.List.{list_any}
use Rattle.mu_proof.specs.Items.{has_label, all_in, all_items}
use Rattle.mu_proof.specs.Edits.{edited_item, dropping, removed}
use Rattle.mu_proof.specs.declared.items.Item.TheVariants as item
use Rattle.mu_proof.specs.declared.items.Item.TheViews.{outs-Block}
use Rattle.mu_proof.proofs.ItemEquations.{all_in-block, edited_item-block, label_of-block}
use Rattle.mu_proof.proofs.CountLemmas.{length_piece, position_some, position_none, position_within, none_way}
use Rattle.mu_proof.proofs.EditLemmas.{own_any, still_dropped, alone, found_there, taken_here, taken_below, one_below, none_at, line_alone, found_below}
use Rattle.mu_proof.proofs.WalkLemmas.{found_first}
use Rattle.mu_proof.proofs.edits.+remove.Goals as goal

pub remove_from-remove-requires : goal.remove_from-remove-requires
remove_from-remove-requires t c = position_within (has_label c.args.label.now) c.args.items.now c.in-Some.at (sym c.in-Some.ensures)

pub remove_from-remove_below-requires : goal.remove_from-remove_below-requires
remove_from-remove_below-requires t c = (omega arith, (c.requires, position_none (has_label c.args.label.now) c.args.items.now (sym c.in-None.ensures)))

pub remove_from-returns-in-Some : goal.remove_from-returns-in-Some
remove_from-returns-in-Some t c =
    let label = c.args.label.now in
    let items = c.args.items.now in
    let old = c.remove.result in
    let own : has_label label old ≡ true = position_some (has_label label) items c.in-Some.at old (sym c.in-Some.ensures) c.remove.ensures.item in
    record {
      item =
          found_there (has_label label) (edited_item (dropping label)) (still_dropped label) items c.in-Some.at old c.remove.ensures.item (own_any (has_label label) old own) c.requires
          ∙ sym (found_first label old own);
      rest = c.remove.ensures.rest ∙ taken_here label items c.in-Some.at old c.remove.ensures.item c.requires own;
    }

pub remove_below-remove_in-requires : goal.remove_below-remove_in-requires
remove_below-remove_in-requires t c =
    let label = c.args.label.now in
    let items = c.args.items.now in
    let old = c.at_mut.result.now in
    let has : list_any (has_label label) (all_in old) ≡ true = position_some (λ each. list_any (has_label label) (all_in each)) items c.in-Some.at old (sym c.in-Some.ensures) c.at_mut.ensures.value in
    let shorter : length (all_in old) ≤ length (all_items items) = length_piece all_in items c.in-Some.at old c.at_mut.ensures.value in (
      omega arith,
      (
        (alone (has_label label) (edited_item (dropping label)) (still_dropped label) items c.in-Some.at old c.at_mut.ensures.value has c.requires.one).1,
        none_at label items c.in-Some.at old c.at_mut.ensures.value c.requires.below,
      ),
    )

pub remove_below-unreachable-requires : goal.remove_below-unreachable-requires
remove_below-unreachable-requires t c = none_way (has_label c.args.label.now) all_in c.args.items.now (sym c.in-None.ensures) c.requires.one

pub remove_below-returns-clause-item : goal.remove_below-returns-clause-item
remove_below-returns-clause-item t c =
    let label = c.args.label.now in
    let items = c.args.items.now in
    let old = c.at_mut.result.now in
    let has : list_any (has_label label) (all_in old) ≡ true = position_some (λ each. list_any (has_label label) (all_in each)) items c.in-Some.at old (sym c.in-Some.ensures) c.at_mut.ensures.value in
    found_there (has_label label) (edited_item (dropping label)) (still_dropped label) items c.in-Some.at old c.at_mut.ensures.value has c.requires.one ∙ c.remove_in.ensures.item

pub remove_below-returns-clause-rest : goal.remove_below-returns-clause-rest
remove_below-returns-clause-rest t c =
    let label = c.args.label.now in
    let items = c.args.items.now in
    let old = c.at_mut.result.now in
    let has : list_any (has_label label) (all_in old) ≡ true = position_some (λ each. list_any (has_label label) (all_in each)) items c.in-Some.at old (sym c.in-Some.ensures) c.at_mut.ensures.value in
    ap (set items c.in-Some.at) c.remove_in.ensures.rest ∙ taken_below label items c.in-Some.at old c.at_mut.ensures.value c.requires.one c.requires.below has

pub remove_in-remove_from-requires : goal.remove_in-remove_from-requires
remove_in-remove_from-requires t c =
    let box = c.in-Block in
    let label = c.args.label.now in
    let other : pointwise nat_eq box.label label ≡ false = sym (ap (λ l. pointwise nat_eq l label) (label_of-block box.label box.vars box.assumptions box.items)) ∙ (rw box.is at c.requires.below) in
    let shorter : length (all_in c.args.item.now) ≡ suc (length (all_items box.items)) = rw box.is (ap length (all_in-block box.label box.vars box.assumptions box.items)) in
    let one : count_by (has_label label) (all_items box.items) ≡ 1 = one_below label box.label box.vars box.assumptions box.items other (rw box.is at c.requires.one) in
    rw (box.is, outs-Block box.label box.vars box.assumptions box.items) (omega arith, one)

pub remove_in-unreachable-requires : goal.remove_in-unreachable-requires
remove_in-unreachable-requires t c =
    let line = c.in-Line in
    let none = line_alone c.args.label.now line.label line.tree line.why (rw line.is at c.requires.below) in
    let one = rw line.is at c.requires.one in
    absurd (omega arith)

pub remove_in-returns-clause-item : goal.remove_in-returns-clause-item
remove_in-returns-clause-item t c =
    let box = c.in-Block in
    rw box.is (found_below c.args.label.now box.label box.vars box.assumptions box.items (rw box.is at c.requires.below)) ∙ (rw (box.is, outs-Block box.label box.vars box.assumptions box.items) at c.remove_from.ensures.item)

pub remove_in-returns-clause-rest : goal.remove_in-returns-clause-rest
remove_in-returns-clause-rest t c =
    let box = c.in-Block in
    let done : c.remove_from.new.items ≡ removed box.items c.args.label.now = rw (box.is, outs-Block box.label box.vars box.assumptions box.items) at c.remove_from.ensures.rest in
    rw (box.is, outs-Block box.label box.vars box.assumptions box.items)
    (ap (item.Block box.label box.vars box.assumptions) done ∙ sym (edited_item-block box.label box.vars box.assumptions box.items (dropping c.args.label.now)))
