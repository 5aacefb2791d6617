use Rattle.std.proofs.Common.{arith, ◌≡◌, ◌≤◌, length, set, sym, ap, ◌∙◌, subst, suc, count_by, true, false}
use Rattle.std.specs.Bool.{nat_eq}
use Rattle.std.specs.Cmp.Lexicographic.{pointwise}
use Rattle.std.specs.Option.{option_copied}
use Rattle.std.specs.List.{list_any}
use Rattle.std.proofs.lemmas.Bool.{false≢true}
use Rattle.std.proofs.lemmas.Result.{on_ok_weaker, on_err_weaker}
use Rattle.mu_proof.specs.Items.{has_label, is_box_at, all_in, all_items}
use Rattle.mu_proof.specs.Edits.{edited_item, putting}
use Rattle.mu_proof.specs.declared.items.Item.{Item}
use Rattle.mu_proof.specs.declared.items.Item.TheVariants as item
use Rattle.mu_proof.specs.declared.items.Item.TheViews.{outs-Block}
use Rattle.mu_proof.proofs.ItemEquations.{all_in-block}
use Rattle.mu_proof.proofs.CountLemmas.{length_piece, position_some, set_own, none_way}
use Rattle.mu_proof.proofs.EditLemmas.{still_put, one_changed, any_there, alone, box_weaker, no_box, one_below, box_below, put_here, put_below}
use Rattle.mu_proof.proofs.edits.+insert.Goals as goal

pub insert_in-insert_item-requires : goal.insert_in-insert_item-requires
insert_in-insert_item-requires t c =
    let items = c.args.items.now in
    let old = c.at_mut.result.now in
    let block = c.args.block.now in
    let change = putting block (option_copied c.args.before) c.args.new in
    let still = still_put block (option_copied c.args.before) c.args.new in
    let has : list_any (has_label block) (all_in old) ≡ true = position_some (λ each. list_any (has_label block) (all_in each)) items c.in-Some.at old (sym c.in-Some.ensures) c.at_mut.ensures.value in
    let shorter : length (all_in old) ≤ length (all_items items) = length_piece all_in items c.in-Some.at old c.at_mut.ensures.value in (
      omega arith,
      (
        (alone (has_label block) (edited_item change) still items c.in-Some.at old c.at_mut.ensures.value has c.requires.one).1,
        any_there (has_label block) (edited_item change) still items c.in-Some.at old c.at_mut.ensures.value has c.requires.one (is_box_at block) (box_weaker block) c.requires.block,
      ),
    )

pub insert_in-unreachable-requires : goal.insert_in-unreachable-requires
insert_in-unreachable-requires t c = none_way (has_label c.args.block.now) all_in c.args.items.now (sym c.in-None.ensures) c.requires.one

pub insert_in-returns-clause-ok : goal.insert_in-returns-clause-ok
insert_in-returns-clause-ok t c =
    let block = c.args.block.now in
    on_ok_weaker c.insert_item.result (λ done.
    ap (set c.args.items.now c.in-Some.at) done
    ∙ one_changed (has_label block) (edited_item (putting block (option_copied c.args.before) c.args.new)) (still_put block (option_copied c.args.before) c.args.new) c.args.items.now c.in-Some.at c.at_mut.result.now
    c.at_mut.ensures.value (position_some (λ each. list_any (has_label block) (all_in each)) c.args.items.now c.in-Some.at c.at_mut.result.now (sym c.in-Some.ensures) c.at_mut.ensures.value) c.requires.one) c.insert_item.ensures.ok

pub insert_in-returns-clause-err : goal.insert_in-returns-clause-err
insert_in-returns-clause-err t c = on_err_weaker c.insert_item.result (λ kept. set_own c.args.items.now c.in-Some.at c.at_mut.result.now c.insert_item.new.item c.at_mut.ensures.value kept) c.insert_item.ensures.err

pub insert_item-unreachable-requires : goal.insert_item-unreachable-requires
insert_item-unreachable-requires t c =
    false≢true (sym (no_box c.args.block.now c.in-Line.label c.in-Line.tree c.in-Line.why) ∙ subst (λ (i : Item). list_any (is_box_at c.args.block.now) (all_in i) ≡ true) c.in-Line.is c.requires.block)

pub insert_item-insert_in-requires : goal.insert_item-insert_in-requires
insert_item-insert_in-requires t c =
    let box = c.in-Block in
    let other : pointwise nat_eq box.label c.args.block.now ≡ false = sym (rw (box.is, outs-Block box.label box.vars box.assumptions box.items) at c.eq.ensures) ∙ c.if-eq.false in
    let shorter : length (all_in c.args.item.now) ≡ suc (length (all_items box.items)) = rw box.is (ap length (all_in-block box.label box.vars box.assumptions box.items)) in
    let one : count_by (has_label c.args.block.now) (all_items box.items) ≡ 1 = one_below c.args.block.now box.label box.vars box.assumptions box.items other (rw box.is at c.requires.one) in
    let there : list_any (is_box_at c.args.block.now) (all_items box.items) ≡ true = box_below c.args.block.now box.label box.vars box.assumptions box.items other (rw box.is at c.requires.block) in
    rw (box.is, outs-Block box.label box.vars box.assumptions box.items) (omega arith, (one, there))

pub insert_item-returns-then-eq-clause-ok : goal.insert_item-returns-then-eq-clause-ok
insert_item-returns-then-eq-clause-ok t c =
    let box = c.in-Block in
    let here : pointwise nat_eq box.label c.args.block.now ≡ true = sym (rw (box.is, outs-Block box.label box.vars box.assumptions box.items) at c.eq.ensures) ∙ c.if-eq.true in
    rw (box.is, outs-Block box.label box.vars box.assumptions box.items) (on_ok_weaker c.put.result (λ done.
    ap (item.Block box.label box.vars box.assumptions) done
    ∙ sym (put_here c.args.block.now (option_copied c.args.before) c.args.new box.label box.vars box.assumptions box.items here (rw box.is at c.requires.one))) (rw (box.is, outs-Block box.label box.vars box.assumptions box.items) at c.put.ensures.ok))

pub insert_item-returns-else-eq-clause-ok : goal.insert_item-returns-else-eq-clause-ok
insert_item-returns-else-eq-clause-ok t c =
    let box = c.in-Block in
    let other : pointwise nat_eq box.label c.args.block.now ≡ false = sym (rw (box.is, outs-Block box.label box.vars box.assumptions box.items) at c.eq.ensures) ∙ c.if-eq.false in
    rw (box.is, outs-Block box.label box.vars box.assumptions box.items) (on_ok_weaker c.insert_in.result (λ done.
    ap (item.Block box.label box.vars box.assumptions) done
    ∙ sym (put_below c.args.block.now (option_copied c.args.before) c.args.new box.label box.vars box.assumptions box.items other)) (rw (box.is, outs-Block box.label box.vars box.assumptions box.items) at c.insert_in.ensures.ok))
