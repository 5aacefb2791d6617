use Rattle.std.proofs.Common.{arith, Some, ◌≡◌, ap, sym, ◌∙◌, false}
use Rattle.std.specs.Prelude.{is_some}
use Rattle.std.specs.List.{find, flat_map}
use Rattle.mu_proof.specs.Items.{label_of, labels_in}
use Rattle.mu_proof.specs.Proofs.{is_taken}
use Rattle.mu_proof.proofs.WalkLemmas.{copied_some, not_some, found_here, none_here, label_first, label_in_line, label_in_block}
use Rattle.mu_proof.proofs.places.+first_taken.Goals as goal

pub first_taken-returns-then-is_taken : goal.first_taken-returns-then-is_taken
first_taken-returns-then-is_taken t c =
    let taken = is_taken c.args.known.now c.args.new.now in
    ap Some c.label-label.ensures ∙ label_first taken c.args.item.now (ap taken (sym c.label-label.ensures) ∙ sym c.is_taken.ensures ∙ c.if-is_taken.true)

pub first_taken-returns-in-Line : goal.first_taken-returns-in-Line
first_taken-returns-in-Line t c =
    let taken = is_taken c.args.known.now c.args.new.now in
    let line = c.in-Line in
    let free : taken (label_of c.args.item.now) ≡ false = ap taken (sym c.label-label.ensures) ∙ sym c.is_taken.ensures ∙ c.if-is_taken.false in
    rw line.is (label_in_line taken line.label line.tree line.why (rw line.is at free))

pub first_taken-returns-in-Block : goal.first_taken-returns-in-Block
first_taken-returns-in-Block t c =
    let taken = is_taken c.args.known.now c.args.new.now in
    let box = c.in-Block in
    let free : taken (label_of c.args.item.now) ≡ false = ap taken (sym c.label-label.ensures) ∙ sym c.is_taken.ensures ∙ c.if-is_taken.false in
    c.first_taken_in.ensures
    ∙ ap (λ items. find taken (flat_map labels_in items)) c.items.ensures
    ∙ rw box.is (label_in_block taken box.label box.vars box.assumptions box.items (rw box.is at free))

pub first_taken_in-returns-then-is_some : goal.first_taken_in-returns-then-is_some
first_taken_in-returns-then-is_some t c =
    c.first_taken-found.ensures
    ∙ found_here labels_in (is_taken c.args.known.now c.args.new.now) c.args.items.now c.loop-item.item-index c.item-item.result (omega arith) c.item-item.is c.loop-item.invariant
    (ap is_some (sym c.first_taken-found.ensures) ∙ copied_some c.first_taken-found.result ∙ sym c.is_some.ensures ∙ c.if-is_some.true)

pub first_taken_in-loop-item-preserved : goal.first_taken_in-loop-item-preserved
first_taken_in-loop-item-preserved t c =
    none_here labels_in (is_taken c.args.known.now c.args.new.now) c.args.items.now c.loop-item.item-index c.item-item.result (omega arith) c.item-item.is c.loop-item.invariant
    (not_some (find (is_taken c.args.known.now c.args.new.now) (labels_in c.item-item.result)) (ap is_some (sym c.first_taken-found.ensures) ∙ copied_some c.first_taken-found.result ∙ sym c.is_some.ensures ∙ c.if-is_some.false))
