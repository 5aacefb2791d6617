use Rattle.std.proofs.Common.{arith, ◌≡◌, ◌+◌, max, map, sym, ap, ◌∙◌}
use Rattle.mu_proof.specs.Items.{boxes_in, boxes_deep}
use Rattle.mu_proof.specs.Edits.{edited_item, putting}
use Rattle.mu_proof.proofs.DepthLemmas.{boxes_in-put, boxes_in-passed}
use Rattle.mu_proof.proofs.walks.+depth_with.Goals as goal
use Rattle.mu_proof.proofs.walks.+depth_with.Goals.{depth_with-then-eq, depth_with-else-eq}

pub depth_with-returns-after-eq : goal.depth_with-returns-after-eq
depth_with-returns-after-eq t c before other is =
    let change = putting c.args.block.now before other in
    let box = c.in-Block in
    let deep = c.depth_with_in-depth.ensures before other is in
    let inner : boxes_deep (map (edited_item change) c.items.result.now) ≡ boxes_deep (map (edited_item change) box.items) = ap (λ items. boxes_deep (map (edited_item change) items)) c.items.ensures in
    elim c.if-eq.branch [
      | depth_with-then-eq w ↦
          let put : boxes_in (edited_item change c.args.item.now) ≡ max (boxes_deep (map (edited_item change) box.items)) (boxes_in other) + 1 =
          rw box.is (boxes_in-put c.args.block.now before other box.label box.vars box.assumptions box.items (sym c.eq.ensures ∙ w.if-eq.true)) in
          omega arith
      | depth_with-else-eq w ↦
          let passed : boxes_in (edited_item change c.args.item.now) ≡ boxes_deep (map (edited_item change) box.items) + 1 =
          rw box.is (boxes_in-passed c.args.block.now before other box.label box.vars box.assumptions box.items (sym c.eq.ensures ∙ w.if-eq.false)) in
          omega arith
    ]
