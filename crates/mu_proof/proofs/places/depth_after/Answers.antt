use Rattle.std.proofs.Common.{arith, sym, ◌∙◌}
use Rattle.mu_proof.proofs.InsertLemmas.{depth_root}
use Rattle.mu_proof.proofs.places.depth_after.Goals as goal

pub returns-then-is_root : goal.returns-then-is_root
returns-then-is_root c before =
    let deep = c.depth_with_in-depth.ensures before c.args.new.now c.depth_item-own.ensures in
    let root = depth_root c.args.items.now c.args.block.now before c.args.new.now (sym c.is_root.ensures ∙ c.if-is_root.true) in
    omega arith
