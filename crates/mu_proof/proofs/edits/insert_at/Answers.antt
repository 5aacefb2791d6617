use Rattle.std.proofs.Common.{◌≡◌, sym, ◌∙◌, false, true}
use Rattle.std.specs.Option.{option_copied}
use Rattle.std.proofs.lemmas.Result.{on_ok_weaker}
use Rattle.mu_proof.specs.Proofs.{is_root}
use Rattle.mu_proof.proofs.ProofLemmas.{has_once, no_root}
use Rattle.mu_proof.proofs.InsertLemmas.{inserted_still, box_there}
use Rattle.mu_proof.proofs.edits.insert_at.Goals as goal

pub returns-then-is_root-clause-ok : goal.returns-then-is_root-clause-ok
returns-then-is_root-clause-ok c =
    let whole : is_root c.args.block.now ≡ true = sym c.is_root.ensures ∙ c.if-is_root.true in
    on_ok_weaker c.put.result (λ done. done ∙ sym (inserted_still c.args.items.now c.args.block.now (option_copied c.args.before) c.args.new whole (no_root c.args.items.now c.requires.proof c.args.block.now whole))) c.put.ensures.ok

pub insert_in-requires-clause-one : goal.insert_in-requires-clause-one
insert_in-requires-clause-one c =
    let box : is_root c.args.block.now ≡ false = sym c.is_root.ensures ∙ c.if-is_root.false in
    has_once c.args.items.now c.requires.proof c.args.block.now (box_there c.args.items.now c.args.block.now box c.requires.block).0

pub insert_in-requires-clause-block : goal.insert_in-requires-clause-block
insert_in-requires-clause-block c = (box_there c.args.items.now c.args.block.now (sym c.is_root.ensures ∙ c.if-is_root.false) c.requires.block).1
