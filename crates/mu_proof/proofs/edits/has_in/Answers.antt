use Rattle.std.proofs.Common.{sym, ap, ◌∙◌}
use Rattle.std.specs.Prelude.{is_some}
use Rattle.mu_proof.specs.Items.{has_label, all_in}
use Rattle.mu_proof.proofs.WalkLemmas.{copied_some, find_any}
use Rattle.mu_proof.proofs.edits.has_in.Goals as goal

pub returns : goal.returns
returns c = c.is_some.ensures ∙ sym (copied_some c.find_item.result) ∙ ap is_some c.find_item.ensures ∙ find_any (has_label c.args.label.now) (all_in c.args.item.now)
