use Rattle.std.proofs.Common.{sym, ap, ◌∙◌}
use Rattle.std.specs.Prelude.{is_some}
use Rattle.mu_proof.specs.Items.{has_label, all_items}
use Rattle.mu_proof.proofs.WalkLemmas.{copied_some, find_any}
use Rattle.mu_proof.proofs.places.has_item.Goals as goal

pub returns : goal.returns
returns c = c.is_some.ensures ∙ sym (copied_some c.find_in.result) ∙ ap is_some c.find_in.ensures ∙ find_any (has_label c.args.label.now) (all_items c.args.items.now)
