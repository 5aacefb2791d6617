use Rattle.std.proofs.Common.{ap, ◌∙◌}
use Rattle.std.specs.Prelude.{not}
use Rattle.std.specs.List.{find}
use Rattle.mu_proof.specs.Items.{has_label, is_line, all_items}
use Rattle.mu_proof.specs.Proofs.{is_box_label}
use Rattle.mu_proof.proofs.ProofLemmas.{distinct_counts, found_kind, unfound_kind}
use Rattle.mu_proof.proofs.proofs.Proof.has_box.Goals as goal

pub returns-in-Some : goal.returns-in-Some
returns-in-Some c =
    let items = c.self.inside.items in
    let label = c.args.label.now in
    ap not c.is_line.ensures
    ∙ found_kind (λ each. not (is_line each)) label (all_items items) c.in-Some.item.now (distinct_counts (all_items items) c.self.invariant.distinct label) (c.in-Some.ensures ∙ ap (λ all. find (has_label label) (all_items all)) c.items.ensures)
    ∙ ap (λ all. is_box_label all label) c.self.view_is

pub returns-in-None : goal.returns-in-None
returns-in-None c =
    let label = c.args.label.now in
    unfound_kind (λ each. not (is_line each)) label (all_items c.self.inside.items) (c.in-None.ensures ∙ ap (λ all. find (has_label label) (all_items all)) c.items.ensures) ∙ ap (λ all. is_box_label all label) c.self.view_is
