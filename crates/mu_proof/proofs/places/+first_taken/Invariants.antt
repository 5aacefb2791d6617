use Rattle.std.proofs.Common.{◌≡◌, take, None}
use Rattle.std.specs.List.{find, flat_map}
use Rattle.mu_proof.specs.Items.{labels_in}
use Rattle.mu_proof.specs.Proofs.{is_taken}
use Rattle.mu_proof.proofs.places.+first_taken.Given as goal

abbrev pub invariant-first_taken_in-loop-item : goal.invariant-first_taken_in-loop-item
invariant-first_taken_in-loop-item l = find (is_taken l.known l.new) (flat_map labels_in (take l.item-index l.items)) ≡ None
