use Rattle.std.proofs.Common.{◌≡◌, take, map}
use Rattle.std.specs.FinMap as finite
use Rattle.mu_proof.specs.declared.citations.Cited.TheVariants.{Rule}
use Rattle.mu_flat.specs.CitedSets.{is_marked}
use Rattle.mu_status.specs.Books.{told_status}
use Rattle.mu_status.proofs.statuses.told_statuses.Given as goal

abbrev pub invariant-loop-name : goal.invariant-loop-name
invariant-loop-name l = l.statuses.items ≡ map (λ name. told_status (is_marked l.marks.rules l.marks.morphisms (Rule name)) (finite.get l.book.rules name)) (take l.name-index l.names)
