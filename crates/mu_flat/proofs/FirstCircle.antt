-- The first rule on a circle, as it is computed, is the first one.
use Rattle.std.specs.FinMap as finite
use Rattle.mu_graph.proofs.ToldLemmas.{circles_are_told}
use Rattle.mu_proof.specs.declared.citations.Cited.TheVariants.{Rule}
use Rattle.mu_flat.specs.Circles.{same_cited, CirclesAreExact}
use Rattle.mu_flat.specs.ProofTables.{leads}
use Rattle.mu_flat.proofs.CircleLemmas.{same_exact, rules_lead}

pub circles_are_exact : CirclesAreExact
unfolding CirclesAreExact
circles_are_exact proofs = circles_are_told same_cited same_exact Rule (leads proofs) (finite.keys proofs) (rules_lead proofs)
