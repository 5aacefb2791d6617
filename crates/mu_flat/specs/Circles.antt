-- Circles of citations, and the first rule on one.
use Rattle.std.specs.Prelude.{ℕ, Bool, false, List, Option}
use Rattle.std.specs.Bool.{nat_eq}
use Rattle.std.specs.Cmp.Lexicographic.{pointwise}
use Rattle.std.specs.FinMap as finite
use Rattle.mu_graph.specs.Told as graph
use Rattle.mu_proof.specs.declared.citations.Cited.{Cited}
use Rattle.mu_proof.specs.declared.citations.Cited.TheVariants.{Rule, Morphism}
use Rattle.mu_flat.specs.ProofTables.{ProofsOf, leads}

-- whether two are one
abbrev pub same_cited : Cited → Cited → Bool
same_cited (Rule a) (Rule b) = pointwise nat_eq a b
same_cited (Morphism a) (Morphism b) = pointwise nat_eq a b
same_cited (Rule a) (Morphism b) = false
same_cited (Morphism a) (Rule b) = false

-- the first rule name in byte order that leads back to itself
abbrev pub first_circle : ProofsOf → Option (List ℕ)
first_circle proofs = graph.first_circle same_cited (leads proofs) Rule (finite.keys proofs)

-- where no rule is told, none leads back to itself; and the one that is told is the first in byte order that does
unfoldable pub CirclesAreExact : Type 0
CirclesAreExact = (proofs : ProofsOf) → graph.CirclesAreTold same_cited (leads proofs) Rule (finite.keys proofs)
