-- What a table of proofs keeps at every moment.
use Rattle.std.specs.Prelude.{◌≡◌, ◌≤◌, ℕ, true, List, Some}
use Rattle.std.specs.FinMap as finite
use Rattle.mu_tree.specs.Names.{is_segment}
use Rattle.mu_graph.specs.Circles.{IsAcyclic}
use Rattle.mu_proof.specs.declared.items.Item.{Item}
use Rattle.mu_flat.specs.CiterTables.{HasAllCiters}
use Rattle.mu_flat.specs.ProofTables.{ProofsOf, proof_at, leads, count_proofs}
use Rattle.mu_flat.specs.declared.proof_tables.ProofTable.TheInside.{Inside}

-- Proofs as a store has them: their own names are plain, no rule leads back to itself by what its proofs cite, there are at most 65,536, and a rule name without proofs is not kept.
pub record AreProofs (proofs : ProofsOf) : Type 0 where
  pub plain : (rule proof : List ℕ) (items : List Item) → proof_at proofs rule proof ≡ Some items → is_segment proof ≡ true
  pub acyclic : IsAcyclic (leads proofs)
  pub few : count_proofs proofs ≤ 65536
  pub tight : (rule : List ℕ) → finite.get proofs rule ≡ Some finite.empty → ⊥

-- a table of proofs has such proofs, all rules that cite a rule, and their number
pub record IsKept (inside : Inside) : Type 0 where
  pub proofs : AreProofs inside.by_rule
  pub citers : HasAllCiters inside.citers inside.by_rule
  pub count : inside.count ≡ count_proofs inside.by_rule
