-- Paths put together.
use Rattle.std.proofs.Common.{ℕ, zero, suc, List}
use Rattle.mu_graph.specs.Derivations.{Stands}
use Rattle.mu_graph.specs.Walks.{Steps, LeadsTo}

module _ {N : Type 0} (leads : N → List N) where
  pub edge_then_path : (a b c : N) → Stands b (leads a) → LeadsTo leads b c → LeadsTo leads a c
  edge_then_path a b c s t = (suc t.0, (b, s, t.1))

  pub path_then_edge : (k : ℕ) (a b c : N) → Steps leads k a b → Stands c (leads b) → LeadsTo leads a c
  path_then_edge zero a b c s t = (1, (b, s, t))
  path_then_edge (suc k) a b c s t = edge_then_path a s.0 c s.1 (path_then_edge k s.0 b c s.2 t)

  joined_steps : (k : ℕ) (a b c : N) → Steps leads k a b → LeadsTo leads b c → LeadsTo leads a c
  joined_steps zero a b c s t = edge_then_path a b c s t
  joined_steps (suc k) a b c s t = edge_then_path a s.0 c s.1 (joined_steps k s.0 b c s.2 t)

  pub paths_joined : (a b c : N) → LeadsTo leads a b → LeadsTo leads b c → LeadsTo leads a c
  paths_joined a b c s t = joined_steps s.0 a b c s.1 t
