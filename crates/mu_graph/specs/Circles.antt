-- Circles of directed graphs, and what closes them.
use Rattle.std.specs.Prelude.{◌≡◌, ◌⊎◌, ◌↔◌, Bool, true, List, [], ◌∷◌}
use Rattle.mu_graph.specs.Derivations.{Stands}
use Rattle.mu_graph.specs.Walks.{LeadsTo, Reaches, IsLedTo}

-- n leads back to itself
abbrev pub OnCircle : {N : Type 0} → (N → List N) → N → Type 0
OnCircle leads n = LeadsTo leads n n

-- no key is on a circle
abbrev pub IsAcyclic : {N : Type 0} → (N → List N) → Type 0
IsAcyclic {N} leads = (n : N) → OnCircle leads n → ⊥

-- n is the first member of the list of which P holds
abbrev pub IsFirstOf : {N : Type 0} → (N → Type 0) → List N → N → Type 0
IsFirstOf P [] n = ⊥
IsFirstOf P (m ∷ ms) n = ((m ≡ n) × P m) ⊎ ((P m → ⊥) × IsFirstOf P ms n)

-- P holds of no member of the list
abbrev pub NoneOf : {N : Type 0} → (N → Type 0) → List N → Type 0
NoneOf {N} P ns = (n : N) → Stands n ns → P n → ⊥

-- n stands on a path from one of the starts to the key `to`; such a path may have one key alone
abbrev pub IsBetween : {N : Type 0} → (N → List N) → List N → N → N → Type 0
IsBetween leads starts to n = IsLedTo leads starts n × Reaches leads n to

-- each edge of the first graph stands turned round in the second one, which may have more edges; those to keys that lead nowhere and are not `to` needn't
abbrev pub IsTurned : {N : Type 0} → (N → List N) → (N → List N) → N → Type 0
IsTurned {N} leads back to = (n m : N) → Stands m (leads n) → Stands n (back m) ⊎ ((leads m ≡ []) × (m ≡ to → ⊥))

-- each key but u leads to the same keys in the two graphs
abbrev pub DiffersAt : {N : Type 0} → (N → List N) → (N → List N) → N → Type 0
DiffersAt {N} old new u = (n : N) → (u ≡ n) ⊎ (new n ≡ old n)

-- each key but u leads to the same keys in the two graphs, and u leads to these keys now, and besides only to what it led to
pub record GainsAt {N : Type 0} (old new : N → List N) (u : N) (gained : List N) : Type 0 where
  pub others : DiffersAt old new u
  pub there : (m : N) → Stands m gained → Stands m (new u)
  pub only : (m : N) → Stands m (new u) → Stands m gained ⊎ Stands m (old u)

-- each key on a circle is u or leads to u, and u leads to it; and u itself is on a circle then
abbrev pub CirclesPass : {N : Type 0} → (N → List N) → N → Type 0
CirclesPass {N} leads u = (n : N) → OnCircle leads n → OnCircle leads u × Reaches leads n u × LeadsTo leads u n

-- Where u of an acyclic graph leads to some keys now, each circle passes through u, and on circles are the keys on the paths from these keys to u, which may be looked for in the graph as it was.
unfoldable pub CirclesClose : {N : Type 0} → (N → List N) → Type 0
CirclesClose {N} old = (new : N → List N) (u : N) (gained : List N) → IsAcyclic old → GainsAt old new u gained
    → CirclesPass new u × ((n : N) → OnCircle new n ↔ IsBetween old gained u n)

-- a pass over the keys `done` has found those that lead to the key `to` or are it, and marked these alone
pub record Traced {N : Type 0} (leads : N → List N) (to : N) (marked : N → Bool) (done found : List N) : Type 0 where
  pub target : marked to ≡ true
  pub sound : (n : N) → marked n ≡ true → Reaches leads n to
  pub complete : (n : N) → Stands n done → Reaches leads n to → Stands n found
  pub among : (n : N) → Stands n found → Stands n done × (marked n ≡ true)
