-- Directed graphs, given by the list of keys that each key leads to: what is reachable, and the walk that finds it.
use Rattle.std.specs.Prelude.{◌≡◌, ◌⊎◌, ◌+◌, ◌<◌, ℕ, zero, suc, Bool, true, false, List, [], ◌∷◌, ◌++◌, length, cond}
use Rattle.mu_graph.specs.Derivations.{Stands}
use Rattle.mu_graph.specs.declared.walks.Step.{Step}
use Rattle.mu_graph.specs.declared.walks.Step.TheVariants.{Enter, Leave}

-- a path of k + 1 edges goes from a to b
abbrev pub Steps : {N : Type 0} → (N → List N) → ℕ → N → N → Type 0
Steps leads zero a b = Stands b (leads a)
Steps {N} leads (suc k) a b = (c : N) × Stands c (leads a) × Steps leads k c b

-- a path of one edge or more goes from a to b: the transitive closure
abbrev pub LeadsTo : {N : Type 0} → (N → List N) → N → N → Type 0
LeadsTo leads a b = (k : ℕ) × Steps leads k a b

-- a is b, or leads to it
abbrev pub Reaches : {N : Type 0} → (N → List N) → N → N → Type 0
Reaches leads a b = (a ≡ b) ⊎ LeadsTo leads a b

-- n is one of the starts, or one of them leads to it
abbrev pub IsLedTo : {N : Type 0} → (N → List N) → List N → N → Type 0
IsLedTo {N} leads starts n = Stands n starts ⊎ ((a : N) × Stands a starts × LeadsTo leads a n)

-- the keys that are to be looked at yet
abbrev pub entering : {N : Type 0} → List (Step N) → List N
entering [] = []
entering (Enter n ∷ steps) = n ∷ entering steps
entering (Leave n ∷ steps) = entering steps

-- the keys that are to be left yet, in the order in which that happens
abbrev pub leaving : {N : Type 0} → List (Step N) → List N
leaving [] = []
leaving (Enter n ∷ steps) = leaving steps
leaving (Leave n ∷ steps) = leaving steps ++ n ∷ []

-- a walk from the starts that has marked some keys and has the list `work` still to look at
pub record Walked {N : Type 0} (leads : N → List N) (starts : List N) (marked : N → Bool) (work : List N) : Type 0 where
  pub sound : (n : N) → (marked n ≡ true) ⊎ Stands n work → IsLedTo leads starts n
  pub begun : (n : N) → Stands n starts → (marked n ≡ true) ⊎ Stands n work
  pub closed : (n m : N) → marked n ≡ true → Stands m (leads n) → (marked m ≡ true) ⊎ Stands m work

-- no member of the list stands in it twice
abbrev pub AreDistinct : {N : Type 0} → List N → Type 0
AreDistinct [] = Unit {0}
AreDistinct (n ∷ ns) = (Stands n ns → ⊥) × AreDistinct ns

-- the list has the marked keys, each once
pub record Lists {N : Type 0} (marked : N → Bool) (keys : List N) : Type 0 where
  pub marks : (n : N) → Stands n keys → marked n ≡ true
  pub marked_stand : (n : N) → marked n ≡ true → Stands n keys
  pub once : AreDistinct keys

-- how many members and edges of the list are not marked yet
abbrev pub unmarked : {N : Type 0} → (N → List N) → (N → Bool) → List N → ℕ
unmarked leads marked [] = 0
unmarked leads marked (n ∷ ns) = cond (marked n) 0 (suc (length (leads n))) + unmarked leads marked ns

-- each key stands behind all that it leads to, but for what leads back to it; `before` stands before the list
abbrev pub AreInOrder : {N : Type 0} → (N → List N) → List N → List N → Type 0
AreInOrder leads before [] = Unit {0}
AreInOrder {N} leads before (n ∷ ns) = ((m : N) → Stands m (leads n) → Stands m before ⊎ LeadsTo leads m n) × AreInOrder leads (n ∷ before) ns

-- each key that is to be left leads to all that comes after it in the list of steps, and what it leads to is marked or comes after it
abbrev pub AreAwaited : {N : Type 0} → (N → List N) → (N → Bool) → List (Step N) → Type 0
AreAwaited leads marked [] = Unit {0}
AreAwaited leads marked (Enter n ∷ steps) = AreAwaited leads marked steps
AreAwaited {N} leads marked (Leave n ∷ steps) =
    ((m : N) → Stands m (leads n) → (marked m ≡ true) ⊎ Stands m (entering steps))
    × ((m : N) → Stands m (entering steps) ⊎ Stands m (leaving steps) → LeadsTo leads n m)
    × AreAwaited leads marked steps

-- a walk from the starts that has marked some keys and left some of them, and has these steps still to take, the last one first
pub record IsWalk {N : Type 0} (leads : N → List N) (starts : List N) (marked : N → Bool) (left : List N) (steps : List (Step N)) : Type 0 where
  pub walked : Walked leads starts marked (entering steps)
  pub lists : Lists marked (left ++ leaving steps)
  pub ordered : AreInOrder leads [] left
  pub awaited : AreAwaited leads marked steps

-- what a walk has still to do, where the universe has all that any key leads to
abbrev pub remaining : {N : Type 0} → (N → List N) → List N → List N → (N → Bool) → List (Step N) → ℕ
remaining leads universe starts marked steps = unmarked leads marked (starts ++ universe) + length steps

-- a step of any walk: it stays a walk and has less to do, or had nothing left to do
pub record Advances {N : Type 0} (leads : N → List N) (universe : List N) (more : Bool) (marked next : N → Bool) (left then_left : List N) (steps then_steps : List (Step N)) : Type 0 where
  pub walk : (starts : List N) → IsWalk leads starts marked left steps → IsWalk leads starts next then_left then_steps
  pub less : more ≡ true → (starts : List N) → IsWalk leads starts marked left steps → remaining leads universe starts next then_steps < remaining leads universe starts marked steps
  pub ends : more ≡ false → then_steps ≡ []
