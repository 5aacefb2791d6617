-- What is derivable, and what leads where, as tests that compute.
use Rattle.std.specs.Prelude.{ℕ, zero, suc, Bool, false, List, [], ◌∷◌, cond, length, map}
use Rattle.mu_graph.specs.Derivations.{is_ready}

-- whether n has a derivation of at most this height: a key with no premises has one of height 1
abbrev pub derivable : {N : Type 0} → (N → List (List N)) → ℕ → N → Bool
derivable ways zero n = false
derivable ways (suc k) n = is_ready (derivable ways k) (ways n)

-- whether n is derivable, where the list has each key with a way
abbrev pub is_derivable : {N : Type 0} → (N → List (List N)) → List N → N → Bool
is_derivable ways keys n = derivable ways (length keys) n

-- the premises of an edge to m as a way to arrive at `to`: none where it ends there, and otherwise m
abbrev pub arrival : {N : Type 0} → (N → N → Bool) → N → N → List N
arrival same to m = cond (same m to) [] (m ∷ [])

-- the ways to arrive at `to`: each edge of a key is one
abbrev pub arrivals : {N : Type 0} → (N → N → Bool) → (N → List N) → N → N → List (List N)
arrivals same leads to from = map (arrival same to) (leads from)

-- whether `from` leads to `to`, where the list has each key that leads to some key
abbrev pub leads_to : {N : Type 0} → (N → N → Bool) → (N → List N) → List N → N → N → Bool
leads_to same leads keys from to = is_derivable (arrivals same leads to) keys from

-- whether n leads back to itself
abbrev pub on_circle : {N : Type 0} → (N → N → Bool) → (N → List N) → List N → N → Bool
on_circle same leads keys n = leads_to same leads keys n n
