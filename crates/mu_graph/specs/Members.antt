-- Membership in two lists put together. It stands here because the law of an instance cites it.
use Rattle.std.specs.Prelude.{List, [], ◌∷◌, ◌++◌}
use Rattle.std.proofs.Common.{inl, inr}
use Rattle.mu_graph.specs.Derivations.{Stands}

module _ {N : Type 0} where
  -- a member of the first list is one of both
  pub stands_front : (n : N) (xs ys : List N) → Stands n xs → Stands n (xs ++ ys)
  stands_front n [] ys h = absurd h
  stands_front n (x ∷ xs) ys (inl e) = inl e
  stands_front n (x ∷ xs) ys (inr s) = inr (stands_front n xs ys s)

  -- a member of the second list is one of both
  pub stands_back : (n : N) (xs ys : List N) → Stands n ys → Stands n (xs ++ ys)
  stands_back n [] ys h = h
  stands_back n (x ∷ xs) ys h = inr (stands_back n xs ys h)
