-- Rules as pairs of a conclusion and its premises.
use Rattle.std.proofs.Common.{refl, ap, ◌≡◌, ℕ, Bool, true, false, cond, List, [], ◌∷◌, inl, inr}
use Rattle.std.specs.Prelude.{◌&&◌, ◌||◌, map}
use Rattle.std.specs.Bool.{nat_eq}
use Rattle.std.specs.Cmp.Lexicographic.{pointwise, bytes_decides}
use Rattle.std.specs.List.{filter, list_all, list_any}
use Rattle.mu_graph.specs.Derivations.{Stands, is_ready}

module _ (name : List ℕ) where
  -- a rule of this name has its premises marked where one of the ways of the name is ready
  pub ready_ways : (marked : List ℕ → Bool) (rules : List (List ℕ × List (List ℕ)))
      → list_any (λ rule. pointwise nat_eq rule.0 name && list_all marked rule.1) rules ≡ is_ready marked (map (λ rule. rule.1) (filter (λ rule. pointwise nat_eq rule.0 name) rules))
  ready_ways marked [] = refl
  ready_ways marked (rule ∷ rules) =
      elim (pointwise nat_eq rule.0 name) as (λ b. ((b && list_all marked rule.1) || list_any (λ r. pointwise nat_eq r.0 name && list_all marked r.1) rules) ≡ list_any (list_all marked) (map (λ r. r.1) (cond b (rule ∷ filter (λ r. pointwise nat_eq r.0 name) rules) (filter (λ r. pointwise nat_eq r.0 name) rules)))) [
        | true ↦ ap (λ b. list_all marked rule.1 || b) (ready_ways marked rules)
        | false ↦ ready_ways marked rules
      ]

  -- a name with a way is the conclusion of a rule
  pub way_concludes : (rules : List (List ℕ × List (List ℕ))) (way : List (List ℕ)) → Stands way (map (λ rule. rule.1) (filter (λ rule. pointwise nat_eq rule.0 name) rules)) → Stands name (map (λ rule. rule.0) rules)
  way_concludes [] way s = s
  way_concludes (rule ∷ rules) way s =
      elim (pointwise nat_eq rule.0 name) as (λ b. pointwise nat_eq rule.0 name ≡ b → Stands way (map (λ r. r.1) (cond b (rule ∷ filter (λ r. pointwise nat_eq r.0 name) rules) (filter (λ r. pointwise nat_eq r.0 name) rules))) → Stands name (map (λ r. r.0) (rule ∷ rules))) [
        | true ↦ λ e _. inl ((bytes_decides rule.0 name).0 e)
        | false ↦ λ e t. inr (way_concludes rules way t)
      ] refl s
