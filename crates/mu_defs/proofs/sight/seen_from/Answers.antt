use Rattle.std.proofs.Common.{arith, ◌≡◌, ◌↔◌, IfOk, ap, subst, ◌∙◌, ℕ, List, [], ◌∷◌, ◌++◌}
use Rattle.std.specs.FinMap as finite
use Rattle.std.proofs.lemmas.Grind.{common_steps}
use Rattle.mu_graph.specs.Derivations.{Stands}
use Rattle.mu_graph.specs.Walks.{IsLedTo}
use Rattle.mu_decl.specs.Contexts.{base}
use Rattle.mu_defs.specs.Sight.{parents_listed_in, set_of}
use Rattle.mu_defs.proofs.SightLemmas.{reached_seen}
use Rattle.mu_defs.proofs.sight.seen_from.Goals as goal

pub returns-clause-value : goal.returns-clause-value
returns-clause-value c =
    let units = c.args.units.now in
    let unit = c.args.unit.now in
    let found = c.in_ok-found.found.items in
    let starts : c.push.new.self.items ≡ unit ∷ [] = grind (arith, common_steps) in
    let names : c.push-2.new.self.items ≡ found ++ base ∷ [] = grind (arith, common_steps) in
    let reached = subst (λ (from : List (List ℕ)). (n : List ℕ) → Stands n found ↔ IsLedTo (parents_listed_in units) from n) starts c.in_ok-found.ensures.keys in
    subst (λ (sight : List (List ℕ)). IfOk c.names-2.result (λ listed. listed ≡ sight)) (ap finite.keys (c.in_ok-set_of.ensures ∙ ap set_of names) ∙ reached_seen units unit found reached) c.names-2.ensures
