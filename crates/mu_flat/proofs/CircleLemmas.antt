-- Circles of citations, and the first rule on one.
use Rattle.std.proofs.Common.{◌≡◌, ◌↔◌, ◌∙◌, IsTrue, inl, inr, sym, ap, subst, refl, ℕ, true, List, [], Option, Some, None}
use Rattle.std.specs.Option.{option_map_or}
use Rattle.std.specs.Prelude.{is_some}
use Rattle.std.specs.Ordering.{nat_cmp}
use Rattle.std.specs.Cmp.Lexicographic.{bytes_decides, slice_cmp}
use Rattle.std.specs.FinMap as finite
use Rattle.std.proofs.lemmas.Bool.{false≢true}
use Rattle.mu_tree.specs.Maps.{NamesOf}
use Rattle.mu_graph.specs.Circles.{IsAcyclic, IsTurned, GainsAt}
use Rattle.mu_graph.specs.Derivations.{Stands}
use Rattle.mu_graph.specs.Told.{AllNamed, IsFirstClosed}
use Rattle.mu_graph.proofs.DerivationLemmas.{stands_map}
use Rattle.mu_graph.proofs.NameLemmas.{key_stands, linking_stands}
use Rattle.mu_graph.proofs.ToldLemmas as told
use Rattle.mu_proof.specs.declared.citations.Cited.{Cited}
use Rattle.mu_proof.specs.declared.citations.Cited.TheVariants.{Rule, Morphism}
use Rattle.mu_flat.specs.CitedSets.{told_name, rules_tell}
use Rattle.mu_flat.specs.CiterTables.{CitersOf, citers_of, citing, as_rules, HasAllCiters}
use Rattle.mu_flat.specs.Circles.{same_cited, first_circle}
use Rattle.mu_flat.specs.ProofTables.{ProofsOf, leads, cited_in}

one_rule : (a b : List ℕ) → Rule a ≡ Rule b → a ≡ b
one_rule a b e = cc

one_morphism : (a b : List ℕ) → Morphism a ≡ Morphism b → a ≡ b
one_morphism a b e = cc

no_rule : (a b : List ℕ) → Rule a ≡ Morphism b → ⊥
no_rule a b e = cc

-- the test tells whether two are one
pub same_exact : (a b : Cited) → IsTrue (same_cited a b) ↔ (a ≡ b)
same_exact (Rule a) (Rule b) = (λ h. ap Rule ((bytes_decides a b).0 h), λ e. (bytes_decides a b).1 (one_rule a b e))
same_exact (Morphism a) (Morphism b) = (λ h. ap Morphism ((bytes_decides a b).0 h), λ e. (bytes_decides a b).1 (one_morphism a b e))
same_exact (Rule a) (Morphism b) = (λ h. absurd (false≢true h), λ e. absurd (no_rule a b e))
same_exact (Morphism a) (Rule b) = (λ h. absurd (false≢true h), λ e. absurd (no_rule b a (sym e)))

-- what leads somewhere is a rule that has a proof
pub rules_lead : (proofs : ProofsOf) → AllNamed (leads proofs) Rule (finite.keys proofs)
rules_lead proofs (Rule rule) to s = stands_map Rule rule (finite.keys proofs) (linking_stands cited_in proofs rule to s)
rules_lead proofs (Morphism morphism) to s = absurd s

-- where none is told, there is none
pub told_acyclic : (proofs : ProofsOf) → None ≡ first_circle proofs → IsAcyclic (leads proofs)
told_acyclic proofs none = told.told_acyclic same_cited same_exact Rule (leads proofs) (finite.keys proofs) (rules_lead proofs) none

-- the first rule on the circles that are closed where a rule gains citations is the first that leads back to itself
pub closed_first : (before after : ProofsOf) (rule : List ℕ) (gained : List Cited) → IsAcyclic (leads before) → GainsAt (leads before) (leads after) (Rule rule) gained
    → (starts : List Cited) (to : Cited) → starts ≡ gained → to ≡ Rule rule → (first : Option (List ℕ)) → IsFirstClosed Rule (leads before) starts to first → first ≡ first_circle after
closed_first before after rule gained acyclic gains starts to begun ends first is =
    told.closed_told same_cited same_exact Rule (told.one_name told_name Rule rules_tell) (leads before) (leads after) (Rule rule) gained acyclic gains after (rules_lead after) first
    (subst (λ end. IsFirstClosed Rule (leads before) gained end first) ends (subst (λ from. IsFirstClosed Rule (leads before) from to first) begun is))

-- ---- citations turned round
kept_citing : (citers : CitersOf) (rule from : List ℕ) → finite.contains_key (citers_of citers rule) from ≡ true → Stands (Rule from) (citing citers (Rule rule))
kept_citing citers rule from is = go (finite.get citers rule) is
  where
    go : (found : Option NamesOf) → finite.contains_key (option_map_or (λ (names : NamesOf). names) found finite.empty) from ≡ true → Stands (Rule from) (option_map_or as_rules found [])
    go None h = absurd (false≢true (sym (ap is_some (finite.get-empty (slice_cmp nat_cmp) from)) ∙ h))
    go (Some names) h = stands_map Rule from (finite.keys names) (key_stands names from h)

-- a table with all that cite a rule has the citations turned round
pub citing_turned : (citers : CitersOf) (proofs : ProofsOf) → HasAllCiters citers proofs → (rule : List ℕ) → IsTurned (leads proofs) (citing citers) (Rule rule)
citing_turned citers proofs all rule (Morphism morphism) to s = absurd s
citing_turned citers proofs all rule (Rule from) (Rule to) s = inl (kept_citing citers to from (all to from s))
citing_turned citers proofs all rule (Rule from) (Morphism morphism) s = inr (refl, λ e. no_rule rule morphism (sym e))
