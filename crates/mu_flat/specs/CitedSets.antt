-- Sets of rules and morphisms.
use Rattle.std.specs.Prelude.{ℕ, Bool, List, Option, Some, None, is_some, unwrap_or}
use Rattle.std.specs.FinMap as finite
use Rattle.std.proofs.Common.{sym, ap}
use Rattle.std.proofs.lemmas.Bool.{false≢true}
use Rattle.mu_tree.specs.Maps.{NamesOf}
use Rattle.mu_graph.specs.Told.{Tells}
use Rattle.mu_proof.specs.declared.citations.Cited.{Cited}
use Rattle.mu_proof.specs.declared.citations.Cited.TheVariants.{Rule, Morphism}

-- whether the member is in the set of its sort
abbrev pub is_marked : NamesOf → NamesOf → Cited → Bool
is_marked rules morphisms (Rule rule) = finite.contains_key rules rule
is_marked rules morphisms (Morphism morphism) = finite.contains_key morphisms morphism

-- the name of a rule; a morphism tells none
abbrev pub told_name : Cited → Option (List ℕ)
told_name (Rule rule) = Some rule
told_name (Morphism morphism) = None

-- the law: a member tells a name exactly where it is the rule of that name
pub rules_tell : Tells told_name Rule
rules_tell (Rule rule) name = (λ e. ap Rule (sym (ap (λ told. unwrap_or told rule) e)), λ e. sym (ap told_name e))
rules_tell (Morphism morphism) name = (λ e. absurd (false≢true (ap is_some e)), λ e. sym (ap told_name e))
