-- Which instantiations are ones of a claim.
use Rattle.std.specs.Prelude.{◌≡◌, ℕ, Bool, true, false, not, ◌&&◌, List, [], ◌∷◌, ◌++◌, map, length, nat_eq, Option, Some, None}
use Rattle.std.specs.List.{list_all}
use Rattle.std.specs.FinMap as finite
use Rattle.mu_tree.specs.Maps.{NamesOf}
use Rattle.mu_tree.specs.Names.{is_among}
use Rattle.mu_tree.specs.declared.why.Given.{Given}
use Rattle.mu_decl.specs.Contexts.{World}
use Rattle.mu_decl.specs.declared.formation.Scoped.{Scoped}
use Rattle.mu_decl.specs.declared.occurring.Occurrence.{Occurrence}
use Rattle.mu_decl.specs.Formation.{is_formed, occurrences, expression}
use Rattle.mu_check.specs.declared.allowed.Allowed.{Allowed}
use Rattle.mu_check.specs.Metas.{are_known, first_of}

-- no name stands twice
abbrev pub are_distinct : List (List ℕ) → Bool
are_distinct [] = true
are_distinct (n ∷ names) = not (is_among names n) && are_distinct names

-- a set of names is that of a list in which no name stands twice
pub record AreSet (set : NamesOf) (names : List (List ℕ)) : Type 0 where
  pub distinct : are_distinct names ≡ true
  pub among : (n : List ℕ) → finite.contains_key set n ≡ is_among names n

-- some names in scope, and further ones within these
abbrev pub expressions : List (List ℕ) → List (List ℕ) → List Scoped
expressions scope names = map expression scope ++ map expression names

-- whether a body may stand for a metavariable that first occurs so in the cited claim
abbrev pub fits_at : World → Allowed → List (List ℕ) → Given → Option Occurrence → Bool
fits_at w allowed scope g None = false
fits_at w allowed scope g (Some o) = nat_eq o.count (length g.params) && are_distinct g.params && is_formed w allowed.seen (expressions scope g.params) o.kind g.body && are_known allowed.metas (occurrences w g.body o.kind)

-- whether a body may stand for its metavariable, which has to be one of the cited claim
abbrev pub fits : World → Allowed → List (List ℕ) → List Occurrence → Given → Bool
fits w allowed scope all g = fits_at w allowed scope g (first_of all g.meta)

-- the metavariables of an instantiation
abbrev pub metas_of : List Given → List (List ℕ)
metas_of given = map (λ g. g.meta) given

-- whether the metavariable of an occurrence is among some
abbrev pub has_meta : List (List ℕ) → Occurrence → Bool
has_meta names o = is_among names o.meta

-- whether an instantiation gives each metavariable of the cited claim exactly once, no other, and each by a body that fits
abbrev pub is_instance : World → Allowed → List (List ℕ) → List Occurrence → List Given → Bool
is_instance w allowed scope all given = list_all (fits w allowed scope all) given && are_distinct (metas_of given) && list_all (has_meta (metas_of given)) all
