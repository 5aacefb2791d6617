-- Occurrences of metavariables in a table.
use Rattle.std.specs.Prelude.{◌≡◌, ℕ, Bool, cond, List, [], ◌∷◌, ◌++◌, slice_get, nat_eq, Option, find}
use Rattle.std.specs.Option.{unwrap_or}
use Rattle.std.specs.List.{list_all, list_any}
use Rattle.std.specs.Cmp.Lexicographic.{pointwise}
use Rattle.std.specs.FinMap as finite
use Rattle.mu_tree.specs.Maps.{MapOf}
use Rattle.mu_decl.specs.declared.occurring.Occurrence.{Occurrence}
use Rattle.mu_decl.specs.Claims.{same_occurrence}

-- whether a metavariable occurs in this way in the claim of the proof's rule
abbrev pub is_known : List Occurrence → Occurrence → Bool
is_known metas o = list_any (same_occurrence o) metas

-- whether all of some metavariables occur so in the claim of the proof's rule
abbrev pub are_known : List Occurrence → List Occurrence → Bool
are_known metas all = list_all (is_known metas) all

-- the first occurrence of a metavariable
abbrev pub first_of : List Occurrence → List ℕ → Option Occurrence
first_of all m = find (λ o. pointwise nat_eq o.meta m) all

-- the occurrences of a metavariable
abbrev pub occurrences_at : MapOf (List Occurrence) → List ℕ → List Occurrence
occurrences_at table m = unwrap_or (finite.get table m) []

-- whether a metavariable occurs in this way
abbrev pub is_tabled : MapOf (List Occurrence) → Occurrence → Bool
is_tabled table o = is_known (occurrences_at table o.meta) o

-- the table with an occurrence more, unless its metavariable occurs in this way already
abbrev pub noted : MapOf (List Occurrence) → Occurrence → MapOf (List Occurrence)
noted table o = cond (is_tabled table o) table (finite.insert table o.meta (occurrences_at table o.meta ++ o ∷ []))

-- a table has what is asked of some occurrences
pub record Tells (table : MapOf (List Occurrence)) (all : List Occurrence) : Type 0 where
  pub known : (o : Occurrence) → is_tabled table o ≡ is_known all o
  pub first : (m : List ℕ) → slice_get (occurrences_at table m) 0 ≡ first_of all m
