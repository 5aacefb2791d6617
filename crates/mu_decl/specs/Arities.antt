-- Occurrences of metavariables by what is known of each metavariable.
use Rattle.std.specs.Prelude.{Bool, true, ◌&&◌, List, [], ◌∷◌, nat_eq, Option, Some, None}
use Rattle.std.specs.FinMap as finite
use Rattle.mu_tree.specs.Maps.{MapOf}
use Rattle.mu_decl.specs.declared.arities.Arity.{Arity}
use Rattle.mu_decl.specs.declared.occurring.Occurrence.{Occurrence}
use Rattle.mu_decl.specs.Formation.{same_kind}

-- how an occurrence's metavariable occurs there
abbrev pub arity_of : Occurrence → Arity
arity_of o = record { count = o.count; kind = o.kind }

-- whether an occurrence is of this arity, if one is known
abbrev pub has_arity : Option Arity → Occurrence → Bool
has_arity None o = true
has_arity (Some a) o = nat_eq o.count a.count && same_kind o.kind a.kind

-- the known arities with that of an occurrence, where what is known of its metavariable is this
abbrev pub with_arity_at : MapOf Arity → Occurrence → Option Arity → MapOf Arity
with_arity_at known o None = finite.insert known o.meta (arity_of o)
with_arity_at known o (Some a) = known

-- the known arities with that of an occurrence, where its metavariable has none yet
abbrev pub with_arity : MapOf Arity → Occurrence → MapOf Arity
with_arity known o = with_arity_at known o (finite.get known o.meta)

-- whether each occurrence is of the arity that is known before it
abbrev pub agree_in_turn : MapOf Arity → List Occurrence → Bool
agree_in_turn known [] = true
agree_in_turn known (o ∷ rest) = has_arity (finite.get known o.meta) o && agree_in_turn (with_arity known o) rest
