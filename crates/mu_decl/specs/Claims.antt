-- Which claims are well formed.
use Rattle.std.specs.Prelude.{ℕ, Bool, true, not, ◌&&◌, ◌||◌, List, [], ◌∷◌, ◌++◌, map, nat_eq}
use Rattle.std.specs.List.{list_all, flat_map}
use Rattle.std.specs.Cmp.Lexicographic.{pointwise}
use Rattle.mu_tree.specs.declared.trees.Tree.{Tree}
use Rattle.mu_tree.specs.declared.claim.Kind.TheVariants.{E, T}
use Rattle.mu_tree.specs.declared.claim.TypedVar.{TypedVar}
use Rattle.mu_tree.specs.declared.claim.Hyp.{Hyp}
use Rattle.mu_tree.specs.declared.claim.Hyp.TheVariants as hypothesis
use Rattle.mu_tree.specs.declared.claim.Claim.{Claim}
use Rattle.mu_decl.specs.declared.formation.Scoped.{Scoped}
use Rattle.mu_decl.specs.declared.occurring.Occurrence.{Occurrence}
use Rattle.mu_decl.specs.Contexts.{World}
use Rattle.mu_decl.specs.Formation.{is_formed, expression, same_kind, occurrences, spread}

-- the names of some typed variables
abbrev pub names_of : List TypedVar → List (List ℕ)
names_of vars = map (λ v. v.name) vars

-- some typed variables in scope
abbrev pub scope_of : List TypedVar → List Scoped
scope_of vars = map expression (names_of vars)

-- each type is well formed in the scope of the variables before it
abbrev pub types_formed : World → List (List ℕ) → List Scoped → List TypedVar → Bool
types_formed w seen scope [] = true
types_formed w seen scope (v ∷ vars) = is_formed w seen scope T v.ty && types_formed w seen (scope ++ expression v.name ∷ []) vars

-- a hypothesis is an element, or a sequent of types, premises and an upshot in the scope of its variables
abbrev pub hypothesis_formed : World → List (List ℕ) → Hyp → Bool
hypothesis_formed w seen (hypothesis.Plain t) = is_formed w seen [] E t
hypothesis_formed w seen (hypothesis.Sequent vars premises upshot) = types_formed w seen [] vars && list_all (is_formed w seen (scope_of vars) E) premises && is_formed w seen (scope_of vars) E upshot

-- the occurrences of metavariables in the type of a variable
abbrev pub type_occurrences : World → TypedVar → List Occurrence
type_occurrences w v = occurrences w v.ty T

-- the occurrences of metavariables in some trees of elements
abbrev pub all_occurrences : World → List Tree → List Occurrence
all_occurrences w trees = spread [] (map (occurrences w) trees)

-- the occurrences of metavariables in a hypothesis
abbrev pub hypothesis_occurrences : World → Hyp → List Occurrence
hypothesis_occurrences w (hypothesis.Plain t) = occurrences w t E
hypothesis_occurrences w (hypothesis.Sequent vars premises upshot) = flat_map (type_occurrences w) vars ++ all_occurrences w premises ++ occurrences w upshot E

-- the occurrences of metavariables in a claim: those of its hypotheses, then those of its conclusion
abbrev pub claim_occurrences : World → Claim → List Occurrence
claim_occurrences w claim = flat_map (hypothesis_occurrences w) claim.hyps ++ occurrences w claim.conclusion E

-- two occurrences are of one metavariable, with as many arguments and of the same kind
abbrev pub same_occurrence : Occurrence → Occurrence → Bool
same_occurrence o p = pointwise nat_eq p.meta o.meta && nat_eq p.count o.count && same_kind p.kind o.kind

-- two occurrences of one metavariable have as many arguments and the same kind
abbrev pub agree : Occurrence → Occurrence → Bool
agree o p = not (pointwise nat_eq p.meta o.meta) || same_occurrence o p

-- an occurrence agrees with all of some
abbrev pub agrees : List Occurrence → Occurrence → Bool
agrees all o = list_all (agree o) all

-- a claim is well formed where these units are seen: its parts are, and its occurrences agree
abbrev pub claim_formed : World → List (List ℕ) → Claim → Bool
claim_formed w seen claim = list_all (hypothesis_formed w seen) claim.hyps && is_formed w seen [] E claim.conclusion && list_all (agrees (claim_occurrences w claim)) (claim_occurrences w claim)

-- a claim is well formed in a unit
abbrev pub well_formed : World → List ℕ → Claim → Bool
well_formed w u claim = claim_formed w (w.seen u) claim
