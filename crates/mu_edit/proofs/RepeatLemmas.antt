-- Names that stand twice.
use Rattle.std.proofs.Common.{◌≡◌, ◌⊎◌, inl, inr, ℕ, Bool, true, false, List, [], ◌∷◌, ◌++◌, refl, ap, sym, ◌∙◌, subst, append_assoc}
use Rattle.std.specs.Prelude.{if◌then◌else◌, ◌||◌, Some, is_some}
use Rattle.std.specs.Bool.{nat_eq}
use Rattle.std.specs.List.{AllByRecursion, IsDistinct}
use Rattle.std.specs.Cmp.Lexicographic.{pointwise, bytes_decides, nat_list_eq_equiv}
use Rattle.std.specs.FinMap as finite
use Rattle.mu_tree.specs.Maps.{NamesOf}
use Rattle.mu_tree.proofs.MapLemmas.{get-insert_here, get-insert_other, same_name}
use Rattle.std.proofs.lemmas.Map.Keys.{IsDistinct-cons, IsDistinct-head, IsDistinct-tail}
use Rattle.mu_tree.specs.Names.{is_among}
use Rattle.mu_edit.specs.Repeats.{Tells, RepeatsAreFirst, repeated, repeated_behind}

abbrev same : List ℕ → List ℕ → Bool
same = pointwise nat_eq

neither : (a b : Bool) → a || b ≡ false → (a ≡ false) × (b ≡ false)
neither true b e = cc
neither false b e = (refl, e)

-- one more at the end, which none of them equals
one_more : (names : List (List ℕ)) (name : List ℕ) → IsDistinct same names → is_among names name ≡ false → IsDistinct same (names ++ name ∷ [])
one_more [] name d none = IsDistinct-cons same name [] tt d
one_more (first ∷ names) name d none =
    let apart = neither (same first name) (is_among names name) none in
    IsDistinct-cons same first (names ++ name ∷ []) (all_more names (IsDistinct-head same first names d) apart.0) (one_more names name (IsDistinct-tail same first names d) apart.1)
  where
    all_more : (others : List (List ℕ)) → AllByRecursion (λ other. same first other ≡ false) others → same first name ≡ false → AllByRecursion (λ other. same first other ≡ false) (others ++ name ∷ [])
    all_more [] all e = (e, tt)
    all_more (other ∷ others) all e = (all.0, all_more others all.1 e)

tells_behind : (all before names : List (List ℕ)) → all ≡ before ++ names → IsDistinct same before → Tells all (repeated_behind before names)
tells_behind all before [] is d = subst (IsDistinct same) (sym (is ∙ append_nil before)) d
  where
    append_nil : (xs : List (List ℕ)) → xs ++ [] ≡ xs
    append_nil [] = refl
    append_nil (x ∷ xs) = ap (λ ys. x ∷ ys) (append_nil xs)
tells_behind all before (name ∷ names) is d = at (is_among before name) refl (λ e. tells_behind all (before ++ name ∷ []) names (is ∙ sym (append_assoc before (name ∷ []) names)) (one_more before name d e))
  where
    at : (found : Bool) → is_among before name ≡ found → (is_among before name ≡ false → Tells all (repeated_behind (before ++ name ∷ []) names)) → Tells all (if found then Some name else repeated_behind (before ++ name ∷ []) names)
    at true e later = (before, names, is, d, e)
    at false e later = later e

pub repeats_are_first : RepeatsAreFirst
unfolding RepeatsAreFirst repeated IsDistinct
repeats_are_first = λ names. tells_behind names [] names refl tt

-- whether a name is among some with one more
pub among_more : (names : List (List ℕ)) (name q : List ℕ) → is_among (names ++ name ∷ []) q ≡ (is_among names q || same name q)
among_more [] name q = or_false (same name q)
  where
    or_false : (b : Bool) → b || false ≡ (false || b)
    or_false true = refl
    or_false false = refl
among_more (first ∷ names) name q = ap (λ b. same first q || b) (among_more names name q) ∙ sym (assoc (same first q) (is_among names q) (same name q))
  where
    assoc : (a b c : Bool) → (a || b) || c ≡ (a || (b || c))
    assoc true b c = refl
    assoc false b c = refl

or_true : (b : Bool) → b || true ≡ true
or_true true = refl
or_true false = refl

or_none : (b : Bool) → b || false ≡ b
or_none true = refl
or_none false = refl

apart_by : (a b : List ℕ) → (a ≡ b → ⊥) → same a b ≡ false
apart_by a b n = at (same a b) refl
  where
    at : (equal : Bool) → same a b ≡ equal → equal ≡ false
    at true e = absurd (n ((bytes_decides a b).0 e))
    at false e = refl

-- a set that has some names, with one more
pub set_more : (set : NamesOf) (names : List (List ℕ)) (name : List ℕ) → ((q : List ℕ) → finite.contains_key set q ≡ is_among names q)
    → (q : List ℕ) → finite.contains_key (finite.insert set name tt) q ≡ is_among (names ++ name ∷ []) q
set_more set names name has q = by (same_name name q)
  where
    by : (name ≡ q) ⊎ (name ≡ q → ⊥) → finite.contains_key (finite.insert set name tt) q ≡ is_among (names ++ name ∷ []) q
    by (inl e) = subst (λ (n : List ℕ). finite.contains_key (finite.insert set name tt) n ≡ is_among (names ++ name ∷ []) n) e
        (ap is_some (get-insert_here set name tt) ∙ sym (among_more names name name ∙ (ap (λ b. is_among names name || b) (nat_list_eq_equiv.refl name) ∙ or_true (is_among names name))))
    by (inr n) = ap is_some (get-insert_other set name tt q n) ∙ (has q ∙ sym (among_more names name q ∙ (ap (λ b. is_among names q || b) (apart_by name q n) ∙ or_none (is_among names q))))

pub from_start : (names : List (List ℕ)) → repeated names ≡ repeated_behind [] names
unfolding repeated
from_start names = refl

-- a name that none before it equals stands before those that follow
pub goes_on : (before names : List (List ℕ)) (first name : List ℕ) → first ≡ name → is_among before name ≡ false → repeated_behind before (first ∷ names) ≡ repeated_behind (before ++ name ∷ []) names
goes_on before names first name same_ none =
    ap (λ n. repeated_behind before (n ∷ names)) same_ ∙ ap (λ b. if b then Some name else repeated_behind (before ++ name ∷ []) names) none
