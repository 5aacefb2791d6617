-- The kind of a variable, by layers of variables.
use Rattle.std.proofs.Common.{◌≡◌, refl, sym, ap, ◌∙◌, ℕ, Bool, true, false, ◌||◌, cond, List, [], ◌∷◌, ◌++◌, map, reverse, Some, None}
use Rattle.std.specs.Prelude.{Option, nat_eq, find}
use Rattle.std.specs.Option.{option_map, option_or}
use Rattle.std.specs.Cmp.Lexicographic.{pointwise}
use Rattle.std.proofs.lemmas.List.{reverse-append, append_assoc, append-nil, map-append}
use Rattle.std.proofs.lemmas.List.Folds.{find-append}
use Rattle.mu_tree.specs.Names.{is_among}
use Rattle.mu_tree.specs.declared.claim.Kind.{Kind}
use Rattle.mu_tree.specs.declared.claim.Kind.TheVariants.{E}
use Rattle.mu_decl.specs.declared.formation.Scoped.{Scoped}
use Rattle.mu_decl.specs.Formation.{kind_in, expression}
use Rattle.mu_decl.specs.Scopes.{layered}

-- of two layers the second is within the first
mapped_or : {A B : Type 0} (f : A → B) (o p : Option A) → option_map f (option_or o p) ≡ option_or (option_map f o) (option_map f p)
mapped_or f None p = refl
mapped_or f (Some x) p = refl

kind_in-append : (front back : List Scoped) (n : List ℕ) → kind_in (front ++ back) n ≡ option_or (kind_in back n) (kind_in front n)
unfolding kind_in
kind_in-append front back n =
    ap (λ xs. option_map (λ (s : Scoped). s.kind) (find (λ s. pointwise nat_eq s.name n) xs)) (reverse-append front back)
    ∙ ap (option_map (λ (s : Scoped). s.kind)) (find-append (λ (s : Scoped). pointwise nat_eq s.name n) (reverse back) (reverse front))
    ∙ mapped_or (λ (s : Scoped). s.kind) (find (λ s. pointwise nat_eq s.name n) (reverse back)) (find (λ s. pointwise nat_eq s.name n) (reverse front))

abbrev element_if : Bool → Option Kind
element_if b = cond b (Some E) None

-- variables of elements
one_kind : (m n : List ℕ) → kind_in (expression m ∷ []) n ≡ element_if (pointwise nat_eq m n)
unfolding kind_in
one_kind m n = by_test (pointwise nat_eq m n)
  where
    by_test : (b : Bool) → option_map (λ (s : Scoped). s.kind) (cond b (Some (expression m)) None) ≡ element_if b
    by_test true = refl
    by_test false = refl

either : (a b : Bool) → option_or (element_if b) (element_if a) ≡ element_if (a || b)
either true true = refl
either true false = refl
either false true = refl
either false false = refl

kind_in-none : (n : List ℕ) → kind_in [] n ≡ None
unfolding kind_in
kind_in-none n = refl

kind_in-expressions : (names : List (List ℕ)) (n : List ℕ) → kind_in (map expression names) n ≡ element_if (is_among names n)
kind_in-expressions [] n = kind_in-none n
kind_in-expressions (m ∷ names) n =
    kind_in-append (expression m ∷ []) (map expression names) n
    ∙ ap (option_or (kind_in (map expression names) n)) (one_kind m n)
    ∙ ap (λ o. option_or o (element_if (pointwise nat_eq m n))) (kind_in-expressions names n)
    ∙ either (pointwise nat_eq m n) (is_among names n)

or_comm : (a b : Bool) → (a || b) ≡ (b || a)
or_comm true true = refl
or_comm true false = refl
or_comm false true = refl
or_comm false false = refl

kind_in-outer : (scope own : List (List ℕ)) (n : List ℕ) → kind_in (map expression scope ++ map expression own) n ≡ cond (is_among own n || is_among scope n) (Some E) None
kind_in-outer scope own n =
    kind_in-append (map expression scope) (map expression own) n
    ∙ ap (λ o. option_or o (kind_in (map expression scope) n)) (kind_in-expressions own n)
    ∙ ap (option_or (element_if (is_among own n))) (kind_in-expressions scope n)
    ∙ either (is_among scope n) (is_among own n)
    ∙ ap element_if (or_comm (is_among scope n) (is_among own n))

-- the kind of a variable among layers
pub kind_in-layered : (scope own : List (List ℕ)) (inner : List Scoped) (n : List ℕ) → kind_in (layered scope own inner) n ≡ option_or (kind_in inner n) (cond (is_among own n || is_among scope n) (Some E) None)
kind_in-layered scope own inner n = kind_in-append (map expression scope ++ map expression own) inner n ∙ ap (option_or (kind_in inner n)) (kind_in-outer scope own n)

pub ruleset layer_equations = (kind_in-layered)

-- variables of elements that come one after another
pub variables_more : (scope own : List (List ℕ)) (n : List ℕ) → map expression scope ++ map expression (own ++ n ∷ []) ≡ (map expression scope ++ map expression own) ++ expression n ∷ []
variables_more scope own n = ap (λ xs. map expression scope ++ xs) (map-append expression own (n ∷ [])) ∙ sym (append_assoc (map expression scope) (map expression own) (expression n ∷ []))

pub ruleset variable_equations = (variables_more, append-nil)
