-- Opening after entering under the names is the same as entering with the names in scope.
use Rattle.std.proofs.Common.{◌≡◌, ℕ, ◌+◌, ◌-◌, Bool, true, false, ◌||◌, cond, nat_lt, List, [], ◌∷◌, ◌++◌, map, length, reverse, Option, Some, None, refl, ap, arith}
use Rattle.std.specs.List.{AllByRecursion}
use Rattle.std.proofs.lemmas.List.{map-append, reverse-append, append_assoc, length-append, length-reverse}
use Rattle.std.proofs.lemmas.List.Folds.{list_any-append}
use Rattle.std.proofs.lemmas.Option.{slice_get-map, slice_get_within}
use Rattle.mu_tree.specs.Names.{is_among}
use Rattle.mu_tree.specs.declared.trees.Tree.{Tree}
use Rattle.mu_tree.specs.declared.trees.Tree.TheVariants as tree
use Rattle.mu_decl.specs.declared.bare.Bare.{Bare}
use Rattle.mu_decl.specs.declared.bare.Bare.TheVariants as bare
use Rattle.mu_decl.specs.Nameless.{place, leaf_at, leaf, applied, nameless}
use Rattle.mu_decl.specs.Opening.{open_under}
use Rattle.mu_decl.proofs.EnteringEquations.{nameless-app, nameless-meta, nameless-bind}
use Rattle.mu_decl.proofs.OpeningEquations.{shift-var, open-var, open-index, open-app, open-meta, open-bind}
use Rattle.mu_decl.specs.Laws.{OpeningEnters}
use Rattle.mu_tree.proofs.TreeInduction.{tree_ind}
use Rattle.mu_decl.proofs.Places.{onto, place-append, place_get, is_among_none, is_among_some}

module _ (scope xs : List (List ℕ)) where
  abbrev vars : List Bare
  vars = map bare.Var xs

  -- a name without arguments, by where it stands among the inner names and among the others
  abbrev Leaf : List (List ℕ) → List ℕ → Option ℕ → Option ℕ → Type 0
  Leaf inner n here there = open_under vars (length inner) (leaf_at scope n (onto (length inner) here there)) ≡ leaf_at (scope ++ xs) n here

  reverse_vars : (ys : List (List ℕ)) → reverse (map bare.Var ys) ≡ map bare.Var (reverse ys)
  reverse_vars [] = refl
  reverse_vars (y ∷ ys) = cc (reverse-append (y ∷ []) ys, reverse-append (bare.Var y ∷ []) (map bare.Var ys), map-append bare.Var (reverse ys) (y ∷ []), reverse_vars ys)

  among : (n : List ℕ) → is_among (scope ++ xs) n ≡ (is_among scope n || is_among xs n)
  among n = list_any-append _ scope xs

  open_cond : (b : Bool) (d : ℕ) (n : List ℕ) → open_under vars d (cond b (bare.Var n) (bare.App n [])) ≡ cond (b || false) (bare.Var n) (bare.App n [])
  open_cond true d n = open-var vars d n
  open_cond false d n = open-app vars d n []

  or_true : (b : Bool) → (b || true) ≡ true
  or_true true = refl
  or_true false = refl

  leaf_case : (inner : List (List ℕ)) (n : List ℕ) (here there : Option ℕ) → place inner n ≡ here → place xs n ≡ there → Leaf inner n here there
  leaf_case inner n None None e f = cc (open_cond (is_among scope n) (length inner) n, among n, is_among_none xs n f)
  leaf_case inner n (Some i) there e f =
      let got = place_get inner n i e in
      let within = slice_get_within (reverse inner) i n got in
      let len = length-reverse inner in
      let below : nat_lt i (length inner) ≡ true = grind (arith, within, len) in
      cc (open-index vars (length inner) i, below)
  leaf_case inner n None (Some j) e f =
      let d = length inner in
      let got = place_get xs n j f in
      let past : nat_lt (d + j) d ≡ false = grind arith in
      let back : (d + j) - d ≡ j = omega arith in
      let found = slice_get-map bare.Var (reverse xs) j in
      cc (open-index vars d (d + j), past, back, reverse_vars xs, found, got, shift-var d 0 n, among n, is_among_some xs n j f, or_true (is_among scope n))

  open_leaf : (inner : List (List ℕ)) (n : List ℕ) → open_under vars (length inner) (leaf scope (xs ++ inner) n) ≡ leaf (scope ++ xs) inner n
  open_leaf inner n = cc (leaf_case inner n (place inner n) (place xs n) refl refl, place-append xs inner n)

  abbrev Enters : List (List ℕ) → Tree → Type 0
  Enters inner t = open_under vars (length inner) (nameless scope (xs ++ inner) t) ≡ nameless (scope ++ xs) inner t

  enters_all : (inner : List (List ℕ)) (ts : List Tree) → AllByRecursion (λ t. (ys : List (List ℕ)) → Enters ys t) ts → map (open_under vars (length inner)) (map (nameless scope (xs ++ inner)) ts) ≡ map (nameless (scope ++ xs) inner) ts
  enters_all inner [] c = refl
  enters_all inner (t ∷ ts) c =
      let e = c.0 inner in
      let r = enters_all inner ts c.1 in
      cc

  open_applied : (inner : List (List ℕ)) (n : List ℕ) (ts : List Bare) (us : List Bare) → map (open_under vars (length inner)) ts ≡ us → open_under vars (length inner) (applied scope (xs ++ inner) n ts) ≡ applied (scope ++ xs) inner n us
  open_applied inner n [] [] e = open_leaf inner n
  open_applied inner n [] (u ∷ us) e = cc
  open_applied inner n (t ∷ ts) [] e = cc
  open_applied inner n (t ∷ ts) (u ∷ us) e = cc (open-app vars (length inner) n (t ∷ ts), e)

  enters : (t : Tree) (inner : List (List ℕ)) → Enters inner t
  enters = tree_ind (λ t. (inner : List (List ℕ)) → Enters inner t) app meta bind
    where
      app : (n : List ℕ) (ts : List Tree) → AllByRecursion (λ t. (ys : List (List ℕ)) → Enters ys t) ts → (inner : List (List ℕ)) → Enters inner (tree.App n ts)
      app n ts c inner = cc (nameless-app scope (xs ++ inner) n ts, nameless-app (scope ++ xs) inner n ts, open_applied inner n (map (nameless scope (xs ++ inner)) ts) (map (nameless (scope ++ xs) inner) ts) (enters_all inner ts c))

      meta : (m : List ℕ) (ts : List Tree) → AllByRecursion (λ t. (ys : List (List ℕ)) → Enters ys t) ts → (inner : List (List ℕ)) → Enters inner (tree.Meta m ts)
      meta m ts c inner = cc (nameless-meta scope (xs ++ inner) m ts, nameless-meta (scope ++ xs) inner m ts, open-meta vars (length inner) m (map (nameless scope (xs ++ inner)) ts), enters_all inner ts c)

      bind : (b v : List ℕ) (domain body : Tree) → ((ys : List (List ℕ)) → Enters ys domain) → ((ys : List (List ℕ)) → Enters ys body) → (inner : List (List ℕ)) → Enters inner (tree.Bind b v domain body)
      bind b v domain body c d inner =
          let one : length (inner ++ v ∷ []) ≡ length inner + 1 = length-append inner (v ∷ []) in
          cc (nameless-bind scope (xs ++ inner) b v domain body, nameless-bind (scope ++ xs) inner b v domain body, open-bind vars (length inner) b (nameless scope (xs ++ inner) domain) (nameless scope ((xs ++ inner) ++ v ∷ []) body), append_assoc xs inner (v ∷ []), one, c inner, d (inner ++ v ∷ []))

append_none : (xs : List (List ℕ)) → xs ++ [] ≡ xs
append_none [] = refl
append_none (x ∷ xs) = ap (λ ys. x ∷ ys) (append_none xs)

pub opening_enters : OpeningEnters
unfolding OpeningEnters
opening_enters scope xs t = cc (enters scope xs t [], append_none xs)
