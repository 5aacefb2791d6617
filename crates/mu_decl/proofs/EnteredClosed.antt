-- What is entered under some bound names has no loose indices but those of these names.
use Rattle.std.proofs.Common.{◌≡◌, ℕ, ◌+◌, Bool, true, false, cond, nat_lt, List, [], ◌∷◌, ◌++◌, map, length, reverse, Option, Some, None, refl, ap, sym, ◌∙◌, arith}
use Rattle.std.specs.List.{AllByRecursion}
use Rattle.std.proofs.lemmas.List.{length-append, length-reverse}
use Rattle.std.proofs.lemmas.Option.{slice_get_within}
use Rattle.mu_tree.specs.Names.{is_among}
use Rattle.mu_tree.specs.declared.trees.Tree.{Tree}
use Rattle.mu_tree.specs.declared.trees.Tree.TheVariants as tree
use Rattle.mu_decl.specs.declared.bare.Bare.{Bare}
use Rattle.mu_decl.specs.declared.bare.Bare.TheVariants as bare
use Rattle.mu_decl.specs.Nameless.{place, leaf_at, applied, nameless}
use Rattle.mu_decl.specs.Laws.{every, closed, EnteredIsClosed}
use Rattle.mu_decl.proofs.EnteringEquations.{nameless-app, nameless-meta, nameless-bind}
use Rattle.mu_decl.proofs.Closing.{closed-var, closed-index, closed-app, closed-meta, closed-bind, and_true}
use Rattle.mu_tree.proofs.TreeInduction.{tree_ind}
use Rattle.mu_decl.proofs.Places.{place_get}

module _ (scope : List (List ℕ)) where
  abbrev Closed : Tree → Type 0
  Closed t = (bound : List (List ℕ)) → closed (length bound) (nameless scope bound t) ≡ true

  closed_all : (bound : List (List ℕ)) (ts : List Tree) → AllByRecursion Closed ts → every (map (closed (length bound)) (map (nameless scope bound) ts)) ≡ true
  closed_all bound [] c = refl
  closed_all bound (t ∷ ts) c = and_true (closed (length bound) (nameless scope bound t)) (every (map (closed (length bound)) (map (nameless scope bound) ts))) (c.0 bound) (closed_all bound ts c.1)

  unbound : (k : ℕ) (name : List ℕ) (b : Bool) → closed k (cond b (bare.Var name) (bare.App name [])) ≡ true
  unbound k name true = closed-var k name
  unbound k name false = closed-app k name []

  closed_leaf : (bound : List (List ℕ)) (n : List ℕ) (o : Option ℕ) → place bound n ≡ o → closed (length bound) (leaf_at scope n o) ≡ true
  closed_leaf bound n None e = unbound (length bound) n (is_among scope n)
  closed_leaf bound n (Some i) e =
      let got = place_get bound n i e in
      let within = slice_get_within (reverse bound) i n got in
      let len = length-reverse bound in
      let below : nat_lt i (length bound) ≡ true = grind (arith, within, len) in
      closed-index (length bound) i ∙ below

  closed_applied : (bound : List (List ℕ)) (n : List ℕ) (us : List Bare) → every (map (closed (length bound)) us) ≡ true → closed (length bound) (applied scope bound n us) ≡ true
  closed_applied bound n [] e = closed_leaf bound n (place bound n) refl
  closed_applied bound n (u ∷ us) e = closed-app (length bound) n (u ∷ us) ∙ e

  entered : (t : Tree) → Closed t
  entered = tree_ind Closed app meta bind
    where
      app : (n : List ℕ) (ts : List Tree) → AllByRecursion Closed ts → Closed (tree.App n ts)
      app n ts c bound = ap (closed (length bound)) (nameless-app scope bound n ts) ∙ closed_applied bound n (map (nameless scope bound) ts) (closed_all bound ts c)

      meta : (m : List ℕ) (ts : List Tree) → AllByRecursion Closed ts → Closed (tree.Meta m ts)
      meta m ts c bound = ap (closed (length bound)) (nameless-meta scope bound m ts) ∙ closed-meta (length bound) m (map (nameless scope bound) ts) ∙ closed_all bound ts c

      bind : (b v : List ℕ) (domain body : Tree) → Closed domain → Closed body → Closed (tree.Bind b v domain body)
      bind b v domain body c d bound =
          let one : length (bound ++ v ∷ []) ≡ length bound + 1 = length-append bound (v ∷ []) in
          let deeper : closed (length bound + 1) (nameless scope (bound ++ v ∷ []) body) ≡ true = ap (λ k. closed k (nameless scope (bound ++ v ∷ []) body)) (sym one) ∙ d (bound ++ v ∷ []) in
          ap (closed (length bound)) (nameless-bind scope bound b v domain body) ∙ closed-bind (length bound) b (nameless scope bound domain) (nameless scope (bound ++ v ∷ []) body) ∙ and_true (closed (length bound) (nameless scope bound domain)) (closed (length bound + 1) (nameless scope (bound ++ v ∷ []) body)) (c bound) deeper

pub entered_is_closed : EnteredIsClosed
unfolding EnteredIsClosed
entered_is_closed scope bound t = entered scope t bound
