-- The constants of trees, variant by variant, and that they are those of the nameless tree.
use Rattle.std.proofs.Common.{◌≡◌, ℕ, Bool, true, false, ◌||◌, cond, List, [], ◌∷◌, ◌++◌, map, Option, Some, None, refl, ap, sym, ◌∙◌}
use Rattle.std.specs.List.{AllByRecursion}
use Rattle.std.proofs.lemmas.List.{append-nil, append_assoc}
use Rattle.std.proofs.lemmas.List.Folds.{list_any-append}
use Rattle.std.proofs.lemmas.Simd.{map-map}
use Rattle.std.proofs.Math.Bool.{or-false, or-true}
use Rattle.mu_tree.specs.Names.{is_among}
use Rattle.mu_tree.specs.Trees.{joined}
use Rattle.mu_tree.specs.declared.trees.Tree.{Tree}
use Rattle.mu_tree.specs.declared.trees.Tree.TheOpen.{App, Meta, Bind}
use Rattle.mu_tree.specs.declared.trees.Tree.TheFolds.{fold-Tree, fold-roll-Tree}
use Rattle.mu_tree.specs.declared.trees.Tree.TheVariants as tree
use Rattle.mu_tree.proofs.TreeInduction.{tree_ind}
use Rattle.mu_decl.specs.declared.bare.Bare.{Bare}
use Rattle.mu_decl.specs.declared.bare.Bare.TheOpen as layer
use Rattle.mu_decl.specs.declared.bare.Bare.TheFolds.{fold-roll-Bare}
use Rattle.mu_decl.specs.declared.bare.Bare.TheVariants as bare
use Rattle.mu_decl.specs.Nameless.{nameless, place, leaf_at, applied}
use Rattle.mu_decl.proofs.EnteringEquations.{nameless-app, nameless-meta, nameless-bind}
use Rattle.mu_decl.proofs.Places.{is_among_none, is_among_some}
use Rattle.mu_defs.specs.Uses.{constant_of, constants_step, constants_in, bare_constants_step, bare_constants, UsesAreConstants}

abbrev Constants : Type 0
Constants = List (List ℕ) → List (List ℕ)

constant_of-map : {A B : Type 0} (f : A → B) (scope : List (List ℕ)) (n : List ℕ) (xs : List A) → constant_of scope n (map f xs) ≡ constant_of scope n xs
constant_of-map f scope n [] = refl
constant_of-map f scope n (x ∷ xs) = refl

pub constants-app : (scope : List (List ℕ)) (n : List ℕ) (arguments : List Tree) → constants_in scope (tree.App n arguments) ≡ constant_of scope n arguments ++ joined (map (constants_in scope) arguments)
unfolding constants_in
constants-app scope n arguments =
    let at : Constants → List (List ℕ) = λ f. f scope in
    let under : Tree → Constants = fold-Tree Constants constants_step in
    ap (λ t. at (under t)) (sym (tree.rolls-App n arguments)) ∙ ap at (fold-roll-Tree Constants constants_step (App n arguments)) ∙ cc (constant_of-map under scope n arguments, map-map at under arguments)

pub constants-meta : (scope : List (List ℕ)) (m : List ℕ) (arguments : List Tree) → constants_in scope (tree.Meta m arguments) ≡ joined (map (constants_in scope) arguments)
unfolding constants_in
constants-meta scope m arguments =
    let at : Constants → List (List ℕ) = λ f. f scope in
    let under : Tree → Constants = fold-Tree Constants constants_step in
    ap (λ t. at (under t)) (sym (tree.rolls-Meta m arguments)) ∙ ap at (fold-roll-Tree Constants constants_step (Meta m arguments)) ∙ ap joined (map-map at under arguments)

pub constants-bind : (scope : List (List ℕ)) (b v : List ℕ) (domain body : Tree) → constants_in scope (tree.Bind b v domain body) ≡ b ∷ constants_in scope domain ++ constants_in (scope ++ v ∷ []) body
unfolding constants_in
constants-bind scope b v domain body =
    let at : Constants → List (List ℕ) = λ f. f scope in
    let under : Tree → Constants = fold-Tree Constants constants_step in
    ap (λ t. at (under t)) (sym (tree.rolls-Bind b v domain body)) ∙ ap at (fold-roll-Tree Constants constants_step (Bind b v domain body))

pub ruleset constants_equations = (constants-app, constants-meta, constants-bind)

-- lists of names after one another
pub ruleset scope_equations = (append-nil, append_assoc)

bare_constants-var : (x : List ℕ) → bare_constants (bare.Var x) ≡ []
unfolding bare_constants
bare_constants-var x = ap bare_constants (sym (bare.rolls-Var x)) ∙ fold-roll-Bare (List (List ℕ)) bare_constants_step (layer.Var x)

bare_constants-index : (i : ℕ) → bare_constants (bare.Index i) ≡ []
unfolding bare_constants
bare_constants-index i = ap bare_constants (sym (bare.rolls-Index i)) ∙ fold-roll-Bare (List (List ℕ)) bare_constants_step (layer.Index i)

bare_constants-app : (c : List ℕ) (ts : List Bare) → bare_constants (bare.App c ts) ≡ c ∷ joined (map bare_constants ts)
unfolding bare_constants
bare_constants-app c ts = ap bare_constants (sym (bare.rolls-App c ts)) ∙ fold-roll-Bare (List (List ℕ)) bare_constants_step (layer.App c ts)

bare_constants-meta : (m : List ℕ) (ts : List Bare) → bare_constants (bare.Meta m ts) ≡ joined (map bare_constants ts)
unfolding bare_constants
bare_constants-meta m ts = ap bare_constants (sym (bare.rolls-Meta m ts)) ∙ fold-roll-Bare (List (List ℕ)) bare_constants_step (layer.Meta m ts)

bare_constants-bind : (b : List ℕ) (domain body : Bare) → bare_constants (bare.Bind b domain body) ≡ b ∷ bare_constants domain ++ bare_constants body
unfolding bare_constants
bare_constants-bind b domain body = ap bare_constants (sym (bare.rolls-Bind b domain body)) ∙ fold-roll-Bare (List (List ℕ)) bare_constants_step (layer.Bind b domain body)

module _ (scope bound : List (List ℕ)) where
  -- a name without arguments is a constant in both
  free-constants : (n : List ℕ) (b : Bool) → cond b [] (n ∷ []) ≡ bare_constants (cond b (bare.Var n) (bare.App n []))
  free-constants n true = sym (bare_constants-var n)
  free-constants n false = sym (bare_constants-app n [])

  leaf-constants : (n : List ℕ) (o : Option ℕ) → place bound n ≡ o → cond (is_among (scope ++ bound) n) [] (n ∷ []) ≡ bare_constants (leaf_at scope n o)
  leaf-constants n None e =
      let known : is_among (scope ++ bound) n ≡ is_among scope n = list_any-append _ scope bound ∙ ap (λ b. is_among scope n || b) (is_among_none bound n e) ∙ or-false (is_among scope n) in
      ap (λ b. cond b [] (n ∷ [])) known ∙ free-constants n (is_among scope n)
  leaf-constants n (Some i) e =
      let known : is_among (scope ++ bound) n ≡ true = list_any-append _ scope bound ∙ ap (λ b. is_among scope n || b) (is_among_some bound n i e) ∙ or-true (is_among scope n) in
      ap (λ b. cond b [] (n ∷ [])) known ∙ sym (bare_constants-index i)

  applied-constants : (n : List ℕ) (ts : List Bare) → constant_of (scope ++ bound) n ts ++ joined (map bare_constants ts) ≡ bare_constants (applied scope bound n ts)
  applied-constants n [] = append-nil _ ∙ leaf-constants n (place bound n) refl
  applied-constants n (t ∷ ts) = sym (bare_constants-app n (t ∷ ts))

  abbrev Agrees : Tree → Type 0
  Agrees t = constants_in (scope ++ bound) t ≡ bare_constants (nameless scope bound t)

  agree_all : (ts : List Tree) → AllByRecursion Agrees ts → map (constants_in (scope ++ bound)) ts ≡ map bare_constants (map (nameless scope bound) ts)
  agree_all [] c = refl
  agree_all (t ∷ ts) c =
      let e = c.0 in
      let r = agree_all ts c.1 in
      cc

-- the constants of a tree in a scope and under bound names are those of its nameless tree
nameless-constants : (scope : List (List ℕ)) (t : Tree) (bound : List (List ℕ)) → Agrees scope bound t
nameless-constants scope = tree_ind (λ t. (bound : List (List ℕ)) → Agrees scope bound t) app meta bind
  where
    at : (bound : List (List ℕ)) (ts : List Tree) → AllByRecursion (λ t. (b : List (List ℕ)) → Agrees scope b t) ts → AllByRecursion (Agrees scope bound) ts
    at bound [] c = tt
    at bound (t ∷ ts) c = (c.0 bound, at bound ts c.1)

    app : (n : List ℕ) (ts : List Tree) → AllByRecursion (λ t. (b : List (List ℕ)) → Agrees scope b t) ts → (bound : List (List ℕ)) → Agrees scope bound (tree.App n ts)
    app n ts c bound =
        let bares = map (nameless scope bound) ts in
        cc (constants-app (scope ++ bound) n ts, agree_all scope bound ts (at bound ts c), constant_of-map (nameless scope bound) (scope ++ bound) n ts, applied-constants scope bound n bares, nameless-app scope bound n ts)

    meta : (m : List ℕ) (ts : List Tree) → AllByRecursion (λ t. (b : List (List ℕ)) → Agrees scope b t) ts → (bound : List (List ℕ)) → Agrees scope bound (tree.Meta m ts)
    meta m ts c bound =
        let bares = map (nameless scope bound) ts in
        cc (constants-meta (scope ++ bound) m ts, agree_all scope bound ts (at bound ts c), bare_constants-meta m bares, nameless-meta scope bound m ts)

    bind : (b v : List ℕ) (domain body : Tree) → ((bound : List (List ℕ)) → Agrees scope bound domain) → ((bound : List (List ℕ)) → Agrees scope bound body) → (bound : List (List ℕ)) → Agrees scope bound (tree.Bind b v domain body)
    bind b v domain body one two bound =
        let inner = bound ++ v ∷ [] in
        cc (constants-bind (scope ++ bound) b v domain body, one bound, two inner, append_assoc scope bound (v ∷ []), bare_constants-bind b (nameless scope bound domain) (nameless scope inner body), nameless-bind scope bound b v domain body)

pub uses_are_constants : UsesAreConstants
unfolding UsesAreConstants
uses_are_constants d = nameless-constants [] d.body d.params
