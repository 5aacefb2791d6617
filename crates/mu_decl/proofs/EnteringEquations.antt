-- The equations of `nameless`, one for each variant.
use Rattle.std.proofs.Common.{◌≡◌, ℕ, List, [], ◌∷◌, ◌++◌, map, ap, refl, sym, ◌∙◌}
use Rattle.std.proofs.lemmas.List.{append-nil, append_assoc}
use Rattle.std.proofs.lemmas.Simd.{map-map}
use Rattle.mu_tree.specs.declared.trees.Tree.{Tree}
use Rattle.mu_tree.specs.declared.trees.Tree.TheOpen.{App, Meta, Bind}
use Rattle.mu_tree.specs.declared.trees.Tree.TheFolds.{fold-Tree, fold-roll-Tree}
use Rattle.mu_tree.specs.declared.trees.Tree.TheVariants as tree
use Rattle.mu_decl.specs.declared.bare.Bare.{Bare}
use Rattle.mu_decl.specs.declared.bare.Bare.TheVariants as bare
use Rattle.mu_decl.specs.Nameless.{nameless, nameless_step, applied}
use Rattle.mu_decl.proofs.Places.{place-append}

pub nameless-app : (scope bound : List (List ℕ)) (n : List ℕ) (arguments : List Tree) → nameless scope bound (tree.App n arguments) ≡ applied scope bound n (map (nameless scope bound) arguments)
unfolding nameless
nameless-app scope bound n arguments =
    let at : (List (List ℕ) → Bare) → Bare = λ f. f bound in
    let under : Tree → List (List ℕ) → Bare = fold-Tree (List (List ℕ) → Bare) (nameless_step scope) in
    ap (λ t. at (under t)) (sym (tree.rolls-App n arguments)) ∙ ap at (fold-roll-Tree (List (List ℕ) → Bare) (nameless_step scope) (App n arguments)) ∙ ap (applied scope bound n) (map-map at under arguments)

applied-some : (scope bound : List (List ℕ)) (n : List ℕ) (arguments : List Tree) → (arguments ≡ [] → ⊥) → applied scope bound n (map (nameless scope bound) arguments) ≡ bare.App n (map (nameless scope bound) arguments)
applied-some scope bound n [] h = absurd (h refl)
applied-some scope bound n (argument ∷ arguments) h = refl

-- a name with arguments
pub nameless-some : (scope bound : List (List ℕ)) (n : List ℕ) (arguments : List Tree) → (arguments ≡ [] → ⊥) → nameless scope bound (tree.App n arguments) ≡ bare.App n (map (nameless scope bound) arguments)
nameless-some scope bound n arguments h = nameless-app scope bound n arguments ∙ applied-some scope bound n arguments h

pub nameless-meta : (scope bound : List (List ℕ)) (n : List ℕ) (arguments : List Tree) → nameless scope bound (tree.Meta n arguments) ≡ bare.Meta n (map (nameless scope bound) arguments)
unfolding nameless
nameless-meta scope bound n arguments =
    let at : (List (List ℕ) → Bare) → Bare = λ f. f bound in
    let under : Tree → List (List ℕ) → Bare = fold-Tree (List (List ℕ) → Bare) (nameless_step scope) in
    ap (λ t. at (under t)) (sym (tree.rolls-Meta n arguments)) ∙ ap at (fold-roll-Tree (List (List ℕ) → Bare) (nameless_step scope) (Meta n arguments)) ∙ ap (bare.Meta n) (map-map at under arguments)

pub nameless-bind : (scope bound : List (List ℕ)) (b v : List ℕ) (domain body : Tree) → nameless scope bound (tree.Bind b v domain body) ≡ bare.Bind b (nameless scope bound domain) (nameless scope (bound ++ v ∷ []) body)
unfolding nameless
nameless-bind scope bound b v domain body =
    let at : (List (List ℕ) → Bare) → Bare = λ f. f bound in
    let under : Tree → List (List ℕ) → Bare = fold-Tree (List (List ℕ) → Bare) (nameless_step scope) in
    ap (λ t. at (under t)) (sym (tree.rolls-Bind b v domain body)) ∙ ap at (fold-roll-Tree (List (List ℕ) → Bare) (nameless_step scope) (Bind b v domain body))

pub ruleset nameless_equations = (nameless-app, nameless-some, nameless-meta, nameless-bind)

-- lists of names within one another
pub ruleset scope_equations = (append-nil, append_assoc)

-- the place of a name
pub ruleset place_equations = (place-append)
