-- The equations of what is well formed and of the places of metavariables, one for each variant.
use Rattle.std.proofs.Common.{◌≡◌, ℕ, Bool, List, [], ◌∷◌, ◌++◌, ◌&&◌, length, map, ap, refl, sym, ◌∙◌}
use Rattle.std.specs.Prelude.{Option, Some, None}
use Rattle.std.proofs.lemmas.List.{length-map}
use Rattle.std.specs.Cmp.Lexicographic.{pointwise}
use Rattle.std.specs.List.{list_all}
use Rattle.std.specs.FinMap as finite
use Rattle.mu_tree.specs.declared.trees.Tree.{Tree}
use Rattle.mu_tree.specs.declared.trees.Tree.TheOpen.{App, Meta, Bind}
use Rattle.mu_tree.specs.declared.trees.Tree.TheFolds.{fold-Tree, fold-roll-Tree}
use Rattle.mu_tree.specs.declared.trees.Tree.TheVariants as tree
use Rattle.mu_tree.specs.declared.claim.Kind.{Kind}
use Rattle.mu_tree.specs.declared.claim.Kind.TheVariants.{E, T}
use Rattle.mu_tree.specs.declared.claim.Shape.{Shape}
use Rattle.mu_tree.specs.declared.claim.Shape.TheVariants.{Plain, Binder}
use Rattle.mu_decl.specs.declared.formation.Scoped.{Scoped}
use Rattle.mu_decl.specs.declared.occurring.Occurrence.{Occurrence}
use Rattle.mu_decl.specs.Contexts.{World}
use Rattle.mu_decl.specs.Formation.{Judged, formed_step, is_formed, application_formed, binder_formed, takes, binds, named, kind_in, shape_for, same_kind, occurrence_step, occurrences, argument_kinds, body_kind, spread}

module _ (w : World) (seen : List (List ℕ)) (scope : List Scoped) (kind : Kind) where
  abbrev under : Tree → Judged
  under = fold-Tree Judged (formed_step w seen)

  abbrev at : Judged → Bool
  at f = f scope kind

  at-app : (n : List ℕ) (arguments : List Tree) → under (tree.App n arguments) scope kind ≡ formed_step w seen (App n (map under arguments)) scope kind
  at-app n arguments = ap (λ t. under t scope kind) (sym (tree.rolls-App n arguments)) ∙ ap at (fold-roll-Tree Judged (formed_step w seen) (App n arguments))

  at-meta : (m : List ℕ) (arguments : List Tree) → under (tree.Meta m arguments) scope kind ≡ list_all (λ argument. argument scope E) (map under arguments)
  at-meta m arguments = ap (λ t. under t scope kind) (sym (tree.rolls-Meta m arguments)) ∙ ap at (fold-roll-Tree Judged (formed_step w seen) (Meta m arguments))

  at-bind : (b v : List ℕ) (domain body : Tree) → under (tree.Bind b v domain body) scope kind ≡ binds scope (shape_for seen kind (finite.get w.constants b)) v (under domain) (under body)
  at-bind b v domain body = ap (λ t. under t scope kind) (sym (tree.rolls-Bind b v domain body)) ∙ ap at (fold-roll-Tree Judged (formed_step w seen) (Bind b v domain body))

pointwise-all : (w : World) (seen : List (List ℕ)) (scope : List Scoped) (kinds : List Kind) (arguments : List Tree) → pointwise (λ kind argument. argument scope kind) kinds (map (fold-Tree Judged (formed_step w seen)) arguments) ≡ pointwise (is_formed w seen scope) kinds arguments
unfolding is_formed
pointwise-all w seen scope [] [] = refl
pointwise-all w seen scope [] (a ∷ arguments) = refl
pointwise-all w seen scope (k ∷ kinds) [] = refl
pointwise-all w seen scope (k ∷ kinds) (a ∷ arguments) = ap (λ b. is_formed w seen scope k a && b) (pointwise-all w seen scope kinds arguments)

all-all : (w : World) (seen : List (List ℕ)) (scope : List Scoped) (arguments : List Tree) → list_all (λ argument. argument scope E) (map (fold-Tree Judged (formed_step w seen)) arguments) ≡ list_all (is_formed w seen scope E) arguments
unfolding is_formed
all-all w seen scope [] = refl
all-all w seen scope (a ∷ arguments) = ap (λ b. is_formed w seen scope E a && b) (all-all w seen scope arguments)

takes-all : (w : World) (seen : List (List ℕ)) (scope : List Scoped) (shape : Option Shape) (arguments : List Tree) → takes scope shape (map (fold-Tree Judged (formed_step w seen)) arguments) ≡ application_formed w seen scope shape arguments
takes-all w seen scope None arguments = refl
takes-all w seen scope (Some (Plain kinds)) arguments = pointwise-all w seen scope kinds arguments
takes-all w seen scope (Some (Binder kind)) arguments = refl

named-found : (o : Option Kind) (found kind : Kind) (b : Bool) → o ≡ Some found → named o kind b ≡ same_kind found kind
named-found o found kind b e = ap (λ x. named x kind b) e

named-none : (o : Option Kind) (kind : Kind) (b : Bool) → o ≡ None → named o kind b ≡ b
named-none o kind b e = ap (λ x. named x kind b) e

-- a variable
pub formed-var : (w : World) (seen : List (List ℕ)) (scope : List Scoped) (kind found : Kind) (n : List ℕ) (arguments : List Tree) → arguments ≡ [] → kind_in scope n ≡ Some found → is_formed w seen scope kind (tree.App n arguments) ≡ same_kind found kind
unfolding is_formed
formed-var w seen scope kind found n [] none e = at-app w seen scope kind n [] ∙ named-found (kind_in scope n) found kind _ e
formed-var w seen scope kind found n (a ∷ arguments) none e = absurd (cc)

-- a constant without arguments
pub formed-name : (w : World) (seen : List (List ℕ)) (scope : List Scoped) (kind : Kind) (n : List ℕ) (arguments : List Tree) → arguments ≡ [] → kind_in scope n ≡ None → is_formed w seen scope kind (tree.App n arguments) ≡ application_formed w seen scope (shape_for seen kind (finite.get w.constants n)) arguments
unfolding is_formed
formed-name w seen scope kind n [] none e = at-app w seen scope kind n [] ∙ named-none (kind_in scope n) kind _ e ∙ takes-all w seen scope (shape_for seen kind (finite.get w.constants n)) []
formed-name w seen scope kind n (a ∷ arguments) none e = absurd (cc)

-- a constant with arguments
pub formed-some : (w : World) (seen : List (List ℕ)) (scope : List Scoped) (kind : Kind) (n : List ℕ) (arguments : List Tree) → (arguments ≡ [] → ⊥) → is_formed w seen scope kind (tree.App n arguments) ≡ application_formed w seen scope (shape_for seen kind (finite.get w.constants n)) arguments
unfolding is_formed
formed-some w seen scope kind n [] some = absurd (some refl)
formed-some w seen scope kind n (a ∷ arguments) some = at-app w seen scope kind n (a ∷ arguments) ∙ takes-all w seen scope (shape_for seen kind (finite.get w.constants n)) (a ∷ arguments)

pub formed-meta : (w : World) (seen : List (List ℕ)) (scope : List Scoped) (kind : Kind) (m : List ℕ) (arguments : List Tree) → is_formed w seen scope kind (tree.Meta m arguments) ≡ list_all (is_formed w seen scope E) arguments
unfolding is_formed
formed-meta w seen scope kind m arguments = at-meta w seen scope kind m arguments ∙ all-all w seen scope arguments

binds-all : (w : World) (seen : List (List ℕ)) (scope : List Scoped) (shape : Option Shape) (v : List ℕ) (domain body : Tree) → binds scope shape v (fold-Tree Judged (formed_step w seen) domain) (fold-Tree Judged (formed_step w seen) body) ≡ binder_formed w seen scope shape v domain body
unfolding is_formed
binds-all w seen scope None v domain body = refl
binds-all w seen scope (Some (Plain kinds)) v domain body = refl
binds-all w seen scope (Some (Binder kind)) v domain body = refl

pub formed-bind : (w : World) (seen : List (List ℕ)) (scope : List Scoped) (kind : Kind) (b v : List ℕ) (domain body : Tree) → is_formed w seen scope kind (tree.Bind b v domain body) ≡ binder_formed w seen scope (shape_for seen kind (finite.get w.constants b)) v domain body
unfolding is_formed
formed-bind w seen scope kind b v domain body = at-bind w seen scope kind b v domain body ∙ binds-all w seen scope (shape_for seen kind (finite.get w.constants b)) v domain body

pub ruleset formed_equations = (formed-var, formed-name, formed-some, formed-meta, formed-bind)

pub occurrences-app : (w : World) (kind : Kind) (n : List ℕ) (arguments : List Tree) → occurrences w (tree.App n arguments) kind ≡ spread (argument_kinds (finite.get w.constants n)) (map (occurrences w) arguments)
unfolding occurrences
occurrences-app w kind n arguments = ap (λ t. occurrences w t kind) (sym (tree.rolls-App n arguments)) ∙ ap (λ f. f kind) (fold-roll-Tree (Kind → List Occurrence) (occurrence_step w) (App n arguments))

pub occurrences-meta : (w : World) (kind : Kind) (m : List ℕ) (arguments : List Tree) → occurrences w (tree.Meta m arguments) kind ≡ record { meta = m; count = length arguments; kind = kind } ∷ spread [] (map (occurrences w) arguments)
unfolding occurrences
occurrences-meta w kind m arguments = ap (λ t. occurrences w t kind) (sym (tree.rolls-Meta m arguments)) ∙ ap (λ f. f kind) (fold-roll-Tree (Kind → List Occurrence) (occurrence_step w) (Meta m arguments)) ∙ ap (λ c. record { meta = m; count = c; kind = kind } ∷ spread [] (map (occurrences w) arguments)) (length-map arguments (occurrences w))

pub occurrences-bind : (w : World) (kind : Kind) (b v : List ℕ) (domain body : Tree) → occurrences w (tree.Bind b v domain body) kind ≡ occurrences w domain T ++ occurrences w body (body_kind (finite.get w.constants b))
unfolding occurrences
occurrences-bind w kind b v domain body = ap (λ t. occurrences w t kind) (sym (tree.rolls-Bind b v domain body)) ∙ ap (λ f. f kind) (fold-roll-Tree (Kind → List Occurrence) (occurrence_step w) (Bind b v domain body))

pub ruleset occurrence_equations = (occurrences-app, occurrences-meta, occurrences-bind)
