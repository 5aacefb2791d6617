-- Induction over nameless trees, variant by variant.
use Rattle.std.proofs.Common.{◌≡◌, ℕ, List, [], ◌∷◌, map, refl, sym, subst}
use Rattle.std.specs.List.{AllByRecursion}
use Rattle.mu_decl.specs.declared.bare.Bare.{Bare}
use Rattle.mu_decl.specs.declared.bare.Bare.TheOpen.{Bare-F, Var, Index, App, Meta, Bind}
use Rattle.mu_decl.specs.declared.bare.Bare.TheFolds.{ind-Bare}
use Rattle.mu_decl.specs.declared.bare.Bare.TheViews.{roll-Bare}
use Rattle.mu_decl.specs.declared.bare.Bare.TheVariants as bare

abbrev With : (Bare → Type 0) → Type 0
With P = (t : Bare) × P t

pub bare_ind : (P : Bare → Type 0) → ((x : List ℕ) → P (bare.Var x)) → ((i : ℕ) → P (bare.Index i)) → ((f : List ℕ) (ts : List Bare) → AllByRecursion P ts → P (bare.App f ts)) → ((m : List ℕ) (ts : List Bare) → AllByRecursion P ts → P (bare.Meta m ts)) → ((b : List ℕ) (domain body : Bare) → P domain → P body → P (bare.Bind b domain body)) → (t : Bare) → P t
bare_ind P var index app meta bind = ind-Bare P (λ x y is. subst (λ z. P (roll-Bare z)) is (go y))
  where
    all : (es : List (With P)) → AllByRecursion P (map (λ e. e.0) es)
    all [] = tt
    all (e ∷ es) = (e.1, all es)

    layer : Bare-F (With P) → Bare-F Bare
    layer (Var x) = Var x
    layer (Index i) = Index i
    layer (App f es) = App f (map (λ e. e.0) es)
    layer (Meta m es) = Meta m (map (λ e. e.0) es)
    layer (Bind b domain body) = Bind b domain.0 body.0

    go : (y : Bare-F (With P)) → P (roll-Bare (layer y))
    go (Var x) = subst P (sym (bare.rolls-Var x)) (var x)
    go (Index i) = subst P (sym (bare.rolls-Index i)) (index i)
    go (App f es) = subst P (sym (bare.rolls-App f (map (λ e. e.0) es))) (app f (map (λ e. e.0) es) (all es))
    go (Meta m es) = subst P (sym (bare.rolls-Meta m (map (λ e. e.0) es))) (meta m (map (λ e. e.0) es) (all es))
    go (Bind b domain body) = subst P (sym (bare.rolls-Bind b domain.0 body.0)) (bind b domain.0 body.0 domain.1 body.1)

pub all_at : (Q : ℕ → Bare → Type 0) (d : ℕ) (ts : List Bare) → AllByRecursion (λ t. (e : ℕ) → Q e t) ts → AllByRecursion (Q d) ts
all_at Q d [] c = tt
all_at Q d (t ∷ ts) c = (c.0 d, all_at Q d ts c.1)

pub twice : (f g h k : Bare → Bare) (ts : List Bare) → AllByRecursion (λ t. f (g t) ≡ h (k t)) ts → map f (map g ts) ≡ map h (map k ts)
twice f g h k [] c = refl
twice f g h k (t ∷ ts) c =
    let e = c.0 in
    let r = twice f g h k ts c.1 in
    cc
