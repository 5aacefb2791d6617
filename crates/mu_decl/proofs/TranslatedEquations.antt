-- The equations of translation.
use Rattle.std.proofs.Common.{◌≡◌, ℕ, List, map, ap, sym, ◌∙◌}
use Rattle.mu_decl.specs.declared.bare.Bare.{Bare}
use Rattle.mu_decl.specs.declared.bare.Bare.TheOpen.{Var, Index, App, Meta, Bind}
use Rattle.mu_decl.specs.declared.bare.Bare.TheFolds.{fold-roll-Bare}
use Rattle.mu_decl.specs.declared.bare.Bare.TheVariants as bare
use Rattle.mu_tree.specs.Maps.{MapOf}
use Rattle.mu_decl.specs.Translating.{translated, translated_step, image}

pub translated-var : (names : MapOf (List ℕ)) (x : List ℕ) → translated names (bare.Var x) ≡ bare.Var x
unfolding translated
translated-var names x = ap (translated names) (sym (bare.rolls-Var x)) ∙ fold-roll-Bare Bare (translated_step names) (Var x)

pub translated-index : (names : MapOf (List ℕ)) (i : ℕ) → translated names (bare.Index i) ≡ bare.Index i
unfolding translated
translated-index names i = ap (translated names) (sym (bare.rolls-Index i)) ∙ fold-roll-Bare Bare (translated_step names) (Index i)

pub translated-app : (names : MapOf (List ℕ)) (f : List ℕ) (arguments : List Bare) → translated names (bare.App f arguments) ≡ bare.App (image names f) (map (translated names) arguments)
unfolding translated
translated-app names f arguments = ap (translated names) (sym (bare.rolls-App f arguments)) ∙ fold-roll-Bare Bare (translated_step names) (App f arguments)

pub translated-meta : (names : MapOf (List ℕ)) (m : List ℕ) (arguments : List Bare) → translated names (bare.Meta m arguments) ≡ bare.Meta m (map (translated names) arguments)
unfolding translated
translated-meta names m arguments = ap (translated names) (sym (bare.rolls-Meta m arguments)) ∙ fold-roll-Bare Bare (translated_step names) (Meta m arguments)

pub translated-bind : (names : MapOf (List ℕ)) (b : List ℕ) (domain body : Bare) → translated names (bare.Bind b domain body) ≡ bare.Bind (image names b) (translated names domain) (translated names body)
unfolding translated
translated-bind names b domain body = ap (translated names) (sym (bare.rolls-Bind b domain body)) ∙ fold-roll-Bare Bare (translated_step names) (Bind b domain body)

pub ruleset translated_equations = (translated-var, translated-index, translated-app, translated-meta, translated-bind)
