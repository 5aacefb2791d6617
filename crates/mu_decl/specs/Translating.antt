-- Translating nameless trees: constants and binders renamed.
use Rattle.std.specs.Prelude.{ℕ, List, unwrap_or}
use Rattle.std.specs.FinMap as finite
use Rattle.mu_tree.specs.Maps.{MapOf}
use Rattle.mu_decl.specs.declared.bare.Bare.{Bare}
use Rattle.mu_decl.specs.declared.bare.Bare.TheOpen.{Bare-F, Var, Index, App, Meta, Bind}
use Rattle.mu_decl.specs.declared.bare.Bare.TheFolds.{fold-Bare}
use Rattle.mu_decl.specs.declared.bare.Bare.TheVariants as bare

-- what a name is renamed to: itself where the map has nothing for it
abbrev pub image : MapOf (List ℕ) → List ℕ → List ℕ
image names n = unwrap_or (finite.get names n) n

-- one node with its parts translated
abbrev pub translated_step : MapOf (List ℕ) → Bare-F Bare → Bare
translated_step names (Var x) = bare.Var x
translated_step names (Index i) = bare.Index i
translated_step names (App f arguments) = bare.App (image names f) arguments
translated_step names (Meta m arguments) = bare.Meta m arguments
translated_step names (Bind b domain body) = bare.Bind (image names b) domain body

-- constants and binders renamed by a finite map; variables and metavariables stay
unfoldable pub translated : MapOf (List ℕ) → Bare → Bare
translated names = fold-Bare Bare (translated_step names)
