-- Unfolding a definition before or after opening a binder is the same.
use Rattle.std.proofs.Common.{◌≡◌, ℕ, ◌+◌, ◌&&◌, Bool, true, false, cond, nat_eq, List, map, length, refl, ap, sym, ◌∙◌, arith}
use Rattle.std.specs.Cmp.Lexicographic.{pointwise}
use Rattle.std.proofs.lemmas.List.{length-map}
use Rattle.mu_decl.specs.declared.bare.Bare.{Bare}
use Rattle.mu_decl.specs.declared.bare.Bare.TheVariants as bare
use Rattle.mu_decl.specs.declared.unfolding.DeltaRule.{DeltaRule}
use Rattle.mu_decl.specs.Opening.{opened}
use Rattle.mu_decl.specs.Unfolding.{unfolded, unfolded_application}
use Rattle.mu_decl.specs.Laws.{closed, UnfoldingOpens}
use Rattle.mu_decl.proofs.UnfoldedEquations.{unfolded-var, unfolded-index, unfolded-app, unfolded-meta, unfolded-bind}
use Rattle.mu_decl.proofs.Substitutions.{IsMap, IsSubstitution, goes, substituted_open}

-- a map of trees under binders goes past an unfolded application
module _ (u : DeltaRule) (ok : closed u.count u.body ≡ true) (F : ℕ → Bare → Bare) (is_map : IsMap F) (f : List ℕ) (ts : List Bare) where
  unfolded_past : (named fits : Bool) → nat_eq u.count (length ts) ≡ fits → F 0 (cond (named && fits) (opened ts u.body) (bare.App f ts)) ≡ cond (named && fits) (opened (map (F 0) ts) u.body) (bare.App f (map (F 0) ts))
  unfolded_past false fits e = is_map.app 0 f ts
  unfolded_past true false e = is_map.app 0 f ts
  unfolded_past true true e =
      let count : u.count ≡ 0 + length ts = grind (arith, e) in
      goes F is_map ts u.body 0 (ap (λ k. closed k u.body) (sym count) ∙ ok)

  application_past : F 0 (unfolded_application u f ts) ≡ unfolded_application u f (map (F 0) ts)
  application_past = cc (unfolded_past (pointwise nat_eq f u.constant) (nat_eq u.count (length ts)) refl, length-map ts (F 0))

-- unfolding by a closed body is a substitution
unfolding_of : (u : DeltaRule) → closed u.count u.body ≡ true → IsSubstitution (unfolded u)
unfolding_of u ok = record {
  binder = λ b. b;
  applied = unfolded_application u;
  met = λ m ts. bare.Meta m ts;
  var = unfolded-var u;
  index = unfolded-index u;
  app = unfolded-app u;
  meta = unfolded-meta u;
  bind = unfolded-bind u;
  past_app = λ F is_map f ts. application_past u ok F is_map f ts;
  past_meta = λ F is_map m ts. is_map.meta 0 m ts;
}

pub unfolding_opens : UnfoldingOpens
unfolding UnfoldingOpens
unfolding_opens u ok by t = substituted_open (unfolded u) (unfolding_of u ok) by t 0
