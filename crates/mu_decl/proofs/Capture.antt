-- Opening a binder before or after an instantiation is the same.
use Rattle.std.proofs.Common.{◌≡◌, ℕ, ◌+◌, Bool, true, false, cond, nat_eq, List, map, length, Option, Some, None, refl, ap, sym, ◌∙◌, arith}
use Rattle.std.proofs.lemmas.List.{length-map}
use Rattle.mu_decl.specs.declared.bare.Bare.{Bare}
use Rattle.mu_decl.specs.declared.bare.Bare.TheVariants as bare
use Rattle.mu_decl.specs.declared.instantiating.Abstraction.{Abstraction}
use Rattle.mu_decl.specs.Opening.{opened}
use Rattle.mu_decl.specs.Instantiating.{abstraction_of, instance_by, instance, instantiated}
use Rattle.mu_decl.proofs.OpeningEquations.{instantiated-var, instantiated-index, instantiated-app, instantiated-meta, instantiated-bind}
use Rattle.mu_decl.specs.Laws.{closed, AreClosed, NothingIsCaptured}
use Rattle.mu_decl.proofs.Closing.{found_closed}
use Rattle.mu_decl.proofs.Substitutions.{IsMap, IsSubstitution, goes, substituted_open}

-- a map of trees under binders goes past an instance
module _ (F : ℕ → Bare → Bare) (is_map : IsMap F) (m : List ℕ) (arguments : List Bare) where
  known_step : (a : Abstraction) (b : Bool) → closed a.count a.body ≡ true → nat_eq a.count (length arguments) ≡ b → F 0 (cond b (opened arguments a.body) (bare.Meta m arguments)) ≡ cond b (opened (map (F 0) arguments) a.body) (bare.Meta m (map (F 0) arguments))
  known_step a false c e = is_map.meta 0 m arguments
  known_step a true c e =
      let count : a.count ≡ 0 + length arguments = grind (arith, e) in
      goes F is_map arguments a.body 0 (ap (λ k. closed k a.body) (sym count) ∙ c)

  past_instance : (o : Option Abstraction) → ((x : Abstraction) → o ≡ Some x → closed x.count x.body ≡ true) → F 0 (instance_by m arguments o) ≡ instance_by m (map (F 0) arguments) o
  past_instance None c = is_map.meta 0 m arguments
  past_instance (Some a) c = cc (known_step a (nat_eq a.count (length arguments)) (c a refl) refl, length-map arguments (F 0))

-- instantiation by closed bodies is a substitution
instantiation : (given : List Abstraction) → AreClosed given → IsSubstitution (instantiated given)
instantiation given ok = record {
  binder = λ b. b;
  applied = λ f ts. bare.App f ts;
  met = instance given;
  var = instantiated-var given;
  index = instantiated-index given;
  app = instantiated-app given;
  meta = instantiated-meta given;
  bind = instantiated-bind given;
  past_app = λ F is_map f ts. is_map.app 0 f ts;
  past_meta = λ F is_map m ts. past_instance F is_map m ts (abstraction_of given m) (λ x found. found_closed given m x ok found);
}

pub nothing_is_captured : NothingIsCaptured
unfolding NothingIsCaptured
nothing_is_captured given ok by t = substituted_open (instantiated given) (instantiation given ok) by t 0
