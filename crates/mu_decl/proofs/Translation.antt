-- Translation goes past opening and past instantiation.
use Rattle.std.proofs.Common.{◌≡◌, ℕ, Bool, true, false, cond, nat_eq, List, [], ◌∷◌, map, length, Option, Some, None, refl}
use Rattle.std.specs.List.{AllByRecursion}
use Rattle.std.specs.Option.{option_map}
use Rattle.std.specs.Cmp.Lexicographic.{pointwise}
use Rattle.std.proofs.lemmas.List.{length-map}
use Rattle.mu_tree.specs.Maps.{MapOf}
use Rattle.mu_decl.specs.declared.bare.Bare.{Bare}
use Rattle.mu_decl.specs.declared.bare.Bare.TheVariants as bare
use Rattle.mu_decl.specs.declared.instantiating.Abstraction.{Abstraction}
use Rattle.mu_decl.specs.Opening.{opened}
use Rattle.mu_decl.specs.Instantiating.{abstraction_of, instance_by, instantiated}
use Rattle.mu_decl.specs.Translating.{image, translated}
use Rattle.mu_decl.specs.Laws.{translated_body, TranslationOpens, TranslationInstantiates}
use Rattle.mu_decl.proofs.OpeningEquations.{instantiated-var, instantiated-index, instantiated-app, instantiated-meta, instantiated-bind}
use Rattle.mu_decl.proofs.TranslatedEquations.{translated-var, translated-index, translated-app, translated-meta, translated-bind}
use Rattle.mu_decl.proofs.Induction.{bare_ind, twice}
use Rattle.mu_decl.proofs.Substitutions.{IsSubstitution, substituted_open}

-- translation is a substitution
translation : (names : MapOf (List ℕ)) → IsSubstitution (translated names)
translation names = record {
  binder = image names;
  applied = λ f ts. bare.App (image names f) ts;
  met = λ m ts. bare.Meta m ts;
  var = translated-var names;
  index = translated-index names;
  app = translated-app names;
  meta = translated-meta names;
  bind = translated-bind names;
  past_app = λ F is_map f ts. is_map.app 0 (image names f) ts;
  past_meta = λ F is_map m ts. is_map.meta 0 m ts;
}

pub translation_opens : TranslationOpens
unfolding TranslationOpens
translation_opens names by t = substituted_open (translated names) (translation names) by t 0

module _ (names : MapOf (List ℕ)) where
  abbrev T : Bare → Bare
  T = translated names

  abbrev A : Abstraction → Abstraction
  A = translated_body names

  option_cond : (b : Bool) (x y : Option Abstraction) → option_map A (cond b x y) ≡ cond b (option_map A x) (option_map A y)
  option_cond true x y = refl
  option_cond false x y = refl

  abstraction_map : (given : List Abstraction) (m : List ℕ) → abstraction_of (map A given) m ≡ option_map A (abstraction_of given m)
  abstraction_map [] m = refl
  abstraction_map (a ∷ given) m = cc (option_cond (pointwise nat_eq a.meta m) (Some a) (abstraction_of given m), abstraction_map given m)

  translated-cond : (b : Bool) (x y : Bare) → T (cond b x y) ≡ cond b (T x) (T y)
  translated-cond true x y = refl
  translated-cond false x y = refl

  translated-instance : (m : List ℕ) (arguments : List Bare) (o : Option Abstraction) → T (instance_by m arguments o) ≡ instance_by m (map T arguments) (option_map A o)
  translated-instance m arguments None = translated-meta names m arguments
  translated-instance m arguments (Some a) = cc (translated-cond (nat_eq a.count (length arguments)) (opened arguments a.body) (bare.Meta m arguments), substituted_open T (translation names) arguments a.body 0, translated-meta names m arguments, length-map arguments T)

  abbrev Instances : List Abstraction → Bare → Type 0
  Instances given t = T (instantiated given t) ≡ instantiated (map A given) (T t)

  translated_instances : (given : List Abstraction) (t : Bare) → Instances given t
  translated_instances given = bare_ind (Instances given) var index app meta bind
    where
      var : (x : List ℕ) → Instances given (bare.Var x)
      var x = cc (instantiated-var given x, translated-var names x, instantiated-var (map A given) x)

      index : (i : ℕ) → Instances given (bare.Index i)
      index i = cc (instantiated-index given i, translated-index names i, instantiated-index (map A given) i)

      app : (f : List ℕ) (ts : List Bare) → AllByRecursion (Instances given) ts → Instances given (bare.App f ts)
      app f ts c = cc (instantiated-app given f ts, translated-app names f (map (instantiated given) ts), translated-app names f ts, instantiated-app (map A given) (image names f) (map T ts), twice T (instantiated given) (instantiated (map A given)) T ts c)

      meta : (m : List ℕ) (ts : List Bare) → AllByRecursion (Instances given) ts → Instances given (bare.Meta m ts)
      meta m ts c = cc (instantiated-meta given m ts, translated-meta names m ts, instantiated-meta (map A given) m (map T ts), translated-instance m (map (instantiated given) ts) (abstraction_of given m), abstraction_map given m, twice T (instantiated given) (instantiated (map A given)) T ts c)

      bind : (b : List ℕ) (domain body : Bare) → Instances given domain → Instances given body → Instances given (bare.Bind b domain body)
      bind b domain body c e = cc (instantiated-bind given b domain body, translated-bind names b (instantiated given domain) (instantiated given body), translated-bind names b domain body, instantiated-bind (map A given) (image names b) (T domain) (T body), c, e)

pub translation_instantiates : TranslationInstantiates
unfolding TranslationInstantiates
translation_instantiates names given t = translated_instances names given t
