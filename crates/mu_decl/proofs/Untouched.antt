-- A tree that is put under binders refers to none of them.
use Rattle.std.proofs.Common.{◌≡◌, ℕ, ◌+◌, ◌-◌, ◌≤◌, Bool, true, false, nat_lt, List, [], ◌∷◌, map, length, reverse, slice_get, Option, Some, None, refl, arith}
use Rattle.std.specs.List.{AllByRecursion}
use Rattle.std.proofs.lemmas.List.{length-reverse}
use Rattle.std.proofs.lemmas.Option.{slice_get_within}
use Rattle.mu_decl.specs.declared.bare.Bare.{Bare}
use Rattle.mu_decl.specs.declared.bare.Bare.TheVariants as bare
use Rattle.mu_decl.specs.Opening.{shift_under, open_under}
use Rattle.mu_decl.specs.Laws.{ShiftedIsUntouched}
use Rattle.mu_decl.proofs.OpeningEquations.{shift-var, shift-index, shift-app, shift-meta, shift-bind, open-var, open-index, open-app, open-meta, open-bind}
use Rattle.mu_decl.proofs.Induction.{bare_ind}

module _ (by : List Bare) where
  abbrev Same : Bare → Type 0
  Same t = (d : ℕ) → open_under by d (shift_under (length by) d t) ≡ t

  same_all : (d : ℕ) (ts : List Bare) → AllByRecursion Same ts → map (open_under by d) (map (shift_under (length by) d) ts) ≡ ts
  same_all d [] c = refl
  same_all d (t ∷ ts) c =
      let e = c.0 d in
      let r = same_all d ts c.1 in
      cc

  same : (t : Bare) → Same t
  same = bare_ind Same var index app meta bind
    where
      var : (x : List ℕ) → Same (bare.Var x)
      var x d = cc (shift-var (length by) d x, open-var by d x)

      case : (i d : ℕ) (b : Bool) (o : Option Bare) → nat_lt i d ≡ b → slice_get (reverse by) ((i + length by) - d) ≡ o → open_under by d (shift_under (length by) d (bare.Index i)) ≡ bare.Index i
      case i d true o is at = cc (shift-index (length by) d i, open-index by d i, is)
      case i d false (Some t) is at =
          let len = length-reverse by in
          let within = slice_get_within (reverse by) ((i + length by) - d) t at in
          let above : d ≤ i = grind (arith, is) in
          absurd (let z : ⊥ = omega arith in z)
      case i d false None is at =
          let above : d ≤ i = grind (arith, is) in
          let far : nat_lt (i + length by) d ≡ false = grind (arith, above) in
          let back : (i + length by) - length by ≡ i = omega arith in
          cc (shift-index (length by) d i, open-index by d (i + length by), is, far, at, back)

      index : (i : ℕ) → Same (bare.Index i)
      index i d = case i d (nat_lt i d) (slice_get (reverse by) ((i + length by) - d)) refl refl

      app : (f : List ℕ) (ts : List Bare) → AllByRecursion Same ts → Same (bare.App f ts)
      app f ts c d = cc (shift-app (length by) d f ts, open-app by d f (map (shift_under (length by) d) ts), same_all d ts c)

      meta : (m : List ℕ) (ts : List Bare) → AllByRecursion Same ts → Same (bare.Meta m ts)
      meta m ts c d = cc (shift-meta (length by) d m ts, open-meta by d m (map (shift_under (length by) d) ts), same_all d ts c)

      bind : (b : List ℕ) (domain body : Bare) → Same domain → Same body → Same (bare.Bind b domain body)
      bind b domain body c e d = cc (shift-bind (length by) d b domain body, open-bind by d b (shift_under (length by) d domain) (shift_under (length by) (d + 1) body), c d, e (d + 1))

pub shifted_is_untouched : ShiftedIsUntouched
unfolding ShiftedIsUntouched
shifted_is_untouched by t = same by t 0
