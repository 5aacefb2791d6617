-- Comparing lists of trees in step, and taking trees out from under binders.
use Rattle.std.proofs.Common.{◌≡◌, ℕ, ◌+◌, ◌↔◌, Bool, true, false, nat_lt, List, [], ◌∷◌, length, map, refl, ap, sym, ◌∙◌, arith}
use Rattle.std.specs.List.{AllByRecursion}
use Rattle.mu_decl.specs.declared.bare.Bare.{Bare}
use Rattle.mu_decl.specs.declared.bare.Bare.TheOpen.{Bind}
use Rattle.mu_decl.specs.declared.bare.Bare.TheViews.{out-Bare, out-roll-Bare}
use Rattle.mu_decl.specs.declared.bare.Bare.TheVariants as bare
use Rattle.mu_decl.specs.Opening.{shift_under, opened}
use Rattle.mu_decl.specs.Laws.{ShiftedIsUntouched}
use Rattle.mu_decl.proofs.OpeningEquations.{shift-var, shift-index, shift-app, shift-meta, shift-bind}
use Rattle.mu_decl.proofs.Induction.{bare_ind}
use Rattle.mu_decl.proofs.Untouched.{shifted_is_untouched}

module _ where
  abbrev Stays : Bare → Type 0
  Stays t = (d : ℕ) → shift_under 0 d t ≡ t

  all_stay : (d : ℕ) (ts : List Bare) → AllByRecursion Stays ts → map (shift_under 0 d) ts ≡ ts
  all_stay d [] c = refl
  all_stay d (t ∷ ts) c =
      let e = c.0 d in
      let r = all_stay d ts c.1 in
      cc

  stays : (t : Bare) → Stays t
  stays = bare_ind Stays var index app meta bind
    where
      var : (x : List ℕ) → Stays (bare.Var x)
      var x d = shift-var 0 d x

      case : (i d : ℕ) (b : Bool) → nat_lt i d ≡ b → shift_under 0 d (bare.Index i) ≡ bare.Index i
      case i d true is = cc (shift-index 0 d i, is)
      case i d false is =
          let none : i + 0 ≡ i = omega arith in
          cc (shift-index 0 d i, is, none)

      index : (i : ℕ) → Stays (bare.Index i)
      index i d = case i d (nat_lt i d) refl

      app : (f : List ℕ) (ts : List Bare) → AllByRecursion Stays ts → Stays (bare.App f ts)
      app f ts c d = cc (shift-app 0 d f ts, all_stay d ts c)

      meta : (m : List ℕ) (ts : List Bare) → AllByRecursion Stays ts → Stays (bare.Meta m ts)
      meta m ts c d = cc (shift-meta 0 d m ts, all_stay d ts c)

      bind : (b : List ℕ) (domain body : Bare) → Stays domain → Stays body → Stays (bare.Bind b domain body)
      bind b domain body c e d = cc (shift-bind 0 d b domain body, c d, e (d + 1))

-- a tree that is put under no binder stays
pub shift-none : (t : Bare) → shift_under 0 0 t ≡ t
shift-none t = stays t 0

-- what a tree was before it was put under as many binders as there are trees in `by`
pub before_shift : (by : List Bare) (x tree : Bare) → shift_under (length by) 0 x ≡ tree → x ≡ opened by tree
unfolding ShiftedIsUntouched
before_shift by x tree e = let s : opened by (shift_under (length by) 0 x) ≡ x = shifted_is_untouched by x in sym s ∙ ap (opened by) e

-- a tree that comes back when it is put under the binders again is the only one that gives it
pub only_before : (by : List Bare) (n : ℕ) (low back tree : Bare) → length by ≡ n → low ≡ opened by tree → back ≡ shift_under n 0 low → back ≡ tree → (x : Bare) → (x ≡ low) ↔ (shift_under n 0 x ≡ tree)
only_before by n low back tree c l b e x = (
  (λ s. cc),
  (λ s. before_shift by x tree (ap (λ m. shift_under m 0 x) c ∙ s) ∙ sym l),
)

-- and where it doesn't, none does
pub none_before : (by : List Bare) (n : ℕ) (low back tree : Bare) → length by ≡ n → low ≡ opened by tree → back ≡ shift_under n 0 low → (back ≡ tree → ⊥) → (x : Bare) → shift_under n 0 x ≡ tree → ⊥
none_before by n low back tree c l b e x s =
    let is : x ≡ low = before_shift by x tree (ap (λ m. shift_under m 0 x) c ∙ s) ∙ sym l in
    e (b ∙ ap (shift_under n 0) (sym is) ∙ s)

bind_layer : (b : List ℕ) (domain body : Bare) → out-Bare (bare.Bind b domain body) ≡ Bind b domain body
bind_layer b domain body = ap out-Bare (sym (bare.rolls-Bind b domain body)) ∙ out-roll-Bare (Bind b domain body)

bind_parts : (n : List ℕ) (a b c d : Bare) → bare.Bind n a b ≡ bare.Bind n c d → (a ≡ c) × (b ≡ d)
bind_parts n a b c d e = let h : Bind n a b ≡ Bind n c d = sym (bind_layer n a b) ∙ ap out-Bare e ∙ bind_layer n c d in (cc h, cc h)

-- what decides whether a tree is another one decides it of an equal tree
pub by_top : {P : Type 0} (a b tree : Bare) → a ≡ b → P ↔ (b ≡ tree) → P ↔ (a ≡ tree)
by_top a b tree e h = ((λ p. e ∙ h.0 p), (λ s. h.1 (sym e ∙ s)))

-- binders of one name are equal exactly where their domains and their bodies are
pub both_in_step : (v : Bare) (n : List ℕ) (domain body other inner tree : Bare) → v ≡ bare.Bind n domain body → bare.Bind n other inner ≡ tree → ((domain ≡ other) × (body ≡ inner)) ↔ (v ≡ tree)
both_in_step v n domain body other inner tree a b = (
  (λ p. let d = p.0 in let e = p.1 in cc),
  (λ s. bind_parts n domain body other inner (sym a ∙ s ∙ sym b)),
)
