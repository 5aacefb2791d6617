-- Substitutions: what replaces nodes of a nameless tree goes past shifting and opening.
use Rattle.std.proofs.Common.{◌≡◌, ℕ, ◌+◌, ◌-◌, ◌<◌, ◌≤◌, Bool, true, false, cond, nat_lt, List, [], ◌∷◌, map, length, reverse, slice_get, Option, Some, None, refl, ap, sym, ◌∙◌, arith, ◌⊎◌, inl, inr}
use Rattle.std.proofs.lemmas.Bool.{cases_lt}
use Rattle.std.specs.List.{AllByRecursion}
use Rattle.std.proofs.lemmas.Option.{slice_get-map}
use Rattle.std.proofs.lemmas.List.{length-map, length-reverse, map-append, reverse-append}
use Rattle.mu_decl.specs.declared.bare.Bare.{Bare}
use Rattle.mu_decl.specs.declared.bare.Bare.TheVariants as bare
use Rattle.mu_decl.specs.Opening.{shift_under, open_under}
use Rattle.mu_decl.proofs.OpeningEquations.{shift-var, shift-index, shift-app, shift-meta, shift-bind, open-var, open-index, open-app, open-meta, open-bind}
use Rattle.mu_decl.specs.Laws.{closed, every}
use Rattle.mu_decl.proofs.Induction.{bare_ind, all_at, twice}
use Rattle.mu_decl.proofs.Closing.{closed-index, closed-app, closed-meta, closed-bind, both, get_some}

once : (f g h : Bare → Bare) (ts : List Bare) → AllByRecursion (λ t. f (g t) ≡ h t) ts → map f (map g ts) ≡ map h ts
once f g h [] c = refl
once f g h (t ∷ ts) c =
    let e = c.0 in
    let r = once f g h ts c.1 in
    cc

-- two shifts, the second at a place inside the first, are one
module _ (k n e : ℕ) (le : e ≤ n) where
  abbrev Joins : ℕ → Bare → Type 0
  Joins f t = shift_under k (f + e) (shift_under n f t) ≡ shift_under (n + k) f t

  join_index : (i f : ℕ) (b : Bool) → nat_lt i f ≡ b → Joins f (bare.Index i)
  join_index i f true is =
      let t : nat_lt i (f + e) ≡ true = grind (arith, is) in
      cc (shift-index n f i, shift-index k (f + e) i, shift-index (n + k) f i, is, t)
  join_index i f false is =
      let t : nat_lt (i + n) (f + e) ≡ false = grind (arith, is, le) in
      let s : (i + n) + k ≡ i + (n + k) = omega arith in
      cc (shift-index n f i, shift-index k (f + e) (i + n), shift-index (n + k) f i, is, t, s)

  join : (t : Bare) (f : ℕ) → Joins f t
  join = bare_ind (λ t. (f : ℕ) → Joins f t) var index app meta bind
    where
      var : (x : List ℕ) (f : ℕ) → Joins f (bare.Var x)
      var x f = cc (shift-var n f x, shift-var k (f + e) x, shift-var (n + k) f x)

      index : (i : ℕ) (f : ℕ) → Joins f (bare.Index i)
      index i f = join_index i f (nat_lt i f) refl

      app : (g : List ℕ) (ts : List Bare) → AllByRecursion (λ t. (f : ℕ) → Joins f t) ts → (f : ℕ) → Joins f (bare.App g ts)
      app g ts c f = cc (shift-app n f g ts, shift-app k (f + e) g (map (shift_under n f) ts), shift-app (n + k) f g ts, once (shift_under k (f + e)) (shift_under n f) (shift_under (n + k) f) ts (all_at Joins f ts c))

      meta : (g : List ℕ) (ts : List Bare) → AllByRecursion (λ t. (f : ℕ) → Joins f t) ts → (f : ℕ) → Joins f (bare.Meta g ts)
      meta g ts c f = cc (shift-meta n f g ts, shift-meta k (f + e) g (map (shift_under n f) ts), shift-meta (n + k) f g ts, once (shift_under k (f + e)) (shift_under n f) (shift_under (n + k) f) ts (all_at Joins f ts c))

      bind : (b : List ℕ) (domain body : Bare) → ((f : ℕ) → Joins f domain) → ((f : ℕ) → Joins f body) → (f : ℕ) → Joins f (bare.Bind b domain body)
      bind b domain body c d f =
          let s : (f + e) + 1 ≡ (f + 1) + e = omega arith in
          cc (shift-bind n f b domain body, shift-bind k (f + e) b (shift_under n f domain) (shift_under n (f + 1) body), shift-bind (n + k) f b domain body, c f, d (f + 1), s)

-- shifting goes past a shift
module _ (by j d : ℕ) where
  abbrev Passes : ℕ → Bare → Type 0
  Passes e t = shift_under by (e + j + d) (shift_under j e t) ≡ shift_under j e (shift_under by (e + d) t)

  pass_index : (i e : ℕ) (a b : Bool) → nat_lt i e ≡ a → nat_lt i (e + d) ≡ b → Passes e (bare.Index i)
  pass_index i e true b is at =
      let s : nat_lt i (e + j + d) ≡ true = grind (arith, is) in
      let t : nat_lt i (e + d) ≡ true = grind (arith, is) in
      cc (shift-index j e i, shift-index by (e + j + d) i, shift-index by (e + d) i, is, s, t)
  pass_index i e false true is at =
      let s : nat_lt (i + j) (e + j + d) ≡ true = grind (arith, at) in
      cc (shift-index j e i, shift-index by (e + j + d) (i + j), shift-index by (e + d) i, is, at, s)
  pass_index i e false false is at =
      let s : nat_lt (i + j) (e + j + d) ≡ false = grind (arith, at) in
      let t : nat_lt (i + by) e ≡ false = grind (arith, is) in
      let u : (i + j) + by ≡ (i + by) + j = omega arith in
      cc (shift-index j e i, shift-index by (e + j + d) (i + j), shift-index by (e + d) i, shift-index j e (i + by), is, at, s, t, u)

  pass : (t : Bare) (e : ℕ) → Passes e t
  pass = bare_ind (λ t. (e : ℕ) → Passes e t) var index app meta bind
    where
      var : (x : List ℕ) (e : ℕ) → Passes e (bare.Var x)
      var x e = cc (shift-var j e x, shift-var by (e + j + d) x, shift-var by (e + d) x)

      index : (i : ℕ) (e : ℕ) → Passes e (bare.Index i)
      index i e = pass_index i e (nat_lt i e) (nat_lt i (e + d)) refl refl

      app : (g : List ℕ) (ts : List Bare) → AllByRecursion (λ t. (e : ℕ) → Passes e t) ts → (e : ℕ) → Passes e (bare.App g ts)
      app g ts c e = cc (shift-app j e g ts, shift-app by (e + j + d) g (map (shift_under j e) ts), shift-app by (e + d) g ts, shift-app j e g (map (shift_under by (e + d)) ts), twice (shift_under by (e + j + d)) (shift_under j e) (shift_under j e) (shift_under by (e + d)) ts (all_at Passes e ts c))

      meta : (g : List ℕ) (ts : List Bare) → AllByRecursion (λ t. (e : ℕ) → Passes e t) ts → (e : ℕ) → Passes e (bare.Meta g ts)
      meta g ts c e = cc (shift-meta j e g ts, shift-meta by (e + j + d) g (map (shift_under j e) ts), shift-meta by (e + d) g ts, shift-meta j e g (map (shift_under by (e + d)) ts), twice (shift_under by (e + j + d)) (shift_under j e) (shift_under j e) (shift_under by (e + d)) ts (all_at Passes e ts c))

      bind : (b : List ℕ) (domain body : Bare) → ((e : ℕ) → Passes e domain) → ((e : ℕ) → Passes e body) → (e : ℕ) → Passes e (bare.Bind b domain body)
      bind b domain body c f e =
          let s : (e + j + d) + 1 ≡ (e + 1) + j + d = omega arith in
          let t : (e + d) + 1 ≡ (e + 1) + d = omega arith in
          cc (shift-bind j e b domain body, shift-bind by (e + j + d) b (shift_under j e domain) (shift_under j (e + 1) body), shift-bind by (e + d) b domain body, shift-bind j e b (shift_under by (e + d) domain) (shift_under by ((e + d) + 1) body), c e, f (e + 1), s, t)

pub far_step : (k n m : ℕ) → (k < n) ⊎ (n ≤ k) → (k < n → ⊥) → n ≡ m → m ≤ k
far_step k n m (inl h) f e = absurd (f h)
far_step k n m (inr h) f e = omega arith

pub none_far : (ts : List Bare) (k m : ℕ) → length ts ≡ m → slice_get ts k ≡ None → m ≤ k
none_far ts k m l e = far_step k (length ts) m (cases_lt k (length ts)) (λ h. get_some ts k h e) l

-- opening goes past a shift
module _ (vs : List Bare) (j d : ℕ) where
  abbrev Opens : ℕ → Bare → Type 0
  Opens e t = open_under vs (e + j + d) (shift_under j e t) ≡ shift_under j e (open_under vs (e + d) t)

  open_past : (i e : ℕ) (o : Option Bare) → nat_lt i e ≡ false → nat_lt i (e + d) ≡ false → slice_get (reverse vs) (i - (e + d)) ≡ o → Opens e (bare.Index i)
  open_past i e (Some v) is at f =
      let s : nat_lt (i + j) (e + j + d) ≡ false = grind (arith, at) in
      let t : (i + j) - (e + j + d) ≡ i - (e + d) = omega arith in
      let le : e ≤ e + d = omega arith in
      let q = join j (e + d) e le v 0 in
      let u : 0 + e ≡ e = omega arith in
      let w : (e + d) + j ≡ e + j + d = omega arith in
      cc (shift-index j e i, open-index vs (e + j + d) (i + j), open-index vs (e + d) i, is, at, s, t, f, q, u, w)
  open_past i e None is at f =
      let s : nat_lt (i + j) (e + j + d) ≡ false = grind (arith, at) in
      let t : (i + j) - (e + j + d) ≡ i - (e + d) = omega arith in
      let far : length vs ≤ i - (e + d) = none_far (reverse vs) (i - (e + d)) (length vs) (length-reverse vs) f in
      let high : e + d ≤ i = grind (arith, at) in
      let u : nat_lt (i - length vs) e ≡ false = grind (arith, far, high) in
      let w : (i - length vs) + j ≡ (i + j) - length vs = omega arith in
      cc (shift-index j e i, open-index vs (e + j + d) (i + j), open-index vs (e + d) i, shift-index j e (i - length vs), is, at, s, t, f, u, w)

  open_index : (i e : ℕ) (a b : Bool) → nat_lt i e ≡ a → nat_lt i (e + d) ≡ b → Opens e (bare.Index i)
  open_index i e true b is at =
      let s : nat_lt i (e + j + d) ≡ true = grind (arith, is) in
      let t : nat_lt i (e + d) ≡ true = grind (arith, is) in
      cc (shift-index j e i, open-index vs (e + j + d) i, open-index vs (e + d) i, is, s, t)
  open_index i e false true is at =
      let s : nat_lt (i + j) (e + j + d) ≡ true = grind (arith, at) in
      cc (shift-index j e i, open-index vs (e + j + d) (i + j), open-index vs (e + d) i, is, at, s)
  open_index i e false false is at = open_past i e (slice_get (reverse vs) (i - (e + d))) is at refl

  open_pass : (t : Bare) (e : ℕ) → Opens e t
  open_pass = bare_ind (λ t. (e : ℕ) → Opens e t) var index app meta bind
    where
      var : (x : List ℕ) (e : ℕ) → Opens e (bare.Var x)
      var x e = cc (shift-var j e x, open-var vs (e + j + d) x, open-var vs (e + d) x)

      index : (i : ℕ) (e : ℕ) → Opens e (bare.Index i)
      index i e = open_index i e (nat_lt i e) (nat_lt i (e + d)) refl refl

      app : (g : List ℕ) (ts : List Bare) → AllByRecursion (λ t. (e : ℕ) → Opens e t) ts → (e : ℕ) → Opens e (bare.App g ts)
      app g ts c e = cc (shift-app j e g ts, open-app vs (e + j + d) g (map (shift_under j e) ts), open-app vs (e + d) g ts, shift-app j e g (map (open_under vs (e + d)) ts), twice (open_under vs (e + j + d)) (shift_under j e) (shift_under j e) (open_under vs (e + d)) ts (all_at Opens e ts c))

      meta : (g : List ℕ) (ts : List Bare) → AllByRecursion (λ t. (e : ℕ) → Opens e t) ts → (e : ℕ) → Opens e (bare.Meta g ts)
      meta g ts c e = cc (shift-meta j e g ts, open-meta vs (e + j + d) g (map (shift_under j e) ts), open-meta vs (e + d) g ts, shift-meta j e g (map (open_under vs (e + d)) ts), twice (open_under vs (e + j + d)) (shift_under j e) (shift_under j e) (open_under vs (e + d)) ts (all_at Opens e ts c))

      bind : (b : List ℕ) (domain body : Bare) → ((e : ℕ) → Opens e domain) → ((e : ℕ) → Opens e body) → (e : ℕ) → Opens e (bare.Bind b domain body)
      bind b domain body c f e =
          let s : (e + j + d) + 1 ≡ (e + 1) + j + d = omega arith in
          let t : (e + d) + 1 ≡ (e + 1) + d = omega arith in
          cc (shift-bind j e b domain body, open-bind vs (e + j + d) b (shift_under j e domain) (shift_under j (e + 1) body), open-bind vs (e + d) b domain body, shift-bind j e b (open_under vs (e + d) domain) (open_under vs ((e + d) + 1) body), c e, f (e + 1), s, t)

-- what goes past a shift goes past the opening of a closed body: `F j` is a map of trees under `j` binders
pub record IsMap (F : ℕ → Bare → Bare) : Type 0 where
  pub below : (j i : ℕ) → i < j → F j (bare.Index i) ≡ bare.Index i
  pub var : (j : ℕ) (x : List ℕ) → F j (bare.Var x) ≡ bare.Var x
  pub app : (j : ℕ) (f : List ℕ) (ts : List Bare) → F j (bare.App f ts) ≡ bare.App f (map (F j) ts)
  pub meta : (j : ℕ) (m : List ℕ) (ts : List Bare) → F j (bare.Meta m ts) ≡ bare.Meta m (map (F j) ts)
  pub bind : (j : ℕ) (b : List ℕ) (domain body : Bare) → F j (bare.Bind b domain body) ≡ bare.Bind b (F j domain) (F (j + 1) body)
  pub shifted : (j : ℕ) (t : Bare) → F j (shift_under j 0 t) ≡ shift_under j 0 (F 0 t)

pub reverse_map : (f : Bare → Bare) (xs : List Bare) → reverse (map f xs) ≡ map f (reverse xs)
reverse_map f [] = refl
reverse_map f (x ∷ xs) = cc (reverse-append (x ∷ []) xs, reverse-append (f x ∷ []) (map f xs), map-append f (reverse xs) (x ∷ []), reverse_map f xs)

module _ (F : ℕ → Bare → Bare) (is_map : IsMap F) (arguments : List Bare) where
  abbrev pub Goes : Bare → Type 0
  Goes t = (j : ℕ) → closed (j + length arguments) t ≡ true → F j (open_under arguments j t) ≡ open_under (map (F 0) arguments) j t

  goes_all : (j : ℕ) (ts : List Bare) → AllByRecursion Goes ts → every (map (closed (j + length arguments)) ts) ≡ true → map (F j) (map (open_under arguments j) ts) ≡ map (open_under (map (F 0) arguments) j) ts
  goes_all j [] c e = refl
  goes_all j (t ∷ ts) c e =
      let p = both (closed (j + length arguments) t) (every (map (closed (j + length arguments)) ts)) e in
      let h = c.0 j p.0 in
      let r = goes_all j ts c.1 p.1 in
      cc

  goes_index : (j i : ℕ) (b : Bool) (o : Option Bare) → i < j + length arguments → nat_lt i j ≡ b → slice_get (reverse arguments) (i - j) ≡ o → F j (open_under arguments j (bare.Index i)) ≡ open_under (map (F 0) arguments) j (bare.Index i)
  goes_index j i true o h is f =
      let k : i < j = grind (arith, is) in
      cc (open-index arguments j i, open-index (map (F 0) arguments) j i, is, is_map.below j i k)
  goes_index j i false (Some a) h is f =
      let g = slice_get-map (F 0) (reverse arguments) (i - j) in
      cc (open-index arguments j i, open-index (map (F 0) arguments) j i, is, f, g, reverse_map (F 0) arguments, is_map.shifted j a)
  goes_index j i false None h is f =
      let k : j ≤ i = grind (arith, is) in
      let far = none_far (reverse arguments) (i - j) (length arguments) (length-reverse arguments) f in
      absurd (let z : ⊥ = omega arith in z)

  pub goes : (t : Bare) → Goes t
  goes = bare_ind Goes var index app meta bind
    where
      var : (x : List ℕ) → Goes (bare.Var x)
      var x j e = cc (open-var arguments j x, open-var (map (F 0) arguments) j x, is_map.var j x)

      index : (i : ℕ) → Goes (bare.Index i)
      index i j e =
          let k : nat_lt i (j + length arguments) ≡ true = cc (closed-index (j + length arguments) i, e) in
          let h : i < j + length arguments = grind (arith, k) in
          goes_index j i (nat_lt i j) (slice_get (reverse arguments) (i - j)) h refl refl

      app : (f : List ℕ) (ts : List Bare) → AllByRecursion Goes ts → Goes (bare.App f ts)
      app f ts c j e = cc (open-app arguments j f ts, open-app (map (F 0) arguments) j f ts, is_map.app j f (map (open_under arguments j) ts), goes_all j ts c (sym (closed-app (j + length arguments) f ts) ∙ e))

      meta : (m : List ℕ) (ts : List Bare) → AllByRecursion Goes ts → Goes (bare.Meta m ts)
      meta m ts c j e = cc (open-meta arguments j m ts, open-meta (map (F 0) arguments) j m ts, is_map.meta j m (map (open_under arguments j) ts), goes_all j ts c (sym (closed-meta (j + length arguments) m ts) ∙ e))

      bind : (b : List ℕ) (domain body : Bare) → Goes domain → Goes body → Goes (bare.Bind b domain body)
      bind b domain body c f j e =
          let p = both (closed (j + length arguments) domain) (closed ((j + length arguments) + 1) body) (sym (closed-bind (j + length arguments) b domain body) ∙ e) in
          let one : (j + length arguments) + 1 ≡ (j + 1) + length arguments = omega arith in
          let q = f (j + 1) (ap (λ k. closed k body) (sym one) ∙ p.1) in
          cc (open-bind arguments j b domain body, open-bind (map (F 0) arguments) j b domain body, is_map.bind j b (open_under arguments j domain) (open_under arguments (j + 1) body), c j p.0, q)

shift_map : (by d : ℕ) → IsMap (λ j. shift_under by (j + d))
shift_map by d = record {
  below = λ j i h. let t : nat_lt i (j + d) ≡ true = grind (arith, h) in cc (shift-index by (j + d) i, t);
  var = λ j x. shift-var by (j + d) x;
  app = λ j f ts. shift-app by (j + d) f ts;
  meta = λ j m ts. shift-meta by (j + d) m ts;
  bind = λ j b domain body. let s : (j + d) + 1 ≡ (j + 1) + d = omega arith in cc (shift-bind by (j + d) b domain body, s);
  shifted = λ j t. let s : 0 + j + d ≡ j + d = omega arith in cc (pass by j d t 0, s);
}

open_map : (vs : List Bare) (d : ℕ) → IsMap (λ j. open_under vs (j + d))
open_map vs d = record {
  below = λ j i h. let t : nat_lt i (j + d) ≡ true = grind (arith, h) in cc (open-index vs (j + d) i, t);
  var = λ j x. open-var vs (j + d) x;
  app = λ j f ts. open-app vs (j + d) f ts;
  meta = λ j m ts. open-meta vs (j + d) m ts;
  bind = λ j b domain body. let s : (j + d) + 1 ≡ (j + 1) + d = omega arith in cc (open-bind vs (j + d) b domain body, s);
  shifted = λ j t. let s : 0 + j + d ≡ j + d = omega arith in cc (open_pass vs j d t 0, s);
}

-- a substitution: a map of trees that keeps variables and indices and may replace applications, metavariables and the names of binders, in a way that goes past each map of trees under binders
pub record IsSubstitution (S : Bare → Bare) : Type 0 where
  pub binder : List ℕ → List ℕ
  pub applied : List ℕ → List Bare → Bare
  pub met : List ℕ → List Bare → Bare
  pub var : (x : List ℕ) → S (bare.Var x) ≡ bare.Var x
  pub index : (i : ℕ) → S (bare.Index i) ≡ bare.Index i
  pub app : (f : List ℕ) (ts : List Bare) → S (bare.App f ts) ≡ applied f (map S ts)
  pub meta : (m : List ℕ) (ts : List Bare) → S (bare.Meta m ts) ≡ met m (map S ts)
  pub bind : (b : List ℕ) (domain body : Bare) → S (bare.Bind b domain body) ≡ bare.Bind (binder b) (S domain) (S body)
  pub past_app : (F : ℕ → Bare → Bare) → IsMap F → (f : List ℕ) (ts : List Bare) → F 0 (applied f ts) ≡ applied f (map (F 0) ts)
  pub past_meta : (F : ℕ → Bare → Bare) → IsMap F → (m : List ℕ) (ts : List Bare) → F 0 (met m ts) ≡ met m (map (F 0) ts)

module _ (S : Bare → Bare) (is : IsSubstitution S) where
  abbrev Shifts : ℕ → ℕ → Bare → Type 0
  Shifts by d t = S (shift_under by d t) ≡ shift_under by d (S t)

  pub substituted_shift : (by : ℕ) (t : Bare) (d : ℕ) → Shifts by d t
  substituted_shift by = bare_ind (λ t. (d : ℕ) → Shifts by d t) var index app meta bind
    where
      var : (x : List ℕ) (d : ℕ) → Shifts by d (bare.Var x)
      var x d = cc (shift-var by d x, is.var x)

      index : (i : ℕ) (d : ℕ) → Shifts by d (bare.Index i)
      index i d = cc (shift-index by d i, is.index i, is.index (cond (nat_lt i d) i (i + by)))

      app : (f : List ℕ) (ts : List Bare) → AllByRecursion (λ t. (d : ℕ) → Shifts by d t) ts → (d : ℕ) → Shifts by d (bare.App f ts)
      app f ts c d =
          let zero_d : 0 + d ≡ d = omega arith in
          let past = is.past_app (λ j. shift_under by (j + d)) (shift_map by d) f (map S ts) in
          cc (shift-app by d f ts, is.app f (map (shift_under by d) ts), is.app f ts, past, zero_d, twice S (shift_under by d) (shift_under by d) S ts (all_at (Shifts by) d ts c))

      meta : (m : List ℕ) (ts : List Bare) → AllByRecursion (λ t. (d : ℕ) → Shifts by d t) ts → (d : ℕ) → Shifts by d (bare.Meta m ts)
      meta m ts c d =
          let zero_d : 0 + d ≡ d = omega arith in
          let past = is.past_meta (λ j. shift_under by (j + d)) (shift_map by d) m (map S ts) in
          cc (shift-meta by d m ts, is.meta m (map (shift_under by d) ts), is.meta m ts, past, zero_d, twice S (shift_under by d) (shift_under by d) S ts (all_at (Shifts by) d ts c))

      bind : (b : List ℕ) (domain body : Bare) → ((d : ℕ) → Shifts by d domain) → ((d : ℕ) → Shifts by d body) → (d : ℕ) → Shifts by d (bare.Bind b domain body)
      bind b domain body c e d = cc (shift-bind by d b domain body, is.bind b (shift_under by d domain) (shift_under by (d + 1) body), is.bind b domain body, shift-bind by d (is.binder b) (S domain) (S body), c d, e (d + 1))

  abbrev Opened : List Bare → ℕ → Bare → Type 0
  Opened by d t = S (open_under by d t) ≡ open_under (map S by) d (S t)

  substituted_index : (by : List Bare) (i d : ℕ) (b : Bool) (o : Option Bare) → nat_lt i d ≡ b → slice_get (reverse by) (i - d) ≡ o → Opened by d (bare.Index i)
  substituted_index by i d true o at f = cc (open-index by d i, open-index (map S by) d i, is.index i, at)
  substituted_index by i d false None at f = cc (open-index by d i, open-index (map S by) d i, is.index i, is.index (i - length by), at, f, slice_get-map S (reverse by) (i - d), reverse_map S by, length-map by S)
  substituted_index by i d false (Some v) at f = cc (open-index by d i, open-index (map S by) d i, is.index i, at, f, slice_get-map S (reverse by) (i - d), reverse_map S by, substituted_shift d v 0)

  -- a binder opened before or after a substitution
  pub substituted_open : (by : List Bare) (t : Bare) (d : ℕ) → Opened by d t
  substituted_open by = bare_ind (λ t. (d : ℕ) → Opened by d t) var index app meta bind
    where
      var : (x : List ℕ) (d : ℕ) → Opened by d (bare.Var x)
      var x d = cc (open-var by d x, open-var (map S by) d x, is.var x)

      index : (i : ℕ) (d : ℕ) → Opened by d (bare.Index i)
      index i d = substituted_index by i d (nat_lt i d) (slice_get (reverse by) (i - d)) refl refl

      app : (f : List ℕ) (ts : List Bare) → AllByRecursion (λ t. (d : ℕ) → Opened by d t) ts → (d : ℕ) → Opened by d (bare.App f ts)
      app f ts c d =
          let zero_d : 0 + d ≡ d = omega arith in
          let past = is.past_app (λ j. open_under (map S by) (j + d)) (open_map (map S by) d) f (map S ts) in
          cc (open-app by d f ts, is.app f (map (open_under by d) ts), is.app f ts, past, zero_d, twice S (open_under by d) (open_under (map S by) d) S ts (all_at (Opened by) d ts c))

      meta : (m : List ℕ) (ts : List Bare) → AllByRecursion (λ t. (d : ℕ) → Opened by d t) ts → (d : ℕ) → Opened by d (bare.Meta m ts)
      meta m ts c d =
          let zero_d : 0 + d ≡ d = omega arith in
          let past = is.past_meta (λ j. open_under (map S by) (j + d)) (open_map (map S by) d) m (map S ts) in
          cc (open-meta by d m ts, is.meta m (map (open_under by d) ts), is.meta m ts, past, zero_d, twice S (open_under by d) (open_under (map S by) d) S ts (all_at (Opened by) d ts c))

      bind : (b : List ℕ) (domain body : Bare) → ((d : ℕ) → Opened by d domain) → ((d : ℕ) → Opened by d body) → (d : ℕ) → Opened by d (bare.Bind b domain body)
      bind b domain body c e d = cc (open-bind by d b domain body, is.bind b (open_under by d domain) (open_under by (d + 1) body), is.bind b domain body, open-bind (map S by) d (is.binder b) (S domain) (S body), c d, e (d + 1))
