-- Instantiation by closed bodies leaves no index loose that wasn't.
use Rattle.std.proofs.Common.{◌≡◌, ℕ, ◌+◌, ◌-◌, ◌<◌, ◌≤◌, Bool, true, false, ◌&&◌, cond, nat_lt, nat_eq, List, [], ◌∷◌, map, length, reverse, slice_get, Option, Some, None, refl, ap, sym, ◌∙◌, arith, suc, zero, ◌++◌, subst}
use Rattle.std.specs.List.{AllByRecursion}
use Rattle.std.specs.Cmp.Lexicographic.{pointwise}
use Rattle.std.proofs.lemmas.Simd.{map-map}
use Rattle.std.proofs.lemmas.List.{length-reverse, reverse-append}
use Rattle.mu_decl.specs.declared.bare.Bare.{Bare}
use Rattle.mu_decl.specs.declared.bare.Bare.TheOpen.{Var, Index, App, Meta, Bind}
use Rattle.mu_decl.specs.declared.bare.Bare.TheFolds.{fold-Bare, fold-roll-Bare}
use Rattle.mu_decl.specs.declared.bare.Bare.TheVariants as bare
use Rattle.mu_decl.specs.declared.instantiating.Abstraction.{Abstraction}
use Rattle.mu_decl.specs.Opening.{shift_under, placed, open_under, opened}
use Rattle.mu_decl.specs.Instantiating.{abstraction_of, instance_by, instantiated}
use Rattle.mu_decl.proofs.OpeningEquations.{shift-var, shift-index, shift-app, shift-meta, shift-bind, open-var, open-index, open-app, open-meta, open-bind, instantiated-var, instantiated-index, instantiated-app, instantiated-meta, instantiated-bind}
use Rattle.mu_decl.specs.Laws.{every, closed, closed_step, AreClosed, InstancesAreClosed}
use Rattle.mu_decl.proofs.Induction.{bare_ind}

module _ (n : ℕ) where
  abbrev under : Bare → ℕ → Bool
  under = fold-Bare (ℕ → Bool) closed_step

  abbrev at : (ℕ → Bool) → Bool
  at f = f n

  pub closed-var : (x : List ℕ) → closed n (bare.Var x) ≡ true
  unfolding closed
  closed-var x = ap (λ t. under t n) (sym (bare.rolls-Var x)) ∙ ap at (fold-roll-Bare (ℕ → Bool) closed_step (Var x))

  pub closed-index : (i : ℕ) → closed n (bare.Index i) ≡ nat_lt i n
  unfolding closed
  closed-index i = ap (λ t. under t n) (sym (bare.rolls-Index i)) ∙ ap at (fold-roll-Bare (ℕ → Bool) closed_step (Index i))

  pub closed-app : (f : List ℕ) (arguments : List Bare) → closed n (bare.App f arguments) ≡ every (map (closed n) arguments)
  unfolding closed
  closed-app f arguments = ap (λ t. under t n) (sym (bare.rolls-App f arguments)) ∙ ap at (fold-roll-Bare (ℕ → Bool) closed_step (App f arguments)) ∙ ap every (map-map at under arguments)

  pub closed-meta : (m : List ℕ) (arguments : List Bare) → closed n (bare.Meta m arguments) ≡ every (map (closed n) arguments)
  unfolding closed
  closed-meta m arguments = ap (λ t. under t n) (sym (bare.rolls-Meta m arguments)) ∙ ap at (fold-roll-Bare (ℕ → Bool) closed_step (Meta m arguments)) ∙ ap every (map-map at under arguments)

  pub closed-bind : (b : List ℕ) (domain body : Bare) → closed n (bare.Bind b domain body) ≡ (closed n domain && closed (n + 1) body)
  unfolding closed
  closed-bind b domain body = ap (λ t. under t n) (sym (bare.rolls-Bind b domain body)) ∙ ap at (fold-roll-Bare (ℕ → Bool) closed_step (Bind b domain body))

pub both : (a b : Bool) → (a && b) ≡ true → (a ≡ true) × (b ≡ true)
both true b e = (refl, e)
both false b e = cc

pub and_true : (a b : Bool) → a ≡ true → b ≡ true → (a && b) ≡ true
and_true a b e f = cc

-- all parts are closed where each step keeps them so
pub lift : (n m : ℕ) (f : Bare → Bare) (ts : List Bare) → AllByRecursion (λ t. closed n t ≡ true → closed m (f t) ≡ true) ts → every (map (closed n) ts) ≡ true → every (map (closed m) (map f ts)) ≡ true
lift n m f [] c e = refl
lift n m f (t ∷ ts) c e =
    let p = both (closed n t) (every (map (closed n) ts)) e in
    and_true (closed m (f t)) (every (map (closed m) (map f ts))) (c.0 p.0) (lift n m f ts c.1 p.1)

-- shifting
module _ (by : ℕ) where
  abbrev Shifts : Bare → Type 0
  Shifts t = (n d : ℕ) → closed n t ≡ true → closed (n + by) (shift_under by d t) ≡ true

  shifts_at : (n d : ℕ) (ts : List Bare) → AllByRecursion Shifts ts → AllByRecursion (λ t. closed n t ≡ true → closed (n + by) (shift_under by d t) ≡ true) ts
  shifts_at n d [] c = tt
  shifts_at n d (t ∷ ts) c = (c.0 n d, shifts_at n d ts c.1)

  index_fits : (b : Bool) (i n : ℕ) → i < n → cond b i (i + by) < n + by
  index_fits true i n h = omega arith
  index_fits false i n h = omega arith

  shift_closed : (t : Bare) → Shifts t
  shift_closed = bare_ind Shifts var index app meta bind
    where
      var : (x : List ℕ) → Shifts (bare.Var x)
      var x n d e = cc (shift-var by d x, closed-var (n + by) x)

      index : (i : ℕ) → Shifts (bare.Index i)
      index i n d e =
          let k : nat_lt i n ≡ true = cc (closed-index n i, e) in
          let h : i < n = grind (arith, k) in
          let l = index_fits (nat_lt i d) i n h in
          let q : nat_lt (cond (nat_lt i d) i (i + by)) (n + by) ≡ true = grind (arith, l) in
          cc (shift-index by d i, closed-index (n + by) (cond (nat_lt i d) i (i + by)), q)

      app : (f : List ℕ) (ts : List Bare) → AllByRecursion Shifts ts → Shifts (bare.App f ts)
      app f ts c n d e = ap (closed (n + by)) (shift-app by d f ts) ∙ closed-app (n + by) f (map (shift_under by d) ts) ∙ lift n (n + by) (shift_under by d) ts (shifts_at n d ts c) (sym (closed-app n f ts) ∙ e)

      meta : (m : List ℕ) (ts : List Bare) → AllByRecursion Shifts ts → Shifts (bare.Meta m ts)
      meta m ts c n d e = ap (closed (n + by)) (shift-meta by d m ts) ∙ closed-meta (n + by) m (map (shift_under by d) ts) ∙ lift n (n + by) (shift_under by d) ts (shifts_at n d ts c) (sym (closed-meta n m ts) ∙ e)

      bind : (b : List ℕ) (domain body : Bare) → Shifts domain → Shifts body → Shifts (bare.Bind b domain body)
      bind b domain body c f n d e =
          let p = both (closed n domain) (closed (n + 1) body) (sym (closed-bind n b domain body) ∙ e) in
          let one : (n + 1) + by ≡ (n + by) + 1 = omega arith in
          let q : closed ((n + by) + 1) (shift_under by (d + 1) body) ≡ true = ap (λ k. closed k (shift_under by (d + 1) body)) (sym one) ∙ f (n + 1) (d + 1) p.1 in
          ap (closed (n + by)) (shift-bind by d b domain body) ∙ closed-bind (n + by) b (shift_under by d domain) (shift_under by (d + 1) body) ∙ and_true (closed (n + by) (shift_under by d domain)) (closed ((n + by) + 1) (shift_under by (d + 1) body)) (c n d p.0) q

pub every_all : (n : ℕ) (ts : List Bare) → every (map (closed n) ts) ≡ true → AllByRecursion (λ t. closed n t ≡ true) ts
every_all n [] e = tt
every_all n (t ∷ ts) e = let p = both (closed n t) (every (map (closed n) ts)) e in (p.0, every_all n ts p.1)

all_push : (P : Bare → Type 0) (ts : List Bare) (t : Bare) → AllByRecursion P ts → P t → AllByRecursion P (ts ++ t ∷ [])
all_push P [] t c p = (p, tt)
all_push P (u ∷ ts) t c p = (c.0, all_push P ts t c.1 p)

pub all_reverse : (P : Bare → Type 0) (ts : List Bare) → AllByRecursion P ts → AllByRecursion P (reverse ts)
all_reverse P [] c = tt
all_reverse P (t ∷ ts) c = subst (AllByRecursion P) (sym (reverse-append (t ∷ []) ts)) (all_push P (reverse ts) t (all_reverse P ts c.1) c.0)

pub all_get : (P : Bare → Type 0) (ts : List Bare) (k : ℕ) (t : Bare) → AllByRecursion P ts → slice_get ts k ≡ Some t → P t
all_get P [] k t c e = absurd (none_some e)
  where
    none_some : None ≡ Some t → ⊥
    none_some h = cc
all_get P (u ∷ ts) zero t c e = subst P (let s : u ≡ t = cc in s) c.0
all_get P (u ∷ ts) (suc k) t c e = all_get P ts k t c.1 e

pub get_some : (ts : List Bare) (k : ℕ) → k < length ts → slice_get ts k ≡ None → ⊥
get_some [] k h e = omega arith
get_some (t ∷ ts) zero h e = cc
get_some (t ∷ ts) (suc k) h e = get_some ts k (omega arith) e

-- opening
module _ (arguments : List Bare) (d : ℕ) (here : AllByRecursion (λ a. closed d a ≡ true) arguments) where
  abbrev Opens : Bare → Type 0
  Opens t = (j : ℕ) → closed (j + length arguments) t ≡ true → closed (j + d) (open_under arguments j t) ≡ true

  opens_at : (j : ℕ) (ts : List Bare) → AllByRecursion Opens ts → AllByRecursion (λ t. closed (j + length arguments) t ≡ true → closed (j + d) (open_under arguments j t) ≡ true) ts
  opens_at j [] c = tt
  opens_at j (t ∷ ts) c = (c.0 j, opens_at j ts c.1)

  index_case : (j i : ℕ) (b : Bool) (o : Option Bare) → i < j + length arguments → nat_lt i j ≡ b → slice_get (reverse arguments) (i - j) ≡ o → closed (j + d) (cond b (bare.Index i) (placed j (i - length arguments) o)) ≡ true
  index_case j i true o h t g =
      let k : i < j = grind (arith, t) in
      let q : nat_lt i (j + d) ≡ true = grind (arith, k) in
      closed-index (j + d) i ∙ q
  index_case j i false (Some a) h t g =
      let one : d + j ≡ j + d = omega arith in
      let p = all_get (λ a. closed d a ≡ true) (reverse arguments) (i - j) a (all_reverse (λ a. closed d a ≡ true) arguments here) g in
      ap (λ k. closed k (shift_under j 0 a)) (sym one) ∙ shift_closed j a d 0 p
  index_case j i false None h t g =
      let k : j ≤ i = grind (arith, t) in
      let len = length-reverse arguments in
      absurd (get_some (reverse arguments) (i - j) (omega arith) g)

  open_closed : (t : Bare) → Opens t
  open_closed = bare_ind Opens var index app meta bind
    where
      var : (x : List ℕ) → Opens (bare.Var x)
      var x j e = cc (open-var arguments j x, closed-var (j + d) x)

      index : (i : ℕ) → Opens (bare.Index i)
      index i j e =
          let k : nat_lt i (j + length arguments) ≡ true = cc (closed-index (j + length arguments) i, e) in
          let h : i < j + length arguments = grind (arith, k) in
          ap (closed (j + d)) (open-index arguments j i) ∙ index_case j i (nat_lt i j) (slice_get (reverse arguments) (i - j)) h refl refl

      app : (f : List ℕ) (ts : List Bare) → AllByRecursion Opens ts → Opens (bare.App f ts)
      app f ts c j e = ap (closed (j + d)) (open-app arguments j f ts) ∙ closed-app (j + d) f (map (open_under arguments j) ts) ∙ lift (j + length arguments) (j + d) (open_under arguments j) ts (opens_at j ts c) (sym (closed-app (j + length arguments) f ts) ∙ e)

      meta : (m : List ℕ) (ts : List Bare) → AllByRecursion Opens ts → Opens (bare.Meta m ts)
      meta m ts c j e = ap (closed (j + d)) (open-meta arguments j m ts) ∙ closed-meta (j + d) m (map (open_under arguments j) ts) ∙ lift (j + length arguments) (j + d) (open_under arguments j) ts (opens_at j ts c) (sym (closed-meta (j + length arguments) m ts) ∙ e)

      bind : (b : List ℕ) (domain body : Bare) → Opens domain → Opens body → Opens (bare.Bind b domain body)
      bind b domain body c f j e =
          let p = both (closed (j + length arguments) domain) (closed ((j + length arguments) + 1) body) (sym (closed-bind (j + length arguments) b domain body) ∙ e) in
          let one : (j + length arguments) + 1 ≡ (j + 1) + length arguments = omega arith in
          let two : (j + d) + 1 ≡ (j + 1) + d = omega arith in
          let q = f (j + 1) (ap (λ k. closed k body) (sym one) ∙ p.1) in
          let r : closed ((j + d) + 1) (open_under arguments (j + 1) body) ≡ true = ap (λ k. closed k (open_under arguments (j + 1) body)) two ∙ q in
          ap (closed (j + d)) (open-bind arguments j b domain body) ∙ closed-bind (j + d) b (open_under arguments j domain) (open_under arguments (j + 1) body) ∙ and_true (closed (j + d) (open_under arguments j domain)) (closed ((j + d) + 1) (open_under arguments (j + 1) body)) (c j p.0) r

-- instantiating
found_step : (P : Abstraction → Type 0) (a : Abstraction) (rest : Option Abstraction) (b : Bool) (x : Abstraction) → P a → (rest ≡ Some x → P x) → cond b (Some a) rest ≡ Some x → P x
found_step P a rest true x c f e = let s : a ≡ x = cc in subst P s c
found_step P a rest false x c f e = f e

-- what holds of all abstractions holds of the one that is found
pub found_all : (P : Abstraction → Type 0) (given : List Abstraction) (m : List ℕ) (x : Abstraction) → AllByRecursion P given → abstraction_of given m ≡ Some x → P x
found_all P [] m x c e = absurd (none_some e)
  where
    none_some : None ≡ Some x → ⊥
    none_some h = cc
found_all P (a ∷ given) m x c e = found_step P a (abstraction_of given m) (pointwise nat_eq a.meta m) x c.0 (found_all P given m x c.1) e

pub found_closed : (given : List Abstraction) (m : List ℕ) (x : Abstraction) → AreClosed given → abstraction_of given m ≡ Some x → closed x.count x.body ≡ true
found_closed given m x c e = found_all (λ (a : Abstraction). closed a.count a.body ≡ true) given m x c e

instance_step : (n : ℕ) (m : List ℕ) (arguments : List Bare) (a : Abstraction) (b : Bool) → every (map (closed n) arguments) ≡ true → closed a.count a.body ≡ true → nat_eq a.count (length arguments) ≡ b → closed n (cond b (opened arguments a.body) (bare.Meta m arguments)) ≡ true
instance_step n m arguments a false f c t = closed-meta n m arguments ∙ f
instance_step n m arguments a true f c t =
    let count : a.count ≡ 0 + length arguments = grind (arith, t) in
    let zero_n : n ≡ 0 + n = omega arith in
    let p : closed (0 + length arguments) a.body ≡ true = ap (λ k. closed k a.body) (sym count) ∙ c in
    ap (λ k. closed k (open_under arguments 0 a.body)) zero_n ∙ open_closed arguments n (every_all n arguments f) a.body 0 p

instance_case : (n : ℕ) (m : List ℕ) (arguments : List Bare) (o : Option Abstraction) → every (map (closed n) arguments) ≡ true → ((x : Abstraction) → o ≡ Some x → closed x.count x.body ≡ true) → closed n (instance_by m arguments o) ≡ true
instance_case n m arguments None f c = closed-meta n m arguments ∙ f
instance_case n m arguments (Some a) f c = instance_step n m arguments a (nat_eq a.count (length arguments)) f (c a refl) refl

module _ (given : List Abstraction) (ok : AreClosed given) where
  abbrev Instances : Bare → Type 0
  Instances t = (n : ℕ) → closed n t ≡ true → closed n (instantiated given t) ≡ true

  instances_at : (n : ℕ) (ts : List Bare) → AllByRecursion Instances ts → AllByRecursion (λ t. closed n t ≡ true → closed n (instantiated given t) ≡ true) ts
  instances_at n [] c = tt
  instances_at n (t ∷ ts) c = (c.0 n, instances_at n ts c.1)

  instantiated_closed : (t : Bare) → Instances t
  instantiated_closed = bare_ind Instances var index app meta bind
    where
      var : (x : List ℕ) → Instances (bare.Var x)
      var x n e = cc (instantiated-var given x, e)

      index : (i : ℕ) → Instances (bare.Index i)
      index i n e = cc (instantiated-index given i, e)

      app : (f : List ℕ) (ts : List Bare) → AllByRecursion Instances ts → Instances (bare.App f ts)
      app f ts c n e = ap (closed n) (instantiated-app given f ts) ∙ closed-app n f (map (instantiated given) ts) ∙ lift n n (instantiated given) ts (instances_at n ts c) (sym (closed-app n f ts) ∙ e)

      meta : (m : List ℕ) (ts : List Bare) → AllByRecursion Instances ts → Instances (bare.Meta m ts)
      meta m ts c n e = ap (closed n) (instantiated-meta given m ts) ∙ instance_case n m (map (instantiated given) ts) (abstraction_of given m) (lift n n (instantiated given) ts (instances_at n ts c) (sym (closed-meta n m ts) ∙ e)) (λ x g. found_closed given m x ok g)

      bind : (b : List ℕ) (domain body : Bare) → Instances domain → Instances body → Instances (bare.Bind b domain body)
      bind b domain body c f n e =
          let p = both (closed n domain) (closed (n + 1) body) (sym (closed-bind n b domain body) ∙ e) in
          ap (closed n) (instantiated-bind given b domain body) ∙ closed-bind n b (instantiated given domain) (instantiated given body) ∙ and_true (closed n (instantiated given domain)) (closed (n + 1) (instantiated given body)) (c n p.0) (f (n + 1) p.1)

pub instances_are_closed : InstancesAreClosed
unfolding InstancesAreClosed
instances_are_closed given ok n t e = instantiated_closed given ok t n e
