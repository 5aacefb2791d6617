-- A free variable of an instance is one of the tree or of an inserted body.
use Rattle.std.proofs.Common.{◌≡◌, ℕ, ◌+◌, ◌-◌, Bool, true, false, ◌||◌, cond, nat_lt, nat_eq, List, [], ◌∷◌, ◌++◌, map, length, reverse, slice_get, Option, Some, None, refl, ap, sym, ◌∙◌, ◌⊎◌, inl, inr}
use Rattle.std.specs.List.{AllByRecursion, flat_map}
use Rattle.std.proofs.lemmas.List.Folds.{list_any-append}
use Rattle.mu_tree.specs.Names.{is_among}
use Rattle.mu_tree.specs.Trees.{joined}
use Rattle.mu_decl.specs.declared.bare.Bare.{Bare}
use Rattle.mu_decl.specs.declared.bare.Bare.TheOpen.{Var, Index, App, Meta, Bind}
use Rattle.mu_decl.specs.declared.bare.Bare.TheFolds.{fold-roll-Bare}
use Rattle.mu_decl.specs.declared.bare.Bare.TheVariants as bare
use Rattle.mu_decl.specs.declared.instantiating.Abstraction.{Abstraction}
use Rattle.mu_decl.specs.Opening.{shift_under, placed, open_under, opened}
use Rattle.mu_decl.specs.Instantiating.{abstraction_of, instance_by, instantiated}
use Rattle.mu_decl.specs.Laws.{variables, variables_step, VariablesStay}
use Rattle.mu_decl.proofs.OpeningEquations.{shift-var, shift-index, shift-app, shift-meta, shift-bind, open-var, open-index, open-app, open-meta, open-bind, instantiated-var, instantiated-index, instantiated-app, instantiated-meta, instantiated-bind}
use Rattle.mu_decl.proofs.Induction.{bare_ind, all_at}
use Rattle.mu_decl.proofs.Closing.{all_reverse, all_get, found_all}

variables-var : (x : List ℕ) → variables (bare.Var x) ≡ x ∷ []
unfolding variables
variables-var x = ap variables (sym (bare.rolls-Var x)) ∙ fold-roll-Bare (List (List ℕ)) variables_step (Var x)

variables-index : (i : ℕ) → variables (bare.Index i) ≡ []
unfolding variables
variables-index i = ap variables (sym (bare.rolls-Index i)) ∙ fold-roll-Bare (List (List ℕ)) variables_step (Index i)

variables-app : (f : List ℕ) (ts : List Bare) → variables (bare.App f ts) ≡ joined (map variables ts)
unfolding variables
variables-app f ts = ap variables (sym (bare.rolls-App f ts)) ∙ fold-roll-Bare (List (List ℕ)) variables_step (App f ts)

variables-meta : (m : List ℕ) (ts : List Bare) → variables (bare.Meta m ts) ≡ joined (map variables ts)
unfolding variables
variables-meta m ts = ap variables (sym (bare.rolls-Meta m ts)) ∙ fold-roll-Bare (List (List ℕ)) variables_step (Meta m ts)

variables-bind : (b : List ℕ) (domain body : Bare) → variables (bare.Bind b domain body) ≡ variables domain ++ variables body
unfolding variables
variables-bind b domain body = ap variables (sym (bare.rolls-Bind b domain body)) ∙ fold-roll-Bare (List (List ℕ)) variables_step (Bind b domain body)

-- shifting leaves the free variables
module _ (by : ℕ) where
  abbrev Shifts : Bare → Type 0
  Shifts t = (d : ℕ) → variables (shift_under by d t) ≡ variables t

  shifts_all : (d : ℕ) (ts : List Bare) → AllByRecursion Shifts ts → map variables (map (shift_under by d) ts) ≡ map variables ts
  shifts_all d [] c = refl
  shifts_all d (t ∷ ts) c =
      let e = c.0 d in
      let r = shifts_all d ts c.1 in
      cc

  variables-shift : (t : Bare) → Shifts t
  variables-shift = bare_ind Shifts var index app meta bind
    where
      var : (x : List ℕ) → Shifts (bare.Var x)
      var x d = ap variables (shift-var by d x)

      index : (i : ℕ) → Shifts (bare.Index i)
      index i d = ap variables (shift-index by d i) ∙ variables-index (cond (nat_lt i d) i (i + by)) ∙ sym (variables-index i)

      app : (f : List ℕ) (ts : List Bare) → AllByRecursion Shifts ts → Shifts (bare.App f ts)
      app f ts c d = cc (shift-app by d f ts, variables-app f ts, variables-app f (map (shift_under by d) ts), shifts_all d ts c)

      meta : (m : List ℕ) (ts : List Bare) → AllByRecursion Shifts ts → Shifts (bare.Meta m ts)
      meta m ts c d = cc (shift-meta by d m ts, variables-meta m ts, variables-meta m (map (shift_under by d) ts), shifts_all d ts c)

      bind : (b : List ℕ) (domain body : Bare) → Shifts domain → Shifts body → Shifts (bare.Bind b domain body)
      bind b domain body c e d = cc (shift-bind by d b domain body, variables-bind b domain body, variables-bind b (shift_under by d domain) (shift_under by (d + 1) body), c d, e (d + 1))

either_step : (a b : Bool) → (a || b) ≡ true → (a ≡ true) ⊎ (b ≡ true)
either_step true b e = inl refl
either_step false b e = inr e

or_left : (a b : Bool) → a ≡ true → (a || b) ≡ true
or_left a b e = cc

or_right : (a b : Bool) → b ≡ true → (a || b) ≡ true
or_right true b e = refl
or_right false b e = e

module _ (x : List ℕ) where
  abbrev Has : List (List ℕ) → Type 0
  Has names = is_among names x ≡ true

  along : (ns ms : List (List ℕ)) → ns ≡ ms → Has ms → Has ns
  along ns ms e h = ap (λ names. is_among names x) e ∙ h

  split : (ns ms : List (List ℕ)) → Has (ns ++ ms) → Has ns ⊎ Has ms
  split ns ms h = either_step (is_among ns x) (is_among ms x) (sym (list_any-append _ ns ms) ∙ h)

  left : (ns ms : List (List ℕ)) → Has ns → Has (ns ++ ms)
  left ns ms h = list_any-append _ ns ms ∙ or_left (is_among ns x) (is_among ms x) h

  right : (ns ms : List (List ℕ)) → Has ms → Has (ns ++ ms)
  right ns ms h = list_any-append _ ns ms ∙ or_right (is_among ns x) (is_among ms x) h

  -- in one of two lists, or else `Other`
  module _ (Other : Type 0) where
    carried : (ns ms : List (List ℕ)) → ns ≡ ms → Has ms ⊎ Other → Has ns ⊎ Other
    carried ns ms e (inl h) = inl (along ns ms e h)
    carried ns ms e (inr o) = inr o

    in_left : (ns ms : List (List ℕ)) → Has ns ⊎ Other → Has (ns ++ ms) ⊎ Other
    in_left ns ms (inl h) = inl (left ns ms h)
    in_left ns ms (inr o) = inr o

    in_right : (ns ms : List (List ℕ)) → Has ms ⊎ Other → Has (ns ++ ms) ⊎ Other
    in_right ns ms (inl h) = inl (right ns ms h)
    in_right ns ms (inr o) = inr o

    in_either : (ns ms ps qs : List (List ℕ)) → (Has ps → Has ns ⊎ Other) → (Has qs → Has ms ⊎ Other) → Has ps ⊎ Has qs → Has (ns ++ ms) ⊎ Other
    in_either ns ms ps qs f g (inl h) = in_left ns ms (f h)
    in_either ns ms ps qs f g (inr h) = in_right ns ms (g h)

    -- what holds of each part holds of all
    in_parts : (f : Bare → Bare) (ts : List Bare) → AllByRecursion (λ t. Has (variables (f t)) → Has (variables t) ⊎ Other) ts → Has (joined (map variables (map f ts))) → Has (joined (map variables ts)) ⊎ Other
    in_parts f [] c h = inl h
    in_parts f (t ∷ ts) c h = in_either (variables t) (joined (map variables ts)) (variables (f t)) (joined (map variables (map f ts))) c.0 (in_parts f ts c.1) (split (variables (f t)) (joined (map variables (map f ts))) h)

    each : (ts : List Bare) → (Has (joined (map variables ts)) → Other) → AllByRecursion (λ t. Has (variables t) → Other) ts
    each [] f = tt
    each (t ∷ ts) f = ((λ h. f (left (variables t) (joined (map variables ts)) h)), each ts (λ h. f (right (variables t) (joined (map variables ts)) h)))

    each_body : (given : List Abstraction) → (Has (flat_map (λ (a : Abstraction). variables a.body) given) → Other) → AllByRecursion (λ (a : Abstraction). Has (variables a.body) → Other) given
    each_body [] f = tt
    each_body (a ∷ given) f = ((λ h. f (left (variables a.body) (flat_map (λ (b : Abstraction). variables b.body) given) h)), each_body given (λ h. f (right (variables a.body) (flat_map (λ (b : Abstraction). variables b.body) given) h)))

  nowhere : (i : ℕ) → Has (variables (bare.Index i)) → ⊥
  nowhere i h = let e = variables-index i in let z : false ≡ true = ap (λ names. is_among names x) (sym e) ∙ h in cc

  -- opening
  module _ (by : List Bare) where
    abbrev By : Type 0
    By = Has (joined (map variables by))

    abbrev Opens : ℕ → Bare → Type 0
    Opens d t = Has (variables (open_under by d t)) → Has (variables t) ⊎ By

    opens_index : (i d lower k : ℕ) (b : Bool) (o : Option Bare) → slice_get (reverse by) k ≡ o → Has (variables (cond b (bare.Index i) (placed d lower o))) → By
    opens_index i d lower k true o e h = absurd (nowhere i h)
    opens_index i d lower k false None e h = absurd (nowhere lower h)
    opens_index i d lower k false (Some t) e h = all_get (λ t. Has (variables t) → By) (reverse by) k t (all_reverse (λ t. Has (variables t) → By) by (each By by (λ p. p))) e (along (variables t) (variables (shift_under d 0 t)) (sym (variables-shift d t 0)) h)

    opens : (t : Bare) (d : ℕ) → Opens d t
    opens = bare_ind (λ t. (d : ℕ) → Opens d t) var index app meta bind
      where
        var : (y : List ℕ) (d : ℕ) → Opens d (bare.Var y)
        var y d h = inl (along (variables (bare.Var y)) (variables (open_under by d (bare.Var y))) (sym (ap variables (open-var by d y))) h)

        index : (i d : ℕ) → Opens d (bare.Index i)
        index i d h = inr (opens_index i d (i - length by) (i - d) (nat_lt i d) (slice_get (reverse by) (i - d)) refl (along _ (variables (open_under by d (bare.Index i))) (sym (ap variables (open-index by d i))) h))

        app : (f : List ℕ) (ts : List Bare) → AllByRecursion (λ t. (d : ℕ) → Opens d t) ts → (d : ℕ) → Opens d (bare.App f ts)
        app f ts c d h = carried By (variables (bare.App f ts)) (joined (map variables ts)) (variables-app f ts) (in_parts By (open_under by d) ts (all_at Opens d ts c) (along (joined (map variables (map (open_under by d) ts))) (variables (open_under by d (bare.App f ts))) (sym (ap variables (open-app by d f ts) ∙ variables-app f (map (open_under by d) ts))) h))

        meta : (m : List ℕ) (ts : List Bare) → AllByRecursion (λ t. (d : ℕ) → Opens d t) ts → (d : ℕ) → Opens d (bare.Meta m ts)
        meta m ts c d h = carried By (variables (bare.Meta m ts)) (joined (map variables ts)) (variables-meta m ts) (in_parts By (open_under by d) ts (all_at Opens d ts c) (along (joined (map variables (map (open_under by d) ts))) (variables (open_under by d (bare.Meta m ts))) (sym (ap variables (open-meta by d m ts) ∙ variables-meta m (map (open_under by d) ts))) h))

        bind : (b : List ℕ) (domain body : Bare) → ((d : ℕ) → Opens d domain) → ((d : ℕ) → Opens d body) → (d : ℕ) → Opens d (bare.Bind b domain body)
        bind b domain body c e d h =
            let one = open_under by d domain in
            let two = open_under by (d + 1) body in
            let parts = split (variables one) (variables two) (along (variables one ++ variables two) (variables (open_under by d (bare.Bind b domain body))) (sym (ap variables (open-bind by d b domain body) ∙ variables-bind b one two)) h) in
            carried By (variables (bare.Bind b domain body)) (variables domain ++ variables body) (variables-bind b domain body) (in_either By (variables domain) (variables body) (variables one) (variables two) (c d) (e (d + 1)) parts)

  -- instantiating
  module _ (given : List Abstraction) where
    abbrev Inserted : Type 0
    Inserted = Has (flat_map (λ (a : Abstraction). variables a.body) given)

    abbrev Stays : Bare → Type 0
    Stays t = Has (variables (instantiated given t)) → Has (variables t) ⊎ Inserted

    inserts : (us : List Bare) (body : Bare) → (Has (variables body) → Inserted) → Has (variables body) ⊎ Has (joined (map variables us)) → Has (joined (map variables us)) ⊎ Inserted
    inserts us body f (inl h) = inr (f h)
    inserts us body f (inr h) = inl h

    stays_counted : (m : List ℕ) (us : List Bare) (a : Abstraction) (b : Bool) → (Has (variables a.body) → Inserted) → Has (variables (cond b (opened us a.body) (bare.Meta m us))) → Has (joined (map variables us)) ⊎ Inserted
    stays_counted m us a false f h = inl (along (joined (map variables us)) (variables (bare.Meta m us)) (sym (variables-meta m us)) h)
    stays_counted m us a true f h = inserts us a.body f (opens us a.body 0 h)

    stays_instance : (m : List ℕ) (us : List Bare) (o : Option Abstraction) → ((a : Abstraction) → o ≡ Some a → Has (variables a.body) → Inserted) → Has (variables (instance_by m us o)) → Has (joined (map variables us)) ⊎ Inserted
    stays_instance m us None f h = inl (along (joined (map variables us)) (variables (bare.Meta m us)) (sym (variables-meta m us)) h)
    stays_instance m us (Some a) f h = stays_counted m us a (nat_eq a.count (length us)) (f a refl) h

    through : (ns ms : List (List ℕ)) → (Has ns → Has ms ⊎ Inserted) → Has ns ⊎ Inserted → Has ms ⊎ Inserted
    through ns ms f (inl h) = f h
    through ns ms f (inr i) = inr i

    stays : (t : Bare) → Stays t
    stays = bare_ind Stays var index app meta bind
      where
        var : (y : List ℕ) → Stays (bare.Var y)
        var y h = inl (along (variables (bare.Var y)) (variables (instantiated given (bare.Var y))) (sym (ap variables (instantiated-var given y))) h)

        index : (i : ℕ) → Stays (bare.Index i)
        index i h = inl (along (variables (bare.Index i)) (variables (instantiated given (bare.Index i))) (sym (ap variables (instantiated-index given i))) h)

        app : (f : List ℕ) (ts : List Bare) → AllByRecursion Stays ts → Stays (bare.App f ts)
        app f ts c h = carried Inserted (variables (bare.App f ts)) (joined (map variables ts)) (variables-app f ts) (in_parts Inserted (instantiated given) ts c (along (joined (map variables (map (instantiated given) ts))) (variables (instantiated given (bare.App f ts))) (sym (ap variables (instantiated-app given f ts) ∙ variables-app f (map (instantiated given) ts))) h))

        meta : (m : List ℕ) (ts : List Bare) → AllByRecursion Stays ts → Stays (bare.Meta m ts)
        meta m ts c h =
            let us = map (instantiated given) ts in
            let here = along (variables (instance_by m us (abstraction_of given m))) (variables (instantiated given (bare.Meta m ts))) (sym (ap variables (instantiated-meta given m ts))) h in
            let step = stays_instance m us (abstraction_of given m) (λ a e. found_all (λ (b : Abstraction). Has (variables b.body) → Inserted) given m a (each_body Inserted given (λ p. p)) e) here in
            carried Inserted (variables (bare.Meta m ts)) (joined (map variables ts)) (variables-meta m ts) (through (joined (map variables us)) (joined (map variables ts)) (in_parts Inserted (instantiated given) ts c) step)

        bind : (b : List ℕ) (domain body : Bare) → Stays domain → Stays body → Stays (bare.Bind b domain body)
        bind b domain body c e h =
            let one = instantiated given domain in
            let two = instantiated given body in
            let parts = split (variables one) (variables two) (along (variables one ++ variables two) (variables (instantiated given (bare.Bind b domain body))) (sym (ap variables (instantiated-bind given b domain body) ∙ variables-bind b one two)) h) in
            carried Inserted (variables (bare.Bind b domain body)) (variables domain ++ variables body) (variables-bind b domain body) (in_either Inserted (variables domain) (variables body) (variables one) (variables two) c e parts)

    together : (t : Bare) → Has (variables t) ⊎ Inserted → Has (variables t ++ flat_map (λ (a : Abstraction). variables a.body) given)
    together t (inl h) = left (variables t) (flat_map (λ (a : Abstraction). variables a.body) given) h
    together t (inr i) = right (variables t) (flat_map (λ (a : Abstraction). variables a.body) given) i

pub variables_stay : VariablesStay
unfolding VariablesStay
variables_stay given t x h = together x given t (stays x given t h)
