-- Keys that tell names: the least name that one of some keys tells, and the first name on a circle.
use Rattle.std.proofs.Common.{◌≡◌, ◌↔◌, ◌∙◌, IsTrue, inl, inr, refl, sym, ap, subst, ℕ, Bool, true, false, List, [], ◌∷◌, ◌++◌, map, Option, Some, None, MatchOption}
use Rattle.std.specs.Prelude.{◌⊎◌, is_some, unwrap_or}
use Rattle.std.specs.Ordering.{nat_cmp, is_gt, ordering_reverse}
use Rattle.std.specs.declared.cmp.Ordering.{Ordering}
use Rattle.std.specs.declared.cmp.Ordering.TheVariants.{Less, Equal, Greater}
use Rattle.std.specs.Cmp.{tied_itself, upto}
use Rattle.std.specs.Cmp.Lexicographic.{slice_cmp, nat_list_cmp_total}
use Rattle.std.specs.FinMap as finite
use Rattle.std.proofs.lemmas.Bool.{false≢true}
use Rattle.mu_tree.specs.Maps.{MapOf}
use Rattle.mu_graph.specs.Circles.{OnCircle, IsAcyclic, IsBetween, IsFirstOf, GainsAt, CirclesClose}
use Rattle.mu_graph.specs.Derivations.{Stands}
use Rattle.mu_graph.specs.Names.{led_by}
use Rattle.mu_graph.specs.Told.{Tells, AllNamed, is_on_circle, first_circle, CirclesAreTold, IsLeastName, IsLeastTold, IsFirstClosed}
use Rattle.mu_graph.specs.Walks.{IsLedTo}
use Rattle.mu_graph.proofs.CircleLemmas.{circles_close, reached_end}
use Rattle.mu_graph.proofs.Decided.{circle_leaves, on_circle_decides, find_first, find_none, found_first, found_none}
use Rattle.mu_graph.proofs.DerivationLemmas.{stands_map, stands_from, stands_front, stands_either, stands_one, stands_back}
use Rattle.mu_graph.proofs.EntryLemmas.{least_is_first}
use Rattle.mu_graph.proofs.NameLemmas.{linking_stands}

-- ---- the least name
pub not_gt : (o : Ordering) → (o ≡ Greater → ⊥) → is_gt o ≡ false
not_gt Greater h = absurd (h refl)
not_gt Less h = refl
not_gt Equal h = refl

no_greater : (a b : List ℕ) → is_gt (slice_cmp nat_cmp a b) ≡ true → is_gt (slice_cmp nat_cmp b a) ≡ false
no_greater a b h = ap is_gt (nat_list_cmp_total.antisymm b a) ∙ go (slice_cmp nat_cmp a b) h
  where
    go : (o : Ordering) → is_gt o ≡ true → is_gt (ordering_reverse o) ≡ false
    go Greater h = refl
    go Less h = absurd (false≢true h)
    go Equal h = absurd (false≢true h)

-- what holds of the same names has the same least one
pub least_same : (P Q : List ℕ → Type 0) → ((name : List ℕ) → P name ↔ Q name) → (least : Option (List ℕ)) → IsLeastName P least → IsLeastName Q least
least_same P Q same None none = λ name q. none name ((same name).1 q)
least_same P Q same (Some name) is = ((same name).0 is.0, λ other q. is.1 other ((same other).1 q))

module _ (P : List ℕ → Type 0) (name : List ℕ) where
  -- it holds of one name more
  abbrev OrHere : List ℕ → Type 0
  OrHere other = P other ⊎ (name ≡ other)

  not_below_itself : (other : List ℕ) → name ≡ other → is_gt (slice_cmp nat_cmp name other) ≡ false
  not_below_itself other e = subst (λ k. is_gt (slice_cmp nat_cmp name k) ≡ false) e (ap is_gt (tied_itself nat_list_cmp_total name))

  -- the first name is the least
  least_begins : IsLeastName P None → IsLeastName OrHere (Some name)
  least_begins none = (inr refl, λ other s. elim s [ inl p ↦ absurd (none other p) | inr e ↦ not_below_itself other e ])

  module _ (before : List ℕ) (is : IsLeastName P (Some before)) where
    -- a name that is no less leaves it
    least_stays : is_gt (slice_cmp nat_cmp before name) ≡ false → IsLeastName OrHere (Some before)
    least_stays h = (inl is.0, λ other s. elim s [ inl p ↦ is.1 other p | inr e ↦ subst (λ k. is_gt (slice_cmp nat_cmp before k) ≡ false) e h ])

    -- and one that is less is the least
    least_falls : is_gt (slice_cmp nat_cmp before name) ≡ true → IsLeastName OrHere (Some name)
    least_falls h = (inr refl, λ other s. elim s [ inl p ↦ upto nat_list_cmp_total name before other (no_greater before name h) (is.1 other p) | inr e ↦ not_below_itself other e ])

-- ---- names that keys tell
module _ {N : Type 0} (told : N → Option (List ℕ)) (named : List ℕ → N) (tells : Tells told named) where
  -- two names have two keys
  pub one_name : (a b : List ℕ) → named a ≡ named b → a ≡ b
  one_name a b e = ap (λ found. unwrap_or found a) (sym ((tells (named a) a).1 refl) ∙ (tells (named a) b).1 (sym e))

  module _ (front : List N) (key : N) where
    -- a key that tells no name leaves the least one
    pub untold_passes : told key ≡ None → (least : Option (List ℕ)) → IsLeastTold named front least → IsLeastTold named (front ++ key ∷ []) least
    untold_passes none least is = least_same (λ name. Stands (named name) front) (λ name. Stands (named name) (front ++ key ∷ [])) (λ name. (stands_front (named name) front (key ∷ []), in_front name)) least is
      where
        in_front : (name : List ℕ) → Stands (named name) (front ++ key ∷ []) → Stands (named name) front
        in_front name s = elim (stands_either (named name) front (key ∷ []) s) [
          | inl t ↦ t
          | inr t ↦ absurd (false≢true (ap is_some (sym none ∙ (tells key name).1 (sym (stands_one (named name) key t)))))
        ]

    module _ (name : List ℕ) (is_told : told key ≡ Some name) where
      here : (other : List ℕ) → name ≡ other → key ≡ named other
      here other e = sym ((tells key other).0 (is_told ∙ ap Some e))

      from_here : (other : List ℕ) → key ≡ named other → name ≡ other
      from_here other e = ap (λ found. unwrap_or found name) (sym is_told ∙ (tells key other).1 (sym e))

      one_more : (other : List ℕ) → (Stands (named other) front ⊎ (name ≡ other)) ↔ Stands (named other) (front ++ key ∷ [])
      one_more other = (
        λ s. elim s [ inl t ↦ stands_front (named other) front (key ∷ []) t | inr e ↦ stands_back (named other) front (key ∷ []) (inl (here other e)) ],
        λ s. elim (stands_either (named other) front (key ∷ []) s) [ inl t ↦ inl t | inr t ↦ inr (from_here other (stands_one (named other) key t)) ],
      )

      with_key : (least : Option (List ℕ)) → IsLeastName (λ other. Stands (named other) front ⊎ (name ≡ other)) least → IsLeastTold named (front ++ key ∷ []) least
      with_key least is = least_same (λ other. Stands (named other) front ⊎ (name ≡ other)) (λ other. Stands (named other) (front ++ key ∷ [])) one_more least is

      -- the first name that is told is the least
      pub told_begins : IsLeastTold named front None → IsLeastTold named (front ++ key ∷ []) (Some name)
      told_begins none = with_key (Some name) (least_begins (λ other. Stands (named other) front) name none)

      module _ (before : List ℕ) (is : IsLeastTold named front (Some before)) where
        -- one that is no less leaves it
        pub told_stays : is_gt (slice_cmp nat_cmp before name) ≡ false → IsLeastTold named (front ++ key ∷ []) (Some before)
        told_stays h = with_key (Some before) (least_stays (λ other. Stands (named other) front) name before is h)

        -- and one that is less is the least
        pub told_falls : is_gt (slice_cmp nat_cmp before name) ≡ true → IsLeastTold named (front ++ key ∷ []) (Some name)
        told_falls h = with_key (Some name) (least_falls (λ other. Stands (named other) front) name before is h)

-- ---- what is closed
module _ {N : Type 0} (named : List ℕ → N) (leads : N → List N) (starts : List N) (to : N) where
  -- where no path goes from the starts to the key, no name is on one
  pub apart_none : (IsLedTo leads starts to → ⊥) → IsFirstClosed named leads starts to None
  apart_none apart = λ name on. apart (reached_end leads starts to (named name) on)

  -- the least name that is told of the keys on these paths is the first on a circle
  pub least_closed : (keys : List N) → ((n : N) → Stands n keys ↔ IsBetween leads starts to n) → (least : Option (List ℕ)) → IsLeastTold named keys least → IsFirstClosed named leads starts to least
  least_closed keys all least is = least_same (λ name. Stands (named name) keys) (λ name. IsBetween leads starts to (named name)) (λ name. all (named name)) least is

-- ---- the first on a circle, as it is computed
-- in a map from names each name that leads to some key is one that the map has
pub led_named : {V : Type 0} (links : V → List (List ℕ)) (table : MapOf V) → AllNamed (led_by links table) (λ name. name) (finite.keys table)
led_named links table from to s = stands_map (λ name. name) from (finite.keys table) (linking_stands links table from to s)

module _ {N : Type 0} (same : N → N → Bool) (exact : (a b : N) → IsTrue (same a b) ↔ (a ≡ b)) (named : List ℕ → N) where
  module _ (leads : N → List N) (names : List (List ℕ)) (all : AllNamed leads named names) where
    -- the test tells what is on a circle
    pub on_circle_so : (name : List ℕ) → IsTrue (is_on_circle same leads named names name) ↔ OnCircle leads (named name)
    on_circle_so name = on_circle_decides leads same exact (map named names) all (named name)

    -- where none is told, there is none
    pub told_acyclic : None ≡ first_circle same leads named names → IsAcyclic leads
    told_acyclic none n on =
        let from = circle_leaves leads n on in
        let name = stands_from named n names (all n from.0 from.1) in
        found_none (is_on_circle same leads named names) (λ other. OnCircle leads (named other)) on_circle_so names (sym none) name.0 name.1 (subst (OnCircle leads) (sym name.2) on)

    -- the law
    pub circles_are_told : CirclesAreTold same leads named names
    unfolding CirclesAreTold
    circles_are_told = go (first_circle same leads named names) refl
      where
        go : (first : Option (List ℕ)) → first_circle same leads named names ≡ first → MatchOption first (IsAcyclic leads) (λ name. IsFirstOf (λ other. OnCircle leads (named other)) names name)
        go None is = told_acyclic (sym is)
        go (Some name) is = found_first (is_on_circle same leads named names) (λ other. OnCircle leads (named other)) on_circle_so names name is

  -- What a key gains in an acyclic graph closes the circles that stand on the paths from there to the key: the first name there is the first on a circle of the graph then.
  module _ (one : (a b : List ℕ) → named a ≡ named b → a ≡ b) (old new : N → List N) (to : N) (gained : List N) (acyclic : IsAcyclic old) (gains : GainsAt old new to gained) where
    abbrev Closes : List ℕ → Type 0
    Closes name = OnCircle new (named name)

    on_path : (name : List ℕ) → Closes name ↔ IsBetween old gained to (named name)
    unfolding CirclesClose
    on_path name = (circles_close old new to gained acyclic gains).1 (named name)

    module _ {V : Type 0} (table : MapOf V) (all : AllNamed new named (finite.keys table)) where
      circle_kept : (name : List ℕ) → Closes name → Stands name (finite.keys table)
      circle_kept name on =
          let from = circle_leaves new (named name) on in
          let kept = stands_from named (named name) (finite.keys table) (all (named name) from.0 from.1) in
          subst (λ other. Stands other (finite.keys table)) (one kept.0 name kept.2) kept.1

      pub closed_told : (first : Option (List ℕ)) → IsFirstClosed named old gained to first → first ≡ first_circle same new named (finite.keys table)
      closed_told None none =
          sym (find_none (is_on_circle same new named (finite.keys table)) Closes (on_circle_so new (finite.keys table) all) (finite.keys table) (λ name s on. none name ((on_path name).0 on)))
      closed_told (Some name) is =
          let on : Closes name = (on_path name).1 is.0 in
          sym (find_first (is_on_circle same new named (finite.keys table)) Closes (on_circle_so new (finite.keys table) all) (finite.keys table) name
          (least_is_first table Closes name (circle_kept name on) on (λ other closes. is.1 other ((on_path other).0 closes))))
