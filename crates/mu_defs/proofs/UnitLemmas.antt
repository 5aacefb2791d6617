-- Units with their parents: which parents a unit has after a change, and what the table of them keeps.
use Rattle.std.proofs.Common.{◌≡◌, inl, inr, refl, sym, ap, subst, ◌∙◌, ℕ, true, List, [], ◌∷◌, Option, Some, None}
use Rattle.std.specs.Prelude.{is_some}
use Rattle.std.specs.Bool.{nat_eq}
use Rattle.std.specs.Option.{option_map_or}
use Rattle.std.specs.Ordering.{nat_cmp}
use Rattle.std.specs.Cmp.Lexicographic.{pointwise, slice_cmp, bytes_decides}
use Rattle.std.specs.FinMap as finite
use Rattle.std.proofs.lemmas.Bool.{false≢true}
use Rattle.mu_tree.specs.Maps.{MapOf, NamesOf}
use Rattle.mu_tree.proofs.MapLemmas.{same_name, get-insert_other, get-remove_here, get-remove_other}
use Rattle.mu_graph.specs.Circles.{IsAcyclic, GainsAt}
use Rattle.mu_graph.specs.Derivations.{Stands}
use Rattle.mu_graph.specs.Names.{members, led_by}
use Rattle.mu_graph.specs.Told.{IsFirstClosed}
use Rattle.mu_graph.proofs.CircleLemmas.{fewer_edges_acyclic}
use Rattle.mu_graph.proofs.Decided.{circle_leaves}
use Rattle.mu_graph.proofs.DerivationLemmas.{stands_one}
use Rattle.mu_graph.proofs.NameLemmas.{empty_is_blank, insert_adds, key_stands}
use Rattle.mu_graph.proofs.ToldLemmas.{led_named, circles_are_told, told_acyclic, closed_told}
use Rattle.mu_defs.specs.Indexes.{members_of, with_member, without_member, Keeps, TurnsAll}
use Rattle.mu_defs.specs.Units.{parents_in, is_parent, with_parent, without_parent, first_unit, UnitCirclesAreExact, IsKept}
use Rattle.mu_defs.specs.declared.units.UnitTable.TheInside.{Inside}
use Rattle.mu_defs.proofs.IndexLemmas as index
use Rattle.mu_defs.proofs.SightLemmas.{stands_key}

-- ---- the graph of parents
-- a unit leads to each of its parents
parent_led : (units : MapOf NamesOf) (unit parent : List ℕ) → is_parent units unit parent ≡ true → Stands parent (led_by members units unit)
parent_led units unit parent = go (finite.get units unit)
  where
    go : (found : Option NamesOf) → finite.contains_key (option_map_or (λ (names : NamesOf). names) found finite.empty) parent ≡ true → Stands parent (option_map_or members found [])
    go None is = absurd (false≢true (sym (empty_is_blank parent) ∙ is))
    go (Some names) is = key_stands names parent is

-- and to nothing else
led_parent : (units : MapOf NamesOf) (unit parent : List ℕ) → Stands parent (led_by members units unit) → is_parent units unit parent ≡ true
led_parent units unit parent = go (finite.get units unit)
  where
    go : (found : Option NamesOf) → Stands parent (option_map_or members found []) → finite.contains_key (option_map_or (λ (names : NamesOf). names) found finite.empty) parent ≡ true
    go None s = absurd s
    go (Some names) s = stands_key names parent s

module _ (units : MapOf NamesOf) (unit : List ℕ) (parents : NamesOf) where
  -- a unit that is given parents has these
  given : (parent : List ℕ) → is_parent (finite.insert units unit parents) unit parent ≡ finite.contains_key parents parent
  given parent = ap (λ (names : NamesOf). finite.contains_key names parent) (index.members-insert_here units unit parents)

  -- and so it leads to these alone
  led_given : (from to : List ℕ) → unit ≡ from → Stands to (led_by members (finite.insert units unit parents) from) → finite.contains_key parents to ≡ true
  led_given from to e s = sym (given to) ∙ led_parent (finite.insert units unit parents) unit to (subst (λ (name : List ℕ). Stands to (led_by members (finite.insert units unit parents) name)) (sym e) s)

  -- and another one to what it led to
  led_other : (other : List ℕ) → (unit ≡ other → ⊥) → led_by members (finite.insert units unit parents) other ≡ led_by members units other
  led_other other n = ap (λ (found : Option NamesOf). option_map_or members found []) (get-insert_other units unit parents other n)

-- what is told of circles is exact
pub unit_circles_are_exact : UnitCirclesAreExact
unfolding UnitCirclesAreExact
unit_circles_are_exact units = circles_are_told (pointwise nat_eq) bytes_decides (λ name. name) (led_by members units) (finite.keys units) (led_named members units)

module _ (units : MapOf NamesOf) (unit parent : List ℕ) where
  abbrev more : MapOf NamesOf
  more = with_parent units unit parent

  abbrev fewer : MapOf NamesOf
  fewer = without_parent units unit parent

  -- one more parent is one more edge
  gained : GainsAt (led_by members units) (led_by members more) unit (parent ∷ [])
  gained =
      let parents = finite.insert (parents_in units unit) parent tt in
      record {
        others = λ other. elim (same_name unit other) [ inl e ↦ inl e | inr n ↦ inr (led_other units unit parents other n) ];
        there = λ name s. parent_led more unit name (given units unit parents name ∙ (insert_adds (parents_in units unit) parent).1 name (inl (stands_one name parent s)));
        only = λ name s. elim ((insert_adds (parents_in units unit) parent).0 name (led_given units unit parents unit name refl s)) [
          | inl e ↦ inl (inl e)
          | inr is ↦ inr (parent_led units unit name is)
        ];
      }

  -- the first name that one more parent closes a circle with is the first on one then
  pub closed_first : IsAcyclic (led_by members units) → (first : Option (List ℕ)) → IsFirstClosed (λ name. name) (led_by members units) (parent ∷ []) unit first → first ≡ first_unit more
  closed_first acyclic =
      closed_told (pointwise nat_eq) bytes_decides (λ name. name) (λ a b e. e) (led_by members units) (led_by members more) unit (parent ∷ []) acyclic gained more (led_named members more)

  -- where none is told, no unit leads back to itself
  pub free_acyclic : first_unit more ≡ None → IsAcyclic (led_by members more)
  free_acyclic free = told_acyclic (pointwise nat_eq) bytes_decides (λ name. name) (led_by members more) (finite.keys more) (led_named members more) (sym free)

  -- where the unit is kept under its new parent, each one is kept under its parents
  turned_gained : (children : MapOf NamesOf) → TurnsAll members units children → TurnsAll members more (with_member children parent unit)
  turned_gained children all from to s =
      elim (gained.others from) [
        | inl e ↦ subst (λ (name : List ℕ). finite.contains_key (members_of (with_member children parent unit) to) name ≡ true) e (elim (gained.only to (subst (λ (name : List ℕ). Stands to (led_by members more name)) (sym e) s)) [
          | inl new ↦ subst (λ (name : List ℕ). finite.contains_key (members_of (with_member children parent unit) name) unit ≡ true) (stands_one to parent new) (index.kept_added children parent unit)
          | inr old ↦ index.keeps_added children parent unit to unit (all unit to old)
        ])
        | inr same ↦ index.keeps_added children parent unit to from (all from to (subst (Stands to) same s))
      ]

  -- what a unit leads to without the parent it led to before, and it doesn't lead to the parent
  lost : (from to : List ℕ) → Stands to (led_by members fewer from) → (parent ≡ to → unit ≡ from → ⊥) × Stands to (led_by members units from)
  lost from to s =
      let parents = finite.remove (parents_in units unit) parent in
      elim (same_name unit from) [
        | inl e ↦
            let there : finite.contains_key parents to ≡ true = led_given units unit parents from to e s in
            elim (same_name parent to) [
              | inl f ↦ absurd (false≢true (ap is_some (sym (get-remove_here (parents_in units unit) parent)) ∙ subst (λ (name : List ℕ). finite.contains_key parents name ≡ true) (sym f) there))
              | inr n ↦ (λ f _. n f, subst (λ (name : List ℕ). Stands to (led_by members units name)) e (parent_led units unit to (ap is_some (sym (get-remove_other (parents_in units unit) parent to n)) ∙ there)))
            ]
        | inr n ↦ (λ _ e. n e, subst (Stands to) (led_other units unit parents from n) s)
      ]

-- a unit that is added without parents leads to nothing
added : (units : MapOf NamesOf) (name from to : List ℕ) → Stands to (led_by members (finite.insert units name finite.empty) from) → Stands to (led_by members units from)
added units name from to s = elim (same_name name from) [
  | inl e ↦ absurd (false≢true (sym (empty_is_blank to) ∙ led_given units name finite.empty from to e s))
  | inr n ↦ subst (Stands to) (led_other units name finite.empty from n) s
]

-- one that is taken out leads to nothing either
taken : (units : MapOf NamesOf) (name from to : List ℕ) → Stands to (led_by members (finite.remove units name) from) → Stands to (led_by members units from)
taken units name from to s = elim (same_name name from) [
  | inl e ↦ absurd (subst (λ (found : Option NamesOf). Stands to (option_map_or members found [])) (ap (finite.get (finite.remove units name)) (sym e) ∙ get-remove_here units name) s)
  | inr n ↦ subst (λ (found : Option NamesOf). Stands to (option_map_or members found [])) (get-remove_other units name from n) s
]

-- no unit leads back to itself after a change that brings no parent in
module _ (units : MapOf NamesOf) (acyclic : IsAcyclic (led_by members units)) where
  pub added_acyclic : (name : List ℕ) → IsAcyclic (led_by members (finite.insert units name finite.empty))
  added_acyclic name = fewer_edges_acyclic (led_by members (finite.insert units name finite.empty)) (led_by members units) (added units name) acyclic

  pub taken_acyclic : (name : List ℕ) → IsAcyclic (led_by members (finite.remove units name))
  taken_acyclic name = fewer_edges_acyclic (led_by members (finite.remove units name)) (led_by members units) (taken units name) acyclic

  pub lost_acyclic : (unit parent : List ℕ) → IsAcyclic (led_by members (without_parent units unit parent))
  lost_acyclic unit parent = fewer_edges_acyclic (led_by members (without_parent units unit parent)) (led_by members units) (λ from to s. (lost units unit parent from to s).1) acyclic

-- ---- what the table keeps
pub kept_none : IsKept (record { parents = finite.empty; children = finite.empty })
kept_none = record {
  acyclic = λ name on.
      let edge = circle_leaves (led_by members finite.empty) name on in
      subst (λ (found : Option NamesOf). Stands edge.0 (option_map_or members found [])) (finite.get-empty (slice_cmp nat_cmp) name) edge.1;
  children = index.turns_all_none members finite.empty;
}

module _ (inside : Inside) (kept : IsKept inside) where
  -- units of which none leads to more
  kept_fewer : (parents : MapOf NamesOf) → ((from to : List ℕ) → Stands to (led_by members parents from) → Stands to (led_by members inside.parents from)) → IsKept (record inside { parents = parents })
  kept_fewer parents fewer = record {
    acyclic = fewer_edges_acyclic (led_by members parents) (led_by members inside.parents) fewer kept.acyclic;
    children = λ from to s. kept.children from to (fewer from to s);
  }

  pub kept_added : (name : List ℕ) → IsKept (record inside { parents = finite.insert inside.parents name finite.empty })
  kept_added name = kept_fewer (finite.insert inside.parents name finite.empty) (added inside.parents name)

  pub kept_taken : (name : List ℕ) → IsKept (record inside { parents = finite.remove inside.parents name })
  kept_taken name = kept_fewer (finite.remove inside.parents name) (taken inside.parents name)

  -- an index that keeps more
  pub kept_more : (children : MapOf NamesOf) → Keeps inside.children children → IsKept (record inside { children = children })
  kept_more children keeps = record { acyclic = kept.acyclic; children = index.turns_all_more members inside.parents inside.children children keeps kept.children }

  module _ (unit parent : List ℕ) where
    pub kept_with : first_unit (with_parent inside.parents unit parent) ≡ None → IsKept (record { parents = with_parent inside.parents unit parent; children = with_member inside.children parent unit })
    kept_with free = record { acyclic = free_acyclic inside.parents unit parent free; children = turned_gained inside.parents unit parent inside.children kept.children }

    pub kept_without : IsKept (record { parents = without_parent inside.parents unit parent; children = without_member inside.children parent unit })
    kept_without = record {
      acyclic = fewer_edges_acyclic (led_by members (without_parent inside.parents unit parent)) (led_by members inside.parents) (λ from to s. (lost inside.parents unit parent from to s).1) kept.acyclic;
      children = λ from to s.
          let left = lost inside.parents unit parent from to s in
          index.kept_without inside.children parent unit to from left.0 (kept.children from to left.1);
    }
