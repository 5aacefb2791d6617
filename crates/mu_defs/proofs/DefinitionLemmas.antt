-- Definitions by the name of their constant: what a name leads to after a change, and what the table of them keeps.
use Rattle.std.proofs.Common.{◌≡◌, inl, inr, sym, ap, subst, ◌∙◌, ℕ, List, [], Option, None}
use Rattle.std.specs.Bool.{nat_eq}
use Rattle.std.specs.Option.{option_map_or}
use Rattle.std.specs.Ordering.{nat_cmp}
use Rattle.std.specs.Cmp.Lexicographic.{pointwise, slice_cmp, bytes_decides}
use Rattle.std.specs.FinMap as finite
use Rattle.mu_tree.specs.Maps.{MapOf, NamesOf}
use Rattle.mu_tree.specs.declared.claim.Definition.{Definition}
use Rattle.mu_tree.proofs.MapLemmas.{same_name, get-insert_here, get-insert_other, get-remove_here, get-remove_other}
use Rattle.mu_graph.specs.Circles.{IsAcyclic, GainsAt}
use Rattle.mu_graph.specs.Derivations.{Stands}
use Rattle.mu_graph.specs.Names.{led_by}
use Rattle.mu_graph.specs.Told.{IsFirstClosed}
use Rattle.mu_graph.proofs.CircleLemmas.{fewer_edges_acyclic}
use Rattle.mu_graph.proofs.Decided.{circle_leaves}
use Rattle.mu_graph.proofs.ToldLemmas.{led_named, circles_are_told, told_acyclic, closed_told}
use Rattle.mu_defs.specs.DefinitionTables.{first_constant, DefinitionCirclesAreExact, IsKept}
use Rattle.mu_defs.specs.Indexes.{with_all, Keeps}
use Rattle.mu_defs.specs.Uses.{used_by}
use Rattle.mu_defs.specs.declared.definition_table.DefinitionTable.TheInside.{Inside}
use Rattle.mu_defs.proofs.IndexLemmas as index

-- what is told of circles is exact
pub definition_circles_are_exact : DefinitionCirclesAreExact
unfolding DefinitionCirclesAreExact
definition_circles_are_exact definitions = circles_are_told (pointwise nat_eq) bytes_decides (λ name. name) (led_by used_by definitions) (finite.keys definitions) (led_named used_by definitions)

-- ---- the graph of definitions
module _ (definitions : MapOf Definition) (name : List ℕ) where
  -- a name that has no definition any more leads to nothing, and each other one to what it led to
  taken : (from to : List ℕ) → Stands to (led_by used_by (finite.remove definitions name) from) → Stands to (led_by used_by definitions from)
  taken from to s = elim (same_name name from) [
    | inl e ↦ absurd (subst (λ (found : Option Definition). Stands to (option_map_or used_by found [])) (ap (finite.get (finite.remove definitions name)) (sym e) ∙ get-remove_here definitions name) s)
    | inr n ↦ subst (λ (found : Option Definition). Stands to (option_map_or used_by found [])) (get-remove_other definitions name from n) s
  ]

  module _ (definition : Definition) where
    abbrev more : MapOf Definition
    more = finite.insert definitions name definition

    -- a name leads to what its new definition uses
    led_here : led_by used_by more name ≡ used_by definition
    led_here = ap (λ (found : Option Definition). option_map_or used_by found []) (get-insert_here definitions name definition)

    -- and each other one to what it led to
    led_other : (other : List ℕ) → (name ≡ other → ⊥) → led_by used_by more other ≡ led_by used_by definitions other
    led_other other n = ap (λ (found : Option Definition). option_map_or used_by found []) (get-insert_other definitions name definition other n)

    -- so the graph gains at the name what its new definition uses, and nothing else
    gained : GainsAt (led_by used_by definitions) (led_by used_by more) name (used_by definition)
    gained = record {
      others = λ other. elim (same_name name other) [ inl e ↦ inl e | inr n ↦ inr (led_other other n) ];
      there = λ to s. subst (Stands to) (sym led_here) s;
      only = λ to s. inl (subst (Stands to) led_here s);
    }

    -- the first name that the new definition closes a circle with is the first on one then
    pub closed_first : IsAcyclic (led_by used_by definitions) → (first : Option (List ℕ)) → IsFirstClosed (λ name. name) (led_by used_by definitions) (used_by definition) name first → first ≡ first_constant more
    closed_first acyclic =
        closed_told (pointwise nat_eq) bytes_decides (λ name. name) (λ a b e. e) (led_by used_by definitions) (led_by used_by more) name (used_by definition) acyclic gained more (led_named used_by more)

-- where none is told, no constant leads back to itself
pub free_acyclic : (definitions : MapOf Definition) → first_constant definitions ≡ None → IsAcyclic (led_by used_by definitions)
free_acyclic definitions free = told_acyclic (pointwise nat_eq) bytes_decides (λ name. name) (led_by used_by definitions) (finite.keys definitions) (led_named used_by definitions) (sym free)

-- nor does one where a definition is taken out
pub taken_acyclic : (definitions : MapOf Definition) → IsAcyclic (led_by used_by definitions) → (name : List ℕ) → IsAcyclic (led_by used_by (finite.remove definitions name))
taken_acyclic definitions acyclic name = fewer_edges_acyclic (led_by used_by (finite.remove definitions name)) (led_by used_by definitions) (taken definitions name) acyclic

-- ---- what the table keeps
pub kept_none : IsKept (record { by_name = finite.empty; users = finite.empty })
kept_none = record {
  acyclic = λ name on.
      let edge = circle_leaves (led_by used_by finite.empty) name on in
      subst (λ (found : Option Definition). Stands edge.0 (option_map_or used_by found [])) (finite.get-empty (slice_cmp nat_cmp) name) edge.1;
  users = index.turns_all_none used_by finite.empty;
}

module _ (inside : Inside) (kept : IsKept inside) where
  -- the same of the definitions as contracts see them
  pub kept_seen : (definitions : MapOf Definition) → inside.by_name ≡ definitions → IsKept (record inside { by_name = definitions })
  kept_seen definitions seen = subst (λ (by_name : MapOf Definition). IsKept (record inside { by_name = by_name })) seen kept

  -- an index that keeps more
  pub kept_more : (users : MapOf NamesOf) → Keeps inside.users users → IsKept (record inside { users = users })
  kept_more users keeps = record { acyclic = kept.acyclic; users = index.turns_all_more used_by inside.by_name inside.users users keeps kept.users }

  module _ (name : List ℕ) where
    pub kept_taken : IsKept (record inside { by_name = finite.remove inside.by_name name })
    kept_taken = record {
      acyclic = fewer_edges_acyclic (led_by used_by (finite.remove inside.by_name name)) (led_by used_by inside.by_name) (taken inside.by_name name) kept.acyclic;
      users = index.turns_all_taken used_by inside.by_name inside.users name kept.users;
    }

    pub kept_put : (definition : Definition) → first_constant (finite.insert inside.by_name name definition) ≡ None → IsKept (record { by_name = finite.insert inside.by_name name definition; users = with_all inside.users (used_by definition) name })
    kept_put definition free = record {
      acyclic = free_acyclic (finite.insert inside.by_name name definition) free;
      users = index.turns_all_added used_by inside.by_name inside.users name kept.users definition;
    }
