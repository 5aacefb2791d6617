-- Sets of names as marks, and maps of names as graphs.
use Rattle.std.proofs.Common.{◌≡◌, inl, inr, refl, sym, ap, subst, ◌∙◌, ℕ, true, false, List, [], ◌∷◌, Some, None}
use Rattle.std.specs.Prelude.{Option, Result, Ok, Err, OnOk, is_some}
use Rattle.std.specs.FinMap as map
use Rattle.std.specs.List.{list_any}
use Rattle.std.specs.Option.{option_map_or}
use Rattle.std.specs.Ordering.{nat_cmp, eq_by_cmp}
use Rattle.std.specs.Cmp.Lexicographic.{slice_cmp}
use Rattle.std.proofs.lemmas.Bool.{false≢true, or_cases}
use Rattle.std.proofs.lemmas.Map.Lookups.{exact_bytes}
use Rattle.std.proofs.lemmas.Map.Views.{tells_apart}
use Rattle.mu_tree.specs.Maps.{MapOf, NamesOf}
use Rattle.mu_tree.proofs.MapLemmas.{same_name, get-insert_here, get-insert_other, contains_key-insert}
use Rattle.mu_graph.specs.Derivations.{Stands}
use Rattle.mu_graph.specs.Names.{led_by}
use Rattle.mu_graph.specs.KeySets.{Adds}

-- an empty set marks no name
pub empty_is_blank : (name : List ℕ) → let none : NamesOf = map.empty in map.contains_key none name ≡ false
empty_is_blank name = ap is_some (map.get-empty (slice_cmp nat_cmp) name)

-- a set with one more name marks this name too
pub insert_adds : (set : NamesOf) (name : List ℕ) → Adds (map.contains_key set) (map.contains_key (map.insert set name tt)) name
insert_adds set name = (
  λ q is. elim (same_name name q) [ inl e ↦ inl e | inr n ↦ inr (sym (ap is_some (get-insert_other set name tt q n)) ∙ is) ],
  λ q c. elim c [
    | inl e ↦ subst (λ k. map.contains_key (map.insert set name tt) k ≡ true) e (ap is_some (get-insert_here set name tt))
    | inr is ↦ contains_key-insert set name tt q is
  ],
)

pub adds_on_ok : {E T : Type 0} (before after : NamesOf) (name : List ℕ) (result : Result T E) → OnOk result (after ≡ map.insert before name tt) → OnOk result (Adds (map.contains_key before) (map.contains_key after) name)
adds_on_ok before after name (Ok x) e = subst (λ (set : NamesOf). Adds (map.contains_key before) (map.contains_key set) name) (sym e) (insert_adds before name)
adds_on_ok before after name (Err x) e = tt

any_stands : (name : List ℕ) (names : List (List ℕ)) → list_any (eq_by_cmp (slice_cmp nat_cmp) name) names ≡ true → Stands name names
any_stands name [] h = absurd (false≢true h)
any_stands name (other ∷ names) h = elim (or_cases _ _ h) [
  | inl e ↦ inl (sym (tells_apart exact_bytes name other e))
  | inr r ↦ inr (any_stands name names r)
]

-- a name that a map has stands among its names
pub key_stands : {V : Type 0} (table : MapOf V) (name : List ℕ) → map.contains_key table name ≡ true → Stands name (map.keys table)
key_stands table name h = any_stands name (map.keys table) (sym (map.contains_key-keys table name) ∙ h)

-- a name that leads to some key is one that the map has
pub linking_stands : {V K : Type 0} (links : V → List K) (table : MapOf V) (from : List ℕ) (to : K) → Stands to (led_by links table from) → Stands from (map.keys table)
linking_stands {V} links table from to s = key_stands table from (found (map.get table from) s)
  where
    found : (o : Option V) → Stands to (option_map_or links o []) → is_some o ≡ true
    found None t = absurd t
    found (Some v) t = refl
