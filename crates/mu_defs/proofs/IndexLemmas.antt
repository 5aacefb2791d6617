-- Indexes: which names are kept after a change, and what still has all that matter.
use Rattle.std.proofs.Common.{◌≡◌, inl, inr, refl, sym, ap, subst, ◌∙◌, ℕ, true, List, [], ◌∷◌, map, Option, Some, None}
use Rattle.std.specs.Prelude.{is_some, nat_eq}
use Rattle.std.specs.Option.{option_map_or}
use Rattle.std.specs.Ordering.{nat_cmp}
use Rattle.std.specs.Cmp.Lexicographic.{slice_cmp}
use Rattle.std.specs.FinMap as finite
use Rattle.std.proofs.lemmas.Bool.{false≢true, cases_Bool, cond-true, cond-false, eqb-true}
use Rattle.mu_tree.specs.Maps.{MapOf, NamesOf}
use Rattle.mu_tree.proofs.MapLemmas.{same_name, get-insert_here, get-insert_other, get-remove_here, get-remove_other, contains_key-insert, inserted, left_by, remove_absent, remove_inserted}
use Rattle.mu_tree.proofs.TableLemmas.{no_entries}
use Rattle.mu_graph.specs.Circles.{IsTurned}
use Rattle.mu_graph.specs.Derivations.{Stands}
use Rattle.mu_graph.specs.Names.{members, led_by}
use Rattle.mu_graph.proofs.NameLemmas.{key_stands}
use Rattle.mu_defs.specs.Indexes.{members_of, with_member, with_all, with_members, without_member, Keeps, HasAll, TurnsAll}

-- ---- what is kept after a change
module _ (index : MapOf NamesOf) (name : List ℕ) where
  pub members-insert_here : (names : NamesOf) → members_of (finite.insert index name names) name ≡ names
  members-insert_here names = ap (λ (found : Option NamesOf). option_map_or (λ (there : NamesOf). there) found finite.empty) (get-insert_here index name names)

  members-insert_other : (names : NamesOf) (q : List ℕ) → (name ≡ q → ⊥) → members_of (finite.insert index name names) q ≡ members_of index q
  members-insert_other names q n = ap (λ (found : Option NamesOf). option_map_or (λ (there : NamesOf). there) found finite.empty) (get-insert_other index name names q n)

  -- a name with members stays
  with_some : (names : NamesOf) → (names ≡ finite.empty → ⊥) → with_members index name names ≡ finite.insert index name names
  with_some names some = cond-false (nat_eq (finite.len names) 0) (finite.remove index name) (finite.insert index name names) (elim (cases_Bool (nat_eq (finite.len names) 0)) [
    | inl none ↦ absurd (some (finite.empty_of_len names (eqb-true (finite.len names) 0 none)))
    | inr is ↦ is
  ])

  -- a name without members goes
  with_none : (names : NamesOf) → names ≡ finite.empty → with_members index name names ≡ finite.remove index name
  with_none names none = cond-true (nat_eq (finite.len names) 0) (finite.remove index name) (finite.insert index name names) (ap (λ count. nat_eq count 0) (ap finite.len none ∙ finite.len-empty (slice_cmp nat_cmp) (Unit {0})))

  -- these names are kept under the name
  pub members-with_members_here : (names : NamesOf) → members_of (with_members index name names) name ≡ names
  members-with_members_here names = elim (cases_Bool (nat_eq (finite.len names) 0)) [
    | inl none ↦
        ap (λ (all : MapOf NamesOf). members_of all name) (cond-true (nat_eq (finite.len names) 0) (finite.remove index name) (finite.insert index name names) none)
        ∙ ap (λ (found : Option NamesOf). option_map_or (λ (there : NamesOf). there) found finite.empty) (get-remove_here index name)
        ∙ sym (finite.empty_of_len names (eqb-true (finite.len names) 0 none))
    | inr some ↦ ap (λ (all : MapOf NamesOf). members_of all name) (cond-false (nat_eq (finite.len names) 0) (finite.remove index name) (finite.insert index name names) some) ∙ members-insert_here names
  ]

  -- and under another name those that were
  pub members-with_members_other : (names : NamesOf) (q : List ℕ) → (name ≡ q → ⊥) → members_of (with_members index name names) q ≡ members_of index q
  members-with_members_other names q n = elim (cases_Bool (nat_eq (finite.len names) 0)) [
    | inl none ↦
        ap (λ (all : MapOf NamesOf). members_of all q) (cond-true (nat_eq (finite.len names) 0) (finite.remove index name) (finite.insert index name names) none)
        ∙ ap (λ (found : Option NamesOf). option_map_or (λ (there : NamesOf). there) found finite.empty) (get-remove_other index name q n)
    | inr some ↦ ap (λ (all : MapOf NamesOf). members_of all q) (cond-false (nat_eq (finite.len names) 0) (finite.remove index name) (finite.insert index name names) some) ∙ members-insert_other names q n
  ]

  -- to take a member out where none is kept changes nothing
  pub without_absent : (member : List ℕ) → finite.get index name ≡ None → without_member index name member ≡ index
  without_absent member none =
      let nothing : NamesOf = finite.empty in
      ap (λ (found : Option NamesOf). with_members index name (finite.remove (option_map_or (λ (there : NamesOf). there) found finite.empty) member)) none
      ∙ ap (with_members index name) (remove_absent nothing member (finite.get-empty (slice_cmp nat_cmp) member))
      ∙ with_none nothing refl
      ∙ remove_absent index name none

  module _ (member : List ℕ) where
    -- a member that is added is kept
    pub kept_added : finite.contains_key (members_of (with_member index name member) name) member ≡ true
    kept_added = ap (λ (names : NamesOf). finite.contains_key names member) (members-insert_here (finite.insert (members_of index name) member tt)) ∙ ap is_some (get-insert_here (members_of index name) member tt)

    -- and so are those that were
    pub keeps_added : Keeps index (with_member index name member)
    keeps_added q other is = elim (same_name name q) [
      | inl e ↦
          subst (λ (at : List ℕ). finite.contains_key (members_of (with_member index name member) at) other ≡ true) e
          (ap (λ (names : NamesOf). finite.contains_key names other) (members-insert_here (finite.insert (members_of index name) member tt))
          ∙ contains_key-insert (members_of index name) member tt other (ap (λ (at : List ℕ). finite.contains_key (members_of index at) other) e ∙ is))
      | inr n ↦ ap (λ (names : NamesOf). finite.contains_key names other) (members-insert_other (finite.insert (members_of index name) member tt) q n) ∙ is
    ]

    -- what is not the member under the name is kept where that is taken out
    pub kept_without : (q other : List ℕ) → (name ≡ q → member ≡ other → ⊥) → finite.contains_key (members_of index q) other ≡ true → finite.contains_key (members_of (without_member index name member) q) other ≡ true
    kept_without q other apart is = elim (same_name name q) [
      | inl e ↦
          subst (λ (at : List ℕ). finite.contains_key (members_of (without_member index name member) at) other ≡ true) e
          (ap (λ (names : NamesOf). finite.contains_key names other) (members-with_members_here (finite.remove (members_of index name) member))
          ∙ ap is_some (get-remove_other (members_of index name) member other (apart e))
          ∙ ap (λ (at : List ℕ). finite.contains_key (members_of index at) other) e ∙ is)
      | inr n ↦ ap (λ (names : NamesOf). finite.contains_key names other) (members-with_members_other (finite.remove (members_of index name) member) q n) ∙ is
    ]

-- a member is taken from those that are found under a name, and what is left stands there
module _ (index after : MapOf NamesOf) (name member : List ℕ) (found left : NamesOf) (there : Some found ≡ finite.get index name) (taken : left ≡ finite.remove found member) (written : after ≡ finite.insert index name left) where
  is_left : with_members index name left ≡ without_member index name member
  is_left = ap (with_members index name) (taken ∙ ap (λ (names : Option NamesOf). finite.remove (option_map_or (λ (here : NamesOf). here) names finite.empty) member) there)

  -- where some are left, nothing is to be done
  pub some_left : (left ≡ finite.empty → ⊥) → after ≡ without_member index name member
  some_left some = written ∙ sym (with_some index name left some) ∙ is_left

  -- where none is, the name goes
  pub none_left : left ≡ finite.empty → finite.remove after name ≡ without_member index name member
  none_left none = ap (λ (all : MapOf NamesOf). finite.remove all name) written ∙ remove_inserted index name left ∙ sym (with_none index name left none) ∙ is_left

-- a member that is added under each of some names loses nothing that was kept
pub keeps_all : (index : MapOf NamesOf) (names : List (List ℕ)) (member : List ℕ) → Keeps index (with_all index names member)
keeps_all index [] member q other is = is
keeps_all index (name ∷ names) member q other is = keeps_all (with_member index name member) names member q other (keeps_added index name member q other is)

-- and is kept under each of them
pub kept_all : (index : MapOf NamesOf) (names : List (List ℕ)) (member name : List ℕ) → Stands name names → finite.contains_key (members_of (with_all index names member) name) member ≡ true
kept_all index [] member name s = absurd s
kept_all index (first ∷ names) member name (inl e) =
    keeps_all (with_member index first member) names member name member (ap (λ (at : List ℕ). finite.contains_key (members_of (with_member index first member) at) member) (sym e) ∙ kept_added index first member)
kept_all index (first ∷ names) member name (inr s) = kept_all (with_member index first member) names member name s

-- what a name leads to are the names that are kept under it
pub led-members : (index : MapOf NamesOf) (name : List ℕ) → led_by members index name ≡ members (members_of index name)
led-members index name = of (finite.get index name)
  where
    of : (found : Option NamesOf) → option_map_or members found [] ≡ members (option_map_or (λ (there : NamesOf). there) found finite.empty)
    of None = ap (map (λ (entry : List ℕ × Unit {0}). entry.0)) (sym no_entries)
    of (Some names) = refl

-- a name that is kept stands there
pub member_stands : (index : MapOf NamesOf) (name member : List ℕ) → finite.contains_key (members_of index name) member ≡ true → Stands member (led_by members index name)
member_stands index name member is = subst (Stands member) (sym (led-members index name)) (key_stands (members_of index name) member is)

-- ---- each name under the owner of its value
module _ {V : Type 0} (owner : V → List ℕ) where
  -- the empty map has nothing to be kept
  pub has_all_none : (index : MapOf NamesOf) → HasAll owner finite.empty index
  has_all_none index name value is = absurd (false≢true (ap is_some (sym (finite.get-empty (slice_cmp nat_cmp) name) ∙ is)))

  module _ (values : MapOf V) where
    -- an index that keeps more has all too
    pub has_all_more : (old new : MapOf NamesOf) → Keeps old new → HasAll owner values old → HasAll owner values new
    has_all_more old new keeps all name value is = keeps (owner value) name (all name value is)

    module _ (index : MapOf NamesOf) (name : List ℕ) (all : HasAll owner values index) where
      -- a name that is kept under the owner of a value can get this value
      pub has_all_put : (value : V) → finite.contains_key (members_of index (owner value)) name ≡ true → HasAll owner (finite.insert values name value) index
      has_all_put value kept = inserted values name value (λ q w. finite.contains_key (members_of index (owner w)) q ≡ true) kept all

      -- a value of the same owner at a name that is there changes nothing
      pub has_all_changed : (old new : V) → finite.get values name ≡ Some old → owner old ≡ owner new → HasAll owner (finite.insert values name new) index
      has_all_changed old new is same = has_all_put new (ap (λ (at : List ℕ). finite.contains_key (members_of index at) name) (sym same) ∙ all name old is)

      -- a name that is taken out of the map may be taken out of the index
      pub has_all_taken : (under : List ℕ) → HasAll owner (finite.remove values name) (without_member index under name)
      has_all_taken under q value is =
          let left = left_by values name q value is in
          kept_without index under name (owner value) q (λ _ e. left.0 e) (all q value left.1)

      -- and so may one whose value has another owner
      pub has_all_moved : (under : List ℕ) → ((value : V) → finite.get values name ≡ Some value → owner value ≡ under → ⊥) → HasAll owner values (without_member index under name)
      has_all_moved under other q value is = kept_without index under name (owner value) q (λ at e. other value (ap (finite.get values) e ∙ is) (sym at)) (all q value is)

    -- a name that is added under the owner of its value can be put into the map
    pub has_all_added : (index : MapOf NamesOf) (name : List ℕ) (value : V) → HasAll owner values index → HasAll owner (finite.insert values name value) (with_member index (owner value) name)
    has_all_added index name value all =
        has_all_put (with_member index (owner value) name) name (has_all_more index (with_member index (owner value) name) (keeps_added index (owner value) name) all) value (kept_added index (owner value) name)

-- ---- edges turned round
module _ {V : Type 0} (links : V → List (List ℕ)) where
  -- the index has each edge turned round
  pub turned : (values : MapOf V) (index : MapOf NamesOf) → TurnsAll links values index → (to : List ℕ) → IsTurned (led_by links values) (led_by members index) to
  turned values index all to from key s = inl (member_stands index key from (all from key s))

  -- the empty map has no edge
  pub turns_all_none : (index : MapOf NamesOf) → TurnsAll links finite.empty index
  turns_all_none index from to s = absurd (subst (λ (found : Option V). Stands to (option_map_or links found [])) (finite.get-empty (slice_cmp nat_cmp) from) s)

  module _ (values : MapOf V) where
    -- an index that keeps more has all edges too
    pub turns_all_more : (old new : MapOf NamesOf) → Keeps old new → TurnsAll links values old → TurnsAll links values new
    turns_all_more old new keeps all from to s = keeps to from (all from to s)

    module _ (index : MapOf NamesOf) (from : List ℕ) (all : TurnsAll links values index) where
      -- a value may be taken out
      pub turns_all_taken : TurnsAll links (finite.remove values from) index
      turns_all_taken q to s = elim (same_name from q) [
        | inl e ↦ absurd (subst (λ (found : Option V). Stands to (option_map_or links found [])) (ap (finite.get (finite.remove values from)) (sym e) ∙ get-remove_here values from) s)
        | inr n ↦ all q to (subst (λ (found : Option V). Stands to (option_map_or links found [])) (get-remove_other values from q n) s)
      ]

      -- a name that is kept under each key that a value links to can get this value
      pub turns_all_put : (value : V) → ((to : List ℕ) → Stands to (links value) → finite.contains_key (members_of index to) from ≡ true) → TurnsAll links (finite.insert values from value) index
      turns_all_put value kept q to s = elim (same_name from q) [
        | inl e ↦
            subst (λ (name : List ℕ). finite.contains_key (members_of index to) name ≡ true) e
            (kept to (subst (λ (found : Option V). Stands to (option_map_or links found [])) (ap (finite.get (finite.insert values from value)) (sym e) ∙ get-insert_here values from value) s))
        | inr n ↦ all q to (subst (λ (found : Option V). Stands to (option_map_or links found [])) (get-insert_other values from value q n) s)
      ]

      -- a name may be taken from those under a key that it does not link to
      pub turns_all_without : (to : List ℕ) → (Stands to (led_by links values from) → ⊥) → TurnsAll links values (without_member index to from)
      turns_all_without to none q other s = kept_without index to from other q (λ at e. none (subst (λ (name : List ℕ). Stands name (led_by links values from)) (sym at) (subst (λ (name : List ℕ). Stands other (led_by links values name)) (sym e) s))) (all q other s)

    -- a name that is added under each key that its new value links to can get that value
    pub turns_all_added : (index : MapOf NamesOf) (from : List ℕ) → TurnsAll links values index → (value : V) → TurnsAll links (finite.insert values from value) (with_all index (links value) from)
    turns_all_added index from all value =
        turns_all_put (with_all index (links value) from) from (turns_all_more index (with_all index (links value) from) (keeps_all index (links value) from) all) value (λ to s. kept_all index (links value) from to s)
