-- What rules lead to after an edit of a proof.
use Rattle.std.proofs.Common.{◌≡◌, inl, inr, refl, sym, ap, subst, ◌∙◌, cond, ℕ, true, false, List, [], ◌∷◌, ◌++◌, Option, Some, None}
use Rattle.std.specs.Prelude.{◌⊎◌, if◌then◌else◌, is_some, nat_eq}
use Rattle.std.specs.List.{flat_map}
use Rattle.std.specs.Option.{option_map_or}
use Rattle.std.specs.Ordering.{nat_cmp, eq_by_cmp, is_eq}
use Rattle.std.specs.declared.cmp.Ordering.{Ordering}
use Rattle.std.specs.declared.cmp.Ordering.TheVariants.{Less, Equal, Greater}
use Rattle.std.specs.Cmp.Lexicographic.{slice_cmp, nat_list_cmp_total}
use Rattle.std.specs.FinMap as finite
use Rattle.std.specs.FinMap.Entries.{by_order, put, find}
use Rattle.std.proofs.lemmas.Bool.{false≢true}
use Rattle.mu_tree.specs.Maps.{MapOf, NamesOf}
use Rattle.mu_tree.specs.declared.why.Given.{Given}
use Rattle.mu_tree.specs.declared.why.Ref.{Ref}
use Rattle.mu_tree.specs.declared.why.Why.{Why}
use Rattle.mu_tree.specs.declared.why.Why.TheVariants as why
use Rattle.mu_tree.proofs.MapLemmas.{same_name, get-insert_here, get-insert_other, contains_key-insert, get-remove_here, get-remove_other, insert_got, insert_removed, remove_absent}
use Rattle.mu_tree.proofs.TableLemmas.{no_entries}
use Rattle.mu_graph.specs.Derivations.{Stands}
use Rattle.mu_graph.specs.Circles.{DiffersAt, GainsAt}
use Rattle.mu_graph.proofs.DerivationLemmas.{stands_front, stands_back, stands_either}
use Rattle.mu_proof.specs.Edits.{altered}
use Rattle.mu_proof.specs.declared.alteration.Alteration.TheVariants as alteration
use Rattle.mu_proof.specs.declared.items.Item.{Item}
use Rattle.mu_proof.specs.Citations.{cites, cited_by, morphism_cited}
use Rattle.mu_proof.specs.declared.citations.Cited.{Cited}
use Rattle.mu_proof.specs.declared.citations.Cited.TheVariants.{Rule, Morphism}
use Rattle.mu_flat.specs.CiterTables.{CitersOf, citers_of, with_citer, HasAllCiters, AddsCiter}
use Rattle.mu_flat.specs.ProofTables.{ProofsOf, proofs_of, proof_at, with_proof, without_proof, with_change_in, with_change_at, has_line_at, with_reason_at, cited_in, leads}
use Rattle.mu_flat.proofs.EditCites.{reason_cites, reason_there}
use Rattle.mu_flat.proofs.ProofTables.{proof_at-with_proof}

-- ---- maps of lists
module _ {V K : Type 0} (links : V → List K) where
  -- where an entry is put, only what its value has comes in
  pub put_links : (name : List ℕ) (value : V) (entries : List (List ℕ × V)) (to : K) → Stands to (flat_map (λ entry. links entry.1) (put (slice_cmp nat_cmp) name value entries))
      → Stands to (links value) ⊎ Stands to (flat_map (λ entry. links entry.1) entries)
  put_links name value [] to s = elim (stands_either to (links value) [] s) [ inl t ↦ inl t | inr t ↦ absurd t ]
  put_links name value (first ∷ entries) to s =
      let rest : List K = flat_map (λ entry. links entry.1) entries in
      elim (slice_cmp nat_cmp name first.0) as (λ o. Stands to (flat_map (λ entry. links entry.1) (by_order o ((name, value) ∷ first ∷ entries) ((first.0, value) ∷ entries) (first ∷ put (slice_cmp nat_cmp) name value entries)))
      → Stands to (links value) ⊎ Stands to (links first.1 ++ rest)) [
        | Less ↦ λ t. stands_either to (links value) (links first.1 ++ rest) t
        | Equal ↦ λ t. elim (stands_either to (links value) rest t) [ inl u ↦ inl u | inr u ↦ inr (stands_back to (links first.1) rest u) ]
        | Greater ↦ λ t. elim (stands_either to (links first.1) (flat_map (λ entry. links entry.1) (put (slice_cmp nat_cmp) name value entries)) t) [
          | inl u ↦ inr (stands_front to (links first.1) rest u)
          | inr u ↦ elim (put_links name value entries to u) [ inl v ↦ inl v | inr v ↦ inr (stands_back to (links first.1) rest v) ]
        ]
      ] s

  -- what is found at a name is there
  pub found_links : (name : List ℕ) (value : V) (entries : List (List ℕ × V)) (to : K) → find (slice_cmp nat_cmp) name entries ≡ Some value → Stands to (links value) → Stands to (flat_map (λ entry. links entry.1) entries)
  found_links name value [] to is s = let no : None ≡ Some value = is in absurd (cc)
  found_links name value (first ∷ entries) to is s =
      let rest : List K = flat_map (λ entry. links entry.1) entries in
      elim (eq_by_cmp (slice_cmp nat_cmp) name first.0) as (λ b. cond b (Some first.1) (find (slice_cmp nat_cmp) name entries) ≡ Some value → Stands to (links first.1 ++ rest)) [
        | true ↦ λ e. let same : first.1 ≡ value = cc in stands_front to (links first.1) rest (subst (λ v. Stands to (links v)) (sym same) s)
        | false ↦ λ e. stands_back to (links first.1) rest (found_links name value entries to e s)
      ] is

none_link : {V K : Type 0} (links : V → List K) (to : K) → Stands to (flat_map (λ entry. links entry.1) (finite.entries (finite.empty {X = V} {R = slice_cmp nat_cmp}))) → ⊥
none_link {V} links to s = subst (λ entries. Stands to (flat_map (λ entry. links entry.1) entries)) no_entries s

-- ---- an edit of one proof
module _ (proofs : ProofsOf) (rule : List ℕ) where
  -- what the proofs of a rule cite is what it leads to
  proofs_lead : (to : Cited) → Stands to (cited_in (proofs_of proofs rule)) → Stands to (leads proofs (Rule rule))
  proofs_lead to s = go (finite.get proofs rule) s
    where
      go : (found : Option (MapOf (List Item))) → Stands to (cited_in (option_map_or (λ there. there) found finite.empty)) → Stands to (option_map_or cited_in found [])
      go None t = absurd (none_link cites to t)
      go (Some there) t = t

  module _ (proof : List ℕ) where
    -- and so is what one of them cites
    pub cited_leads : (items : List Item) → proof_at proofs rule proof ≡ Some items → (to : Cited) → Stands to (cites items) → Stands to (leads proofs (Rule rule))
    cited_leads items is to s = proofs_lead to (found_links cites proof items (finite.entries (proofs_of proofs rule)) to (sym (finite.get-entries (proofs_of proofs rule) proof) ∙ is) s)

    -- other items as a proof change only what its rule leads to
    pub edit_differs : (items : List Item) → DiffersAt (leads proofs) (leads (with_proof proofs rule proof items)) (Rule rule)
    edit_differs items (Rule name) = elim (same_name rule name) [
      | inl e ↦ inl (ap Rule e)
      | inr n ↦ inr (ap (λ found. option_map_or cited_in found []) (get-insert_other proofs rule (finite.insert (proofs_of proofs rule) proof items) name n))
    ]
    edit_differs items (Morphism morphism) = inr refl

    -- where the new items cite only what is extra and what the rule led to, only what is extra is led to anew
    pub edit_leads : (items : List Item) (extra : List Cited) → ((to : Cited) → Stands to (cites items) → Stands to extra ⊎ Stands to (leads proofs (Rule rule)))
        → (from to : Cited) → Stands to (leads (with_proof proofs rule proof items) from) → Stands to extra ⊎ Stands to (leads proofs from)
    edit_leads items extra cited (Morphism morphism) to s = absurd s
    edit_leads items extra cited (Rule name) to s =
        let there : MapOf (List Item) = finite.insert (proofs_of proofs rule) proof items in
        elim (same_name rule name) [
          | inl e ↦
              let all : Stands to (cited_in there) = subst (λ found. Stands to (option_map_or cited_in found [])) (ap (finite.get (with_proof proofs rule proof items)) (sym e) ∙ get-insert_here proofs rule there) s in
              let entries : Stands to (flat_map (λ entry. cites entry.1) (put (slice_cmp nat_cmp) proof items (finite.entries (proofs_of proofs rule)))) =
              subst (λ es. Stands to (flat_map (λ entry. cites entry.1) es)) (finite.entries-insert nat_list_cmp_total (proofs_of proofs rule) proof items) all in
              elim (put_links cites proof items (finite.entries (proofs_of proofs rule)) to entries) [
                | inl t ↦ elim (cited to t) [ inl u ↦ inl u | inr u ↦ inr (subst (λ r. Stands to (leads proofs (Rule r))) e u) ]
                | inr t ↦ inr (subst (λ r. Stands to (leads proofs (Rule r))) e (proofs_lead to t))
              ]
          | inr n ↦ inr (subst (λ found. Stands to (option_map_or cited_in found [])) (get-insert_other proofs rule there name n) s)
        ]

-- ---- an empty proof, an edit that brings nothing in, and a proof that is taken out
-- an empty proof cites nothing
pub empty_leads : (proofs : ProofsOf) (rule proof : List ℕ) (from to : Cited) → Stands to (leads (with_proof proofs rule proof []) from) → Stands to (leads proofs from)
empty_leads proofs rule proof from to s = elim (edit_leads proofs rule proof [] [] (λ other t. inl t) from to s) [ inl t ↦ absurd t | inr t ↦ t ]

-- nor does a change of a proof that brings nothing in
module _ (proofs : ProofsOf) (rule proof : List ℕ) (change : List Item → List Item) (fewer : (items : List Item) (to : Cited) → Stands to (cites (change items)) → Stands to (cites items)) where
  changed_leads : (items : List Item) → proof_at proofs rule proof ≡ Some items → (from to : Cited) → Stands to (leads (with_proof proofs rule proof (change items)) from) → Stands to (leads proofs from)
  changed_leads items is from to s =
      elim (edit_leads proofs rule proof (change items) [] (λ other t. inr (cited_leads proofs rule proof items is other (fewer items other t))) from to s) [ inl t ↦ absurd t | inr t ↦ t ]

  pub change_leads : (from to : Cited) → Stands to (leads (with_change_at proofs rule proof change) from) → Stands to (leads proofs from)
  change_leads = go (proof_at proofs rule proof) refl
    where
      go : (found : Option (List Item)) → proof_at proofs rule proof ≡ found → (from to : Cited) → Stands to (leads (with_change_in proofs rule proof change found) from) → Stands to (leads proofs from)
      go None is from to s = s
      go (Some items) is from to s = changed_leads items is from to s

-- what was there is there with one more entry, at a name that was not there
module _ {V K : Type 0} (links : V → List K) where
  put_new_links : (name : List ℕ) (value : V) (entries : List (List ℕ × V)) (to : K) → find (slice_cmp nat_cmp) name entries ≡ None → Stands to (flat_map (λ entry. links entry.1) entries)
      → Stands to (flat_map (λ entry. links entry.1) (put (slice_cmp nat_cmp) name value entries))
  put_new_links name value [] to none s = absurd s
  put_new_links name value (first ∷ entries) to none s = go (slice_cmp nat_cmp name first.0) (put_new_links name value entries to) none
    where
      rest : List K
      rest = flat_map (λ entry. links entry.1) entries

      go : (o : Ordering) → (find (slice_cmp nat_cmp) name entries ≡ None → Stands to rest → Stands to (flat_map (λ entry. links entry.1) (put (slice_cmp nat_cmp) name value entries)))
          → cond (is_eq o) (Some first.1) (find (slice_cmp nat_cmp) name entries) ≡ None
          → Stands to (flat_map (λ entry. links entry.1) (by_order o ((name, value) ∷ first ∷ entries) ((first.0, value) ∷ entries) (first ∷ put (slice_cmp nat_cmp) name value entries)))
      go Less later is = stands_back to (links value) (links first.1 ++ rest) s
      go Equal later is = absurd (cc)
      go Greater later is = elim (stands_either to (links first.1) rest s) [
        | inl t ↦ stands_front to (links first.1) (flat_map (λ entry. links entry.1) (put (slice_cmp nat_cmp) name value entries)) t
        | inr t ↦ stands_back to (links first.1) (flat_map (λ entry. links entry.1) (put (slice_cmp nat_cmp) name value entries)) (later is t)
      ]

  -- without an entry there is no more
  pub removed_links : (table : MapOf V) (name : List ℕ) (to : K) → Stands to (flat_map (λ entry. links entry.1) (finite.entries (finite.remove table name))) → Stands to (flat_map (λ entry. links entry.1) (finite.entries table))
  removed_links table name to s = go (finite.get table name) refl
    where
      go : (found : Option V) → finite.get table name ≡ found → Stands to (flat_map (λ entry. links entry.1) (finite.entries table))
      go None is = subst (λ (t : MapOf V). Stands to (flat_map (λ entry. links entry.1) (finite.entries t))) (remove_absent table name is) s
      go (Some value) is =
          subst (λ es. Stands to (flat_map (λ entry. links entry.1) es))
          (sym (finite.entries-insert nat_list_cmp_total (finite.remove table name) name value) ∙ ap finite.entries (insert_removed table name value ∙ insert_got table name value is))
          (put_new_links name value (finite.entries (finite.remove table name)) to (sym (finite.get-entries (finite.remove table name) name) ∙ get-remove_here table name) s)

-- without one of its proofs a rule leads to no more
module _ (proofs : ProofsOf) (rule proof : List ℕ) where
  abbrev left : MapOf (List Item)
  left = finite.remove (proofs_of proofs rule) proof

  pub removed_leads : (from to : Cited) → Stands to (leads (without_proof proofs rule proof) from) → Stands to (leads proofs from)
  removed_leads (Morphism morphism) to s = absurd s
  removed_leads (Rule name) to s = elim (nat_eq (finite.len left) 0) as (λ b. Stands to (leads (if b then finite.remove proofs rule else finite.insert proofs rule left) (Rule name)) → Stands to (leads proofs (Rule name))) [
    | true ↦ λ t. elim (same_name rule name) [
      | inl e ↦ absurd (subst (λ found. Stands to (option_map_or cited_in found [])) (ap (finite.get (finite.remove proofs rule)) (sym e) ∙ get-remove_here proofs rule) t)
      | inr n ↦ subst (λ found. Stands to (option_map_or cited_in found [])) (get-remove_other proofs rule name n) t
    ]
    | false ↦ λ t. elim (same_name rule name) [
      | inl e ↦ subst (λ r. Stands to (leads proofs (Rule r))) e
          (proofs_lead proofs rule to (removed_links cites (proofs_of proofs rule) proof to
          (subst (λ found. Stands to (option_map_or cited_in found [])) (ap (finite.get (finite.insert proofs rule left)) (sym e) ∙ get-insert_here proofs rule left) t)))
      | inr n ↦ subst (λ found. Stands to (option_map_or cited_in found [])) (get-insert_other proofs rule left name n) t
    ]
  ] s

-- ---- another reason of a line
module _ (proofs : ProofsOf) (rule proof label : List ℕ) (why : Option Why) where
  pub reason_differs : DiffersAt (leads proofs) (leads (with_reason_at proofs rule proof label why)) (Rule rule)
  reason_differs = go (proof_at proofs rule proof)
    where
      go : (found : Option (List Item)) → DiffersAt (leads proofs) (leads (with_change_in proofs rule proof (λ items. altered items label (alteration.Why why)) found)) (Rule rule)
      go None from = inr refl
      go (Some items) from = edit_differs proofs rule proof (altered items label (alteration.Why why)) from

  -- only what the reason cites is led to anew
  pub reason_leads : (from to : Cited) → Stands to (leads (with_reason_at proofs rule proof label why) from) → Stands to (cited_by why) ⊎ Stands to (leads proofs from)
  reason_leads from to s = go (proof_at proofs rule proof) refl s
    where
      go : (found : Option (List Item)) → proof_at proofs rule proof ≡ found → Stands to (leads (with_change_in proofs rule proof (λ items. altered items label (alteration.Why why)) found) from) → Stands to (cited_by why) ⊎ Stands to (leads proofs from)
      go None is t = inr t
      go (Some items) is t = edit_leads proofs rule proof (altered items label (alteration.Why why)) (cited_by why)
          (λ other u. elim (reason_cites label why items other u) [ inl v ↦ inl v | inr v ↦ inr (cited_leads proofs rule proof items is other v) ]) from to t

  -- and all of it is led to, where there is such a line
  pub reason_gains : has_line_at label (proof_at proofs rule proof) ≡ true → GainsAt (leads proofs) (leads (with_reason_at proofs rule proof label why)) (Rule rule) (cited_by why)
  reason_gains is = record {
    others = reason_differs;
    there = λ m s. go (proof_at proofs rule proof) is m s;
    only = λ m s. reason_leads (Rule rule) m s;
  }
    where
      go : (found : Option (List Item)) → has_line_at label found ≡ true → (m : Cited) → Stands m (cited_by why) → Stands m (leads (with_change_in proofs rule proof (λ items. altered items label (alteration.Why why)) found) (Rule rule))
      go None is m s = absurd (false≢true is)
      go (Some items) is m s =
          let edited : List Item = altered items label (alteration.Why why) in
          cited_leads (with_proof proofs rule proof edited) rule proof edited (proof_at-with_proof proofs rule proof edited) m (reason_there label why items is m s)

-- ---- the rules that cite a rule
one_known : (a b : List ℕ) → Rule a ≡ Rule b → a ≡ b
one_known a b e = cc

-- a table that gains what a rule gains has all that cite a rule
pub all_citers_still : (before after : ProofsOf) (rule : List ℕ) (why : Option Why) (old new : CitersOf) → GainsAt (leads before) (leads after) (Rule rule) (cited_by why) → AddsCiter old new rule why
    → HasAllCiters old before → HasAllCiters new after
all_citers_still before after rule why old new gains adds all to from s = elim (gains.others (Rule from)) [
  | inr same ↦ adds.0 to from (all to from (subst (Stands (Rule to)) same s))
  | inl e ↦ elim (gains.only (Rule to) (subst (λ n. Stands (Rule to) (leads after n)) (sym e) s)) [
    | inl new_one ↦ subst (λ (citer : List ℕ). finite.contains_key (citers_of new to) citer ≡ true) (one_known rule from e) (adds.1 to new_one)
    | inr old_one ↦ adds.0 to from (all to from (subst (λ n. Stands (Rule to) (leads before n)) e old_one))
  ]
]

no_rule_of : (via : Option (List ℕ)) (name : List ℕ) → Stands (Rule name) (morphism_cited via) → ⊥
no_rule_of None name s = s
no_rule_of (Some morphism) name (inl e) = let no : Morphism morphism ≡ Rule name = e in cc
no_rule_of (Some morphism) name (inr s) = s

module _ (citers : CitersOf) (rule citer : List ℕ) where
  citers_here : citers_of (with_citer citers rule citer) rule ≡ finite.insert (citers_of citers rule) citer tt
  citers_here = ap (λ found. option_map_or (λ (names : NamesOf). names) found finite.empty) (get-insert_here citers rule (finite.insert (citers_of citers rule) citer tt))

  stays : (to from : List ℕ) → finite.contains_key (citers_of citers to) from ≡ true → finite.contains_key (citers_of (with_citer citers rule citer) to) from ≡ true
  stays to from is = elim (same_name rule to) [
    | inl e ↦
        subst (λ (name : List ℕ). finite.contains_key (citers_of (with_citer citers rule citer) name) from ≡ true) e
        (subst (λ (names : NamesOf). finite.contains_key names from ≡ true) (sym citers_here)
        (contains_key-insert (citers_of citers rule) citer tt from (subst (λ (name : List ℕ). finite.contains_key (citers_of citers name) from ≡ true) (sym e) is)))
    | inr n ↦
        subst (λ (names : NamesOf). finite.contains_key names from ≡ true)
        (sym (ap (λ found. option_map_or (λ (names : NamesOf). names) found finite.empty) (get-insert_other citers rule (finite.insert (citers_of citers rule) citer tt) to n))) is
  ]

  -- a table with one more citer has the one of the rule that a reason cites
  pub citer_added : (via : Option (List ℕ)) (refs : List Ref) (given : List Given) → AddsCiter citers (with_citer citers rule citer) citer (Some (why.Rule rule via refs given))
  citer_added via refs given = (
    stays,
    λ name s. elim s [
      | inl e ↦
          subst (λ (to : List ℕ). finite.contains_key (citers_of (with_citer citers rule citer) to) citer ≡ true) (one_known rule name e)
          (subst (λ (names : NamesOf). finite.contains_key names citer ≡ true) (sym citers_here) (ap is_some (get-insert_here (citers_of citers rule) citer tt)))
      | inr t ↦ absurd (no_rule_of via name t)
    ],
  )
