-- Proofs stay as a store has them by each change of them.
use Rattle.std.proofs.Common.{arith, true-eqb, false-eqb, ◌≡◌, ◌≤◌, ◌<◌, ◌+◌, ◌-◌, inl, inr, refl, sym, ap, subst, ◌∙◌, ℕ, Bool, true, false, cond, List, [], Some, None}
use Rattle.std.specs.Prelude.{◌⊎◌, if◌then◌else◌, is_some, nat_eq, Option}
use Rattle.std.specs.Ordering.{nat_cmp}
use Rattle.std.specs.Cmp.Lexicographic.{slice_cmp, nat_list_cmp_total}
use Rattle.std.specs.Option.{option_map_or}
use Rattle.std.specs.FinMap as finite
use Rattle.std.proofs.lemmas.Bool.{false≢true, cases_Bool}
use Rattle.mu_tree.specs.Maps.{MapOf}
use Rattle.mu_tree.specs.Names.{is_segment}
use Rattle.mu_tree.proofs.MapLemmas.{same_name, get-insert_here, get-insert_other, get-remove_here, get-remove_other, left_by, remove_absent}
use Rattle.mu_graph.specs.Circles.{IsAcyclic}
use Rattle.mu_graph.specs.Derivations.{Stands}
use Rattle.mu_graph.proofs.CircleLemmas.{fewer_edges_acyclic}
use Rattle.mu_graph.proofs.Decided.{circle_leaves}
use Rattle.mu_proof.specs.declared.citations.Cited.{Cited}
use Rattle.mu_proof.specs.declared.citations.Cited.TheVariants.{Rule, Morphism}
use Rattle.mu_tree.proofs.TableLemmas.{no_entries}
use Rattle.mu_proof.specs.declared.items.Item.{Item}
use Rattle.mu_flat.specs.KeptProofs.{AreProofs}
use Rattle.mu_flat.specs.ProofTables.{ProofsOf, proofs_of, proof_at, with_proof, without_proof, with_own, with_change_in, with_change_at, count_in, count_proofs, cited_in, leads}
use Rattle.mu_flat.proofs.Citing.{empty_leads, removed_leads}
use Rattle.mu_flat.proofs.CountLemmas.{count_put, count_there}

abbrev Own : Type 0
Own = MapOf (List Item)

no_some : {A : Type 0} {x : A} → Some x ≡ None → ⊥
no_some e = cc

-- ---- no proofs
pub none_leads : (from to : Cited) → Stands to (leads finite.empty from) → ⊥
none_leads (Rule rule) to s = subst (λ found. Stands to (option_map_or cited_in found [])) (finite.get-empty (slice_cmp nat_cmp) rule) s
none_leads (Morphism morphism) to s = s

pub count_none : count_proofs finite.empty ≡ 0
count_none = ap count_in no_entries

pub are_none : AreProofs finite.empty
are_none = record {
  plain = λ rule proof items is. absurd (no_some (sym is ∙ ap (λ o. finite.get (option_map_or (λ (own : Own). own) o finite.empty) proof) (finite.get-empty (slice_cmp nat_cmp) rule) ∙ finite.get-empty (slice_cmp nat_cmp) proof));
  acyclic = λ n on. let edge = circle_leaves (leads finite.empty) n on in none_leads n edge.0 edge.1;
  few = subst (λ n. n ≤ 65536) (sym count_none) (omega arith);
  tight = λ rule is. no_some (sym is ∙ finite.get-empty (slice_cmp nat_cmp) rule);
}

module _ (proofs : ProofsOf) (rule : List ℕ) where
  abbrev own : Own
  own = proofs_of proofs rule

  -- all proofs are those of the rule and those of all others
  pub count_of : count_proofs proofs ≡ finite.len own + count_proofs (finite.remove proofs rule)
  count_of = go (finite.get proofs rule) refl
    where
      go : (found : Option Own) → finite.get proofs rule ≡ found → count_proofs proofs ≡ finite.len (option_map_or (λ o. o) found finite.empty) + count_proofs (finite.remove proofs rule)
      go None is =
          let none : finite.len (finite.empty {X = List Item} {R = slice_cmp nat_cmp}) ≡ 0 = finite.len-empty (slice_cmp nat_cmp) (List Item) in
          let all : count_proofs proofs ≡ count_proofs (finite.remove proofs rule) = ap count_proofs (sym (remove_absent proofs rule is)) in
          omega (arith, all, none)
      go (Some found) is = count_there proofs rule found is

  module _ (proof : List ℕ) where
    -- where a proof is there, there is one at least
    pub some_counts : is_some (proof_at proofs rule proof) ≡ true → 1 ≤ count_proofs proofs
    some_counts is =
        let all = count_of in
        let some : finite.len own ≡ 0 → ⊥ = λ none. false≢true (sym (ap is_some (ap (λ o. finite.get o proof) (finite.empty_of_len own none) ∙ finite.get-empty (slice_cmp nat_cmp) proof)) ∙ is) in
        omega (arith, all, some)

    -- ---- a proof is put there
    module _ (items : List Item) where
      -- what is found afterwards is the proof that was put, or was there
      pub put_known : (r p : List ℕ) (found : List Item) → proof_at (with_proof proofs rule proof items) r p ≡ Some found → ((rule ≡ r) × (proof ≡ p)) ⊎ (proof_at proofs r p ≡ Some found)
      put_known r p found is = elim (same_name rule r) [
        | inl e ↦ elim (same_name proof p) [
          | inl f ↦ inl (e, f)
          | inr n ↦ inr (subst (λ (name : List ℕ). proof_at proofs name p ≡ Some found) e
              (sym (get-insert_other own proof items p n)
              ∙ sym (ap (λ o. finite.get (option_map_or (λ (x : Own). x) o finite.empty) p) (ap (finite.get (with_proof proofs rule proof items)) (sym e) ∙ get-insert_here proofs rule (finite.insert own proof items))) ∙ is))
        ]
        | inr n ↦ inr (sym (ap (λ o. finite.get (option_map_or (λ (x : Own). x) o finite.empty) p) (get-insert_other proofs rule (finite.insert own proof items) r n)) ∙ is)
      ]

      -- one more where it is new, and as many where it was there
      pub count_with : count_proofs (with_proof proofs rule proof items) ≡ cond (is_some (proof_at proofs rule proof)) (count_proofs proofs) (count_proofs proofs + 1)
      count_with =
          count_put proofs rule (finite.insert own proof items) ∙ ap (λ n. n + count_proofs (finite.remove proofs rule)) (finite.len-insert nat_list_cmp_total own proof items) ∙ go (is_some (proof_at proofs rule proof)) count_of
        where
          go : (there : Bool) → count_proofs proofs ≡ finite.len own + count_proofs (finite.remove proofs rule)
              → cond there (finite.len own) (finite.len own + 1) + count_proofs (finite.remove proofs rule) ≡ cond there (count_proofs proofs) (count_proofs proofs + 1)
          go true e = sym e
          go false e = omega (arith, e)

      -- no rule name is kept without proofs
      pub put_tight : ((r : List ℕ) → finite.get proofs r ≡ Some finite.empty → ⊥) → (r : List ℕ) → finite.get (with_proof proofs rule proof items) r ≡ Some finite.empty → ⊥
      put_tight tight r is = elim (same_name rule r) [
        | inl e ↦
            let same : finite.insert own proof items ≡ finite.empty = one_own (sym (ap (finite.get (with_proof proofs rule proof items)) (sym e) ∙ get-insert_here proofs rule (finite.insert own proof items)) ∙ is) in
            no_some (sym (get-insert_here own proof items) ∙ ap (λ o. finite.get o proof) same ∙ finite.get-empty (slice_cmp nat_cmp) proof)
        | inr n ↦ tight r (sym (get-insert_other proofs rule (finite.insert own proof items) r n) ∙ is)
      ]
        where
          one_own : {a b : Own} → Some a ≡ Some b → a ≡ b
          one_own e = cc

    -- ---- a proof is taken out
    abbrev left : Own
    left = finite.remove own proof

    pub taken_known : (r p : List ℕ) (found : List Item) → proof_at (without_proof proofs rule proof) r p ≡ Some found → proof_at proofs r p ≡ Some found
    taken_known r p found is = elim (nat_eq (finite.len left) 0) as (λ b. proof_at (if b then finite.remove proofs rule else finite.insert proofs rule left) r p ≡ Some found → proof_at proofs r p ≡ Some found) [
      | true ↦ λ t. elim (same_name rule r) [
        | inl e ↦ absurd (no_some (sym t ∙ ap (λ o. finite.get (option_map_or (λ (x : Own). x) o finite.empty) p) (ap (finite.get (finite.remove proofs rule)) (sym e) ∙ get-remove_here proofs rule) ∙ finite.get-empty (slice_cmp nat_cmp) p))
        | inr n ↦ sym (ap (λ o. finite.get (option_map_or (λ (x : Own). x) o finite.empty) p) (get-remove_other proofs rule r n)) ∙ t
      ]
      | false ↦ λ t. elim (same_name rule r) [
        | inl e ↦ subst (λ (name : List ℕ). proof_at proofs name p ≡ Some found) e
            (left_by own proof p found (sym (ap (λ o. finite.get (option_map_or (λ (x : Own). x) o finite.empty) p) (ap (finite.get (finite.insert proofs rule left)) (sym e) ∙ get-insert_here proofs rule left)) ∙ t)).1
        | inr n ↦ sym (ap (λ o. finite.get (option_map_or (λ (x : Own). x) o finite.empty) p) (get-insert_other proofs rule left r n)) ∙ t
      ]
    ] is

    -- one less where it was there
    pub count_without : count_proofs (without_proof proofs rule proof) ≡ cond (is_some (proof_at proofs rule proof)) (count_proofs proofs - 1) (count_proofs proofs)
    count_without = counted (cases_Bool (nat_eq (finite.len left) 0)) ∙ ap (λ n. n + count_proofs (finite.remove proofs rule)) (finite.len-remove nat_list_cmp_total own proof) ∙ go (is_some (proof_at proofs rule proof)) refl
      where
        counted : (nat_eq (finite.len left) 0 ≡ true) ⊎ (nat_eq (finite.len left) 0 ≡ false) → count_proofs (with_own proofs rule left) ≡ finite.len left + count_proofs (finite.remove proofs rule)
        counted (inl is) =
            let none : finite.len left ≡ 0 = true-eqb (finite.len left) 0 (sym is) in
            let all : count_proofs (with_own proofs rule left) ≡ count_proofs (finite.remove proofs rule) = ap (λ b. count_proofs (if b then finite.remove proofs rule else finite.insert proofs rule left)) is in
            omega (arith, all, none)
        counted (inr is) = ap (λ b. count_proofs (if b then finite.remove proofs rule else finite.insert proofs rule left)) is ∙ count_put proofs rule left

        go : (there : Bool) → is_some (proof_at proofs rule proof) ≡ there
            → cond there (finite.len own - 1) (finite.len own) + count_proofs (finite.remove proofs rule) ≡ cond there (count_proofs proofs - 1) (count_proofs proofs)
        go true is =
            let all = count_of in
            let some : finite.len own ≡ 0 → ⊥ = λ none. false≢true (sym (ap is_some (ap (λ o. finite.get o proof) (finite.empty_of_len own none) ∙ finite.get-empty (slice_cmp nat_cmp) proof)) ∙ is) in
            omega (arith, all, some)
        go false is = sym count_of

    pub taken_tight : ((r : List ℕ) → finite.get proofs r ≡ Some finite.empty → ⊥) → (r : List ℕ) → finite.get (without_proof proofs rule proof) r ≡ Some finite.empty → ⊥
    taken_tight tight r is = elim (cases_Bool (nat_eq (finite.len left) 0)) [
      | inl e ↦ gone (sym (ap (λ b. finite.get (if b then finite.remove proofs rule else finite.insert proofs rule left) r) e) ∙ is)
      | inr f ↦ kept f (sym (ap (λ b. finite.get (if b then finite.remove proofs rule else finite.insert proofs rule left) r) f) ∙ is)
    ]
      where
        one_own : {a b : Own} → Some a ≡ Some b → a ≡ b
        one_own e = cc

        gone : finite.get (finite.remove proofs rule) r ≡ Some finite.empty → ⊥
        gone t = tight r (left_by proofs rule r finite.empty t).1

        kept : nat_eq (finite.len left) 0 ≡ false → finite.get (finite.insert proofs rule left) r ≡ Some finite.empty → ⊥
        kept f t = elim (same_name rule r) [
          | inl e ↦
              let same : left ≡ finite.empty = one_own (sym (ap (finite.get (finite.insert proofs rule left)) (sym e) ∙ get-insert_here proofs rule left) ∙ t) in
              let none : finite.len left ≡ 0 = ap finite.len same ∙ finite.len-empty (slice_cmp nat_cmp) (List Item) in
              false-eqb (finite.len left) 0 (sym f) none
          | inr n ↦ tight r (sym (get-insert_other proofs rule left r n) ∙ t)
        ]

    -- ---- what a store has
    module _ (are : AreProofs proofs) where
      pub are_added : is_segment proof ≡ true → proof_at proofs rule proof ≡ None → count_proofs proofs < 65536 → AreProofs (with_proof proofs rule proof [])
      are_added plain new room = record {
        plain = λ r p found is. elim (put_known [] r p found is) [ inl same ↦ subst (λ (name : List ℕ). is_segment name ≡ true) same.1 plain | inr old ↦ are.plain r p found old ];
        acyclic = fewer_edges_acyclic (leads (with_proof proofs rule proof [])) (leads proofs) (empty_leads proofs rule proof) are.acyclic;
        few = let more = count_with [] ∙ ap (λ o. cond (is_some o) (count_proofs proofs) (count_proofs proofs + 1)) new in omega (arith, more, room);
        tight = put_tight [] are.tight;
      }

      pub are_taken : AreProofs (without_proof proofs rule proof)
      are_taken = record {
        plain = λ r p found is. are.plain r p found (taken_known r p found is);
        acyclic = fewer_edges_acyclic (leads (without_proof proofs rule proof)) (leads proofs) (removed_leads proofs rule proof) are.acyclic;
        few = subst (λ n. n ≤ 65536) (sym count_without) (go (is_some (proof_at proofs rule proof)) are.few);
        tight = taken_tight are.tight;
      }
        where
          go : (there : Bool) → count_proofs proofs ≤ 65536 → cond there (count_proofs proofs - 1) (count_proofs proofs) ≤ 65536
          go true few = omega (arith, few)
          go false few = few

      -- a proof that is there is changed
      are_put : (items : List Item) → is_some (proof_at proofs rule proof) ≡ true → IsAcyclic (leads (with_proof proofs rule proof items)) → AreProofs (with_proof proofs rule proof items)
      are_put items there acyclic = record {
        plain = λ r p found is. elim (put_known items r p found is) [ inl same ↦ subst (λ (name : List ℕ). is_segment name ≡ true) same.1 plain | inr old ↦ are.plain r p found old ];
        acyclic = acyclic;
        few = subst (λ n. n ≤ 65536) (sym (count_with items ∙ ap (λ b. cond b (count_proofs proofs) (count_proofs proofs + 1)) there)) are.few;
        tight = put_tight items are.tight;
      }
        where
          some_of : (o : Option (List Item)) → is_some o ≡ true → (v : List Item) × (o ≡ Some v)
          some_of None is = absurd (false≢true is)
          some_of (Some v) is = (v, refl)

          plain : is_segment proof ≡ true
          plain = let found = some_of (proof_at proofs rule proof) there in are.plain rule proof found.0 found.1

      module _ (change : List Item → List Item) where
        pub are_changed : IsAcyclic (leads (with_change_at proofs rule proof change)) → AreProofs (with_change_at proofs rule proof change)
        are_changed = go (proof_at proofs rule proof) refl
          where
            go : (found : Option (List Item)) → proof_at proofs rule proof ≡ found → IsAcyclic (leads (with_change_in proofs rule proof change found)) → AreProofs (with_change_in proofs rule proof change found)
            go None is acyclic = are
            go (Some items) is acyclic = are_put (change items) (ap is_some is) acyclic

        -- as many as before
        pub count_changed : count_proofs (with_change_at proofs rule proof change) ≡ count_proofs proofs
        count_changed = go (proof_at proofs rule proof) refl
          where
            go : (found : Option (List Item)) → proof_at proofs rule proof ≡ found → count_proofs (with_change_in proofs rule proof change found) ≡ count_proofs proofs
            go None is = refl
            go (Some items) is = count_with (change items) ∙ ap (λ o. cond (is_some o) (count_proofs proofs) (count_proofs proofs + 1)) is
