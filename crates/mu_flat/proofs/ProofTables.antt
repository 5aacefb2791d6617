-- Values of a table that are changed in their place.
use Rattle.std.proofs.Common.{◌≡◌, inl, inr, true-eqb, refl, sym, ap, ◌∙◌, ℕ, true, false, List, Some, None}
use Rattle.std.specs.Prelude.{if◌then◌else◌, nat_eq, Option, Result, Ok, Err, OnOk, OnErr, OnSome, is_some}
use Rattle.std.specs.Option.{option_map_or}
use Rattle.std.specs.FinMap as finite
use Rattle.std.specs.Ordering.{nat_cmp}
use Rattle.std.specs.Cmp.Lexicographic.{slice_cmp}
use Rattle.std.proofs.lemmas.Bool.{cases_Bool}
use Rattle.mu_tree.specs.Maps.{MapOf}
use Rattle.mu_tree.proofs.MapLemmas.{get-insert_here, insert_got, remove_absent, remove_inserted}
use Rattle.mu_proof.specs.declared.items.Item.{Item}
use Rattle.mu_flat.specs.ProofTables.{ProofsOf, proofs_of, proof_at, with_proof, without_proof, has_line_at, with_change_in, with_change_at}

-- a value that is left as it was leaves the table as it was
pub left_alone : {V : Type 0} (table after : MapOf V) (name : List ℕ) (found value : V) → Some found ≡ finite.get table name → after ≡ finite.insert table name value → value ≡ found → after ≡ table
left_alone table after name found value there is same = is ∙ ap (finite.insert table name) same ∙ insert_got table name found (sym there)

-- what holds, holds where a result is an error
pub on_err : {T E P : Type 0} (result : Result T E) → P → OnErr result P
on_err (Ok x) p = tt
on_err (Err e) p = p

-- what follows of two facts that hold where a result is none
pub on_both : {T E P Q R : Type 0} (result : Result T E) → (P → Q → R) → OnOk result P → OnOk result Q → OnOk result R
on_both (Ok x) follows p q = follows p q
on_both (Err e) follows p q = tt

-- what holds where something is lent holds where it is
pub where_lent : {X P : Type 0} (lent : Option X) (x : X) → lent ≡ Some x → OnSome lent P → P
where_lent None x is holds = absurd (cc)
where_lent (Some y) x is holds = holds

-- where a line was found, its proof is there
pub line_found : (label : List ℕ) (found : Option (List Item)) → has_line_at label found ≡ true → is_some found ≡ true
line_found label None is = is
line_found label (Some items) is = refl

-- a rule that is not there has no proof
pub proof_at-absent : (proofs : ProofsOf) (rule proof : List ℕ) → finite.contains_key proofs rule ≡ false → proof_at proofs rule proof ≡ None
proof_at-absent proofs rule proof none = of (finite.get proofs rule) none
  where
    of : (found : Option (MapOf (List Item))) → is_some found ≡ false → finite.get (option_map_or (λ (f : MapOf (List Item)). f) found finite.empty) proof ≡ None
    of None none = finite.get-empty (slice_cmp nat_cmp) proof
    of (Some f) none = absurd (cc)

-- a proof that was put there is there
pub proof_at-with_proof : (proofs : ProofsOf) (rule proof : List ℕ) (items : List Item) → proof_at (with_proof proofs rule proof items) rule proof ≡ Some items
proof_at-with_proof proofs rule proof items =
    ap (λ found. finite.get (option_map_or (λ (f : MapOf (List Item)). f) found finite.empty) proof) (get-insert_here proofs rule (finite.insert (proofs_of proofs rule) proof items))
    ∙ get-insert_here (proofs_of proofs rule) proof items

module _ (proofs : ProofsOf) (rule proof : List ℕ) (own : MapOf (List Item)) (is : Some own ≡ finite.get proofs rule) where
  -- the proofs of a rule are those that are found
  pub own_is : own ≡ proofs_of proofs rule
  own_is = ap (λ found. option_map_or (λ (f : MapOf (List Item)). f) found finite.empty) is

  -- the proof of a rule is one of the rule's own
  pub proof_of_own : finite.get own proof ≡ proof_at proofs rule proof
  proof_of_own = ap (λ o. finite.get o proof) own_is

  -- a change of a proof among those of its rule is one of the proofs
  pub change_of_own : (change : List Item → List Item) (new : MapOf (List Item)) → is_some (finite.get own proof) ≡ true → ((items : List Item) → finite.get own proof ≡ Some items → new ≡ finite.insert own proof (change items))
      → finite.insert proofs rule new ≡ with_change_at proofs rule proof change
  change_of_own change new there changed = go (finite.get own proof) refl there
    where
      go : (found : Option (List Item)) → finite.get own proof ≡ found → is_some found ≡ true → finite.insert proofs rule new ≡ with_change_at proofs rule proof change
      go None e some = absurd (cc)
      go (Some items) e some =
          ap (finite.insert proofs rule) (changed items e)
          ∙ ap (λ o. finite.insert proofs rule (finite.insert o proof (change items))) own_is
          ∙ ap (with_change_in proofs rule proof change) (sym e ∙ proof_of_own)

-- ---- a proof taken out
-- what is left of a rule without proofs is nothing
pub owned_none : (proofs : ProofsOf) (rule proof : List ℕ) → finite.get proofs rule ≡ None → without_proof proofs rule proof ≡ proofs
owned_none proofs rule proof is =
    let none : proofs_of proofs rule ≡ finite.empty = ap (λ found. option_map_or (λ (f : MapOf (List Item)). f) found finite.empty) is in
    let left : finite.remove (proofs_of proofs rule) proof ≡ finite.empty =
    ap (λ o. finite.remove o proof) none ∙ remove_absent finite.empty proof (finite.get-empty (slice_cmp nat_cmp) proof) in
    let length : finite.len (finite.remove (proofs_of proofs rule) proof) ≡ 0 = ap finite.len left ∙ finite.len-empty (slice_cmp nat_cmp) (List Item) in
    ap (λ n. if nat_eq n 0 then finite.remove proofs rule else finite.insert proofs rule (finite.remove (proofs_of proofs rule) proof)) length ∙ remove_absent proofs rule is

module _ (proofs : ProofsOf) (rule proof : List ℕ) (own left : MapOf (List Item)) (is : Some own ≡ finite.get proofs rule) (taken : left ≡ finite.remove own proof) where
  same_left : left ≡ finite.remove (proofs_of proofs rule) proof
  same_left = taken ∙ ap (λ o. finite.remove o proof) (own_is proofs rule proof own is)

  -- where nothing is left, the rule is taken out
  pub owned_empty : (lent : ProofsOf) → lent ≡ finite.insert proofs rule left → left ≡ finite.empty → finite.remove lent rule ≡ without_proof proofs rule proof
  owned_empty lent written none =
      let length : 0 ≡ finite.len (finite.remove (proofs_of proofs rule) proof) = sym (ap finite.len (sym same_left ∙ none) ∙ finite.len-empty (slice_cmp nat_cmp) (List Item)) in
      ap (λ (all : ProofsOf). finite.remove all rule) written ∙ remove_inserted proofs rule left
      ∙ ap (λ n. if nat_eq n 0 then finite.remove proofs rule else finite.insert proofs rule (finite.remove (proofs_of proofs rule) proof)) length

  -- and where something is, it stays
  pub owned_some : (lent : ProofsOf) → lent ≡ finite.insert proofs rule left → (left ≡ finite.empty → ⊥) → lent ≡ without_proof proofs rule proof
  owned_some lent written some =
      let more : nat_eq (finite.len left) 0 ≡ false = elim (cases_Bool (nat_eq (finite.len left) 0)) [ inl none ↦ absurd (some (finite.empty_of_len left (true-eqb (finite.len left) 0 (sym none)))) | inr e ↦ e ] in
      let kept : false ≡ nat_eq (finite.len (finite.remove (proofs_of proofs rule) proof)) 0 = sym (ap (λ o. nat_eq (finite.len o) 0) (sym same_left) ∙ more) in
      written ∙ ap (finite.insert proofs rule) same_left
      ∙ ap (λ b. if b then finite.remove proofs rule else finite.insert proofs rule (finite.remove (proofs_of proofs rule) proof)) kept
