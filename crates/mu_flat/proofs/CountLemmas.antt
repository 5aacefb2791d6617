-- How many proofs there are after a change of those of one rule.
use Rattle.std.proofs.Common.{arith, ◌≡◌, refl, sym, ap, ◌∙◌, ◌+◌, ℕ, List, [], ◌∷◌, Some, None, cond}
use Rattle.std.specs.Ordering.{nat_cmp, is_eq}
use Rattle.std.specs.declared.cmp.Ordering.{Ordering}
use Rattle.std.specs.declared.cmp.Ordering.TheVariants.{Less, Equal, Greater}
use Rattle.std.specs.Cmp.Lexicographic.{slice_cmp, nat_list_cmp_total}
use Rattle.std.specs.FinMap as finite
use Rattle.std.specs.FinMap.Entries.{by_order, find, put}
use Rattle.mu_tree.specs.Maps.{MapOf}
use Rattle.mu_tree.proofs.MapLemmas.{get-remove_here, insert_removed, insert_got}
use Rattle.mu_proof.specs.declared.items.Item.{Item}
use Rattle.mu_flat.specs.ProofTables.{ProofsOf, count_in, count_proofs}

abbrev Own : Type 0
Own = MapOf (List Item)

no_some : {A : Type 0} {x : A} → Some x ≡ None → ⊥
no_some e = cc

-- a new name comes in with all its proofs
put_counts : (name : List ℕ) (own : Own) (entries : List (List ℕ × Own)) → find (slice_cmp nat_cmp) name entries ≡ None → count_in (put (slice_cmp nat_cmp) name own entries) ≡ finite.len own + count_in entries
put_counts name own [] none = refl
put_counts name own (first ∷ entries) none = go (slice_cmp nat_cmp name first.0) (put_counts name own entries) none
  where
    go : (o : Ordering) → (find (slice_cmp nat_cmp) name entries ≡ None → count_in (put (slice_cmp nat_cmp) name own entries) ≡ finite.len own + count_in entries)
        → cond (is_eq o) (Some first.1) (find (slice_cmp nat_cmp) name entries) ≡ None
        → count_in (by_order o ((name, own) ∷ first ∷ entries) ((first.0, own) ∷ entries) (first ∷ put (slice_cmp nat_cmp) name own entries)) ≡ finite.len own + (finite.len first.1 + count_in entries)
    go Less later is = refl
    go Equal later is = absurd (no_some is)
    go Greater later is = ap (λ n. finite.len first.1 + n) (later is) ∙ omega arith

module _ (proofs : ProofsOf) (rule : List ℕ) where
  -- the proofs of all other rules
  abbrev others : ProofsOf
  others = finite.remove proofs rule

  -- with other proofs of a rule there are those and the proofs of all other rules
  pub count_put : (own : Own) → count_proofs (finite.insert proofs rule own) ≡ finite.len own + count_proofs others
  count_put own =
      ap count_proofs (sym (insert_removed proofs rule own))
      ∙ ap count_in (finite.entries-insert nat_list_cmp_total others rule own)
      ∙ put_counts rule own (finite.entries others) (sym (finite.get-entries others rule) ∙ get-remove_here proofs rule)

  -- and so there are with those that it has
  pub count_there : (own : Own) → finite.get proofs rule ≡ Some own → count_proofs proofs ≡ finite.len own + count_proofs others
  count_there own is = ap count_proofs (sym (insert_got proofs rule own is)) ∙ count_put own
