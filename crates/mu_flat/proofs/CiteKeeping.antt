-- A store keeps what it has to keep where a line is cited to a reason.
use Rattle.std.proofs.Common.{◌≡◌, sym, subst, ℕ, List, Some, None}
use Rattle.std.specs.Prelude.{Option, Result, Ok, Err, OnOk, OnErr}
use Rattle.std.specs.Option.{option_or}
use Rattle.mu_tree.specs.declared.refusal.Refusal.{Refusal}
use Rattle.mu_tree.specs.declared.why.Why.{Why}
use Rattle.mu_flat.specs.Edits.{cite_refusal, circle_refusal, line_refusal}
use Rattle.mu_flat.specs.ProofTables.{ProofsOf, with_reason_at}
use Rattle.mu_flat.specs.Stores.{IsKept, entries_of}
use Rattle.mu_flat.specs.declared.stores.Store.TheInside.{Inside}
use Rattle.mu_flat.proofs.ProofKeeping.{are_cited}
use Rattle.mu_flat.proofs.Validity.{valid_proofs}

second : (a b : Option Refusal) → option_or a b ≡ None → b ≡ None
second None b is = is
second (Some refused) b is = cc

module _ (inside : Inside) (kept : IsKept inside) (rule proof label : List ℕ) (why : Why) where
  pub cited_kept : {T E : Type 0} (proofs : ProofsOf) (result : Result T E) → OnOk result (cite_refusal inside.proofs rule proof label why ≡ None) → OnOk result (proofs ≡ with_reason_at inside.proofs rule proof label (Some why))
      → OnErr result (proofs ≡ inside.proofs) → IsKept (record inside { proofs = proofs })
  cited_kept proofs (Ok done) free is stays = subst (λ (all : ProofsOf). IsKept (record inside { proofs = all })) (sym is) (record {
    valid = valid_proofs (entries_of inside) kept.valid _ (are_cited inside.proofs rule proof kept.valid.proofs label why (second (line_refusal inside.proofs rule proof label) (circle_refusal inside.proofs rule proof label why) free));
    base = kept.base;
  })
  cited_kept proofs (Err fault) free is stays = subst (λ (all : ProofsOf). IsKept (record inside { proofs = all })) (sym stays) kept
