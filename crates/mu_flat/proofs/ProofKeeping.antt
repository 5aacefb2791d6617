-- A table of proofs keeps what it has to keep by each change.
use Rattle.std.proofs.Common.{◌≡◌, ◌<◌, ◌+◌, ◌-◌, sym, ap, ◌∙◌, ℕ, true, cond, List, [], Some, None}
use Rattle.std.specs.Prelude.{Option, is_some}
use Rattle.std.specs.Option.{option_map}
use Rattle.std.specs.FinMap as finite
use Rattle.mu_tree.specs.Names.{is_segment}
use Rattle.mu_tree.specs.declared.refusal.Refusal.TheVariants.{Circle}
use Rattle.mu_tree.specs.declared.why.Why.{Why}
use Rattle.mu_graph.specs.Circles.{GainsAt}
use Rattle.mu_graph.specs.Derivations.{Stands}
use Rattle.mu_graph.proofs.CircleLemmas.{fewer_edges_acyclic}
use Rattle.mu_proof.specs.Citations.{cited_by}
use Rattle.mu_proof.specs.Edits.{altered}
use Rattle.mu_proof.specs.declared.alteration.Alteration.TheVariants as alteration
use Rattle.mu_proof.specs.declared.citations.Cited.{Cited}
use Rattle.mu_proof.specs.declared.citations.Cited.TheVariants.{Rule}
use Rattle.mu_flat.specs.Circles.{first_circle}
use Rattle.mu_flat.specs.CiterTables.{CitersOf, HasAllCiters, AddsCiter}
use Rattle.mu_flat.specs.Edits.{circle_refusal, line_refusal}
use Rattle.mu_flat.specs.KeptProofs.{AreProofs, IsKept}
use Rattle.mu_flat.specs.ProofEdits.{PutsOpen, made}
use Rattle.mu_flat.specs.ProofTables.{ProofsOf, proof_at, with_proof, without_proof, with_edit_at, with_reason_at, count_proofs, leads}
use Rattle.mu_flat.specs.declared.proof_edits.ProofEdit.{ProofEdit}
use Rattle.mu_flat.specs.declared.proof_tables.ProofTable.TheInside.{Inside}
use Rattle.mu_flat.proofs.CircleLemmas.{told_acyclic}
use Rattle.mu_flat.proofs.Citing.{empty_leads, change_leads, removed_leads, reason_gains, all_citers_still}
use Rattle.mu_flat.proofs.EditCites.{made_cites}
use Rattle.mu_flat.proofs.ProofChanges.{are_none, are_added, are_taken, are_changed, none_leads, count_none, count_with, count_without, count_changed}
use Rattle.mu_flat.proofs.Refusals.{line_there, no_circle}

module _ (proofs : ProofsOf) (rule proof : List ℕ) (are : AreProofs proofs) where
  -- an edit that brings nothing in
  pub are_edited : (edit : ProofEdit) → PutsOpen edit → AreProofs (with_edit_at proofs rule proof edit)
  are_edited edit opens =
      are_changed proofs rule proof are (made edit) (fewer_edges_acyclic (leads (with_edit_at proofs rule proof edit)) (leads proofs) (change_leads proofs rule proof (made edit) (made_cites edit opens)) are.acyclic)

  -- another reason, where no rule leads back to itself then
  pub are_cited : (label : List ℕ) (why : Why) → circle_refusal proofs rule proof label why ≡ None → AreProofs (with_reason_at proofs rule proof label (Some why))
  are_cited label why free =
      are_changed proofs rule proof are (λ items. altered items label (alteration.Why (Some why)))
      (told_acyclic (with_reason_at proofs rule proof label (Some why)) (no_circle (first_circle (with_reason_at proofs rule proof label (Some why))) free))

pub kept_none : IsKept (record { by_rule = finite.empty; citers = finite.empty; count = 0 })
kept_none = record { proofs = are_none; citers = λ rule from s. absurd (none_leads (Rule from) (Rule rule) s); count = sym count_none }

module _ (inside : Inside) (kept : IsKept inside) where
  -- what cites no more is known still
  citers_still : (proofs : ProofsOf) → ((from to : Cited) → Stands to (leads proofs from) → Stands to (leads inside.by_rule from)) → HasAllCiters inside.citers proofs
  citers_still proofs fewer rule from s = kept.citers rule from (fewer (Rule from) (Rule rule) s)

  module _ (rule proof : List ℕ) where
    pub kept_added : is_segment proof ≡ true → proof_at inside.by_rule rule proof ≡ None → count_proofs inside.by_rule < 65536 → (count : ℕ) → count ≡ inside.count + 1
        → IsKept (record inside { by_rule = with_proof inside.by_rule rule proof []; count = count })
    kept_added plain new room count more = record {
      proofs = are_added inside.by_rule rule proof kept.proofs plain new room;
      citers = citers_still (with_proof inside.by_rule rule proof []) (empty_leads inside.by_rule rule proof);
      count = more ∙ ap (λ n. n + 1) kept.count ∙ sym (count_with inside.by_rule rule proof [] ∙ ap (λ o. cond (is_some o) (count_proofs inside.by_rule) (count_proofs inside.by_rule + 1)) new);
    }

    pub kept_taken : (count : ℕ) → count ≡ cond (is_some (proof_at inside.by_rule rule proof)) (inside.count - 1) inside.count → IsKept (record inside { by_rule = without_proof inside.by_rule rule proof; count = count })
    kept_taken count less = record {
      proofs = are_taken inside.by_rule rule proof kept.proofs;
      citers = citers_still (without_proof inside.by_rule rule proof) (removed_leads inside.by_rule rule proof);
      count = less ∙ ap (λ n. cond (is_some (proof_at inside.by_rule rule proof)) (n - 1) n) kept.count ∙ sym (count_without inside.by_rule rule proof);
    }

    pub kept_edited : (edit : ProofEdit) → PutsOpen edit → IsKept (record inside { by_rule = with_edit_at inside.by_rule rule proof edit })
    kept_edited edit opens = record {
      proofs = are_edited inside.by_rule rule proof kept.proofs edit opens;
      citers = citers_still (with_edit_at inside.by_rule rule proof edit) (change_leads inside.by_rule rule proof (made edit) (made_cites edit opens));
      count = kept.count ∙ sym (count_changed inside.by_rule rule proof kept.proofs (made edit));
    }

    module _ (label : List ℕ) (why : Why) (there : line_refusal inside.by_rule rule proof label ≡ None) where
      abbrev after : ProofsOf
      after = with_reason_at inside.by_rule rule proof label (Some why)

      gains : GainsAt (leads inside.by_rule) (leads after) (Rule rule) (cited_by (Some why))
      gains = reason_gains inside.by_rule rule proof label (Some why) (line_there proof label (proof_at inside.by_rule rule proof) there)

      -- what is told of circles after another reason of a line that is there tells whether the edit is refused
      pub permitted : (first : Option (List ℕ)) → ((after : ProofsOf) → GainsAt (leads inside.by_rule) (leads after) (Rule rule) (cited_by (Some why)) → first ≡ first_circle after)
          → circle_refusal inside.by_rule rule proof label why ≡ option_map Circle first
      permitted first told = ap (option_map Circle) (sym (told after gains))

      pub kept_cited : (citers : CitersOf) → circle_refusal inside.by_rule rule proof label why ≡ None → AddsCiter inside.citers citers rule (Some why) → IsKept (record inside { by_rule = after; citers = citers })
      kept_cited citers free adds = record {
        proofs = are_cited inside.by_rule rule proof kept.proofs label why free;
        citers = all_citers_still inside.by_rule after rule (Some why) inside.citers citers gains adds kept.citers;
        count = kept.count ∙ sym (count_changed inside.by_rule rule proof kept.proofs (λ items. altered items label (alteration.Why (Some why))));
      }
