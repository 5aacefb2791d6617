-- A record that is added: its bytes behind the last gate, and then that gate opened.
use Rattle.std.proofs.Common.{◌≡◌, inl, inr, ◌+◌, ◌<◌, ℕ, Bool, true, false, ◌==◌, List, [], ◌∷◌, ◌++◌, length, get_or, take, drop, refl, sym, ◌∙◌, ap, subst, arith, append_assoc, length-append, Option, Some, None, option_map}
use Rattle.std.proofs.lemmas.List.{append-nil, take_all, drop_all, take_at, drop_at}
use Rattle.std.proofs.lemmas.Bool.Decides.{nat_tests}
use Rattle.std.specs.Int.{to_be_bytes, w32}
use Rattle.mu_outside.specs.Disks.{Disk, IsImage, at_rest, wrote, settled, patched}
use Rattle.mu_journal.specs.Formats.{head, open_gate, opened, blocks, closed, IsRecord}
use Rattle.mu_journal.specs.Frames.{framed}
use Rattle.mu_journal.specs.Settled.{SettledAt, IsSettled, BeforeOrAfter}
use Rattle.mu_outside.specs.Outsides.{Observed}
use Rattle.mu_outside.specs.Leaves.{Leaves}
use Rattle.mu_journal.specs.Opening.{Within, With}
use Rattle.mu_journal.proofs.Moments.{with_one, with_on}
use Rattle.mu_journal.proofs.Blocks.{opens, blocks-push, valid-push}
use Rattle.mu_journal.proofs.Images.{torn_past, torn_byte, only_rest}

pub length-framed : (one : List ℕ) → length (framed one) ≡ length one + 5
length-framed one = omega (arith, length-append (to_be_bytes w32 (length one) ++ one) (0 ∷ []), length-append (to_be_bytes w32 (length one)) one)

-- bytes written at the end
pub patched_end : (content bytes : List ℕ) (at : ℕ) → at ≡ length content → patched content at bytes ≡ content ++ bytes
patched_end content bytes at is =
    ap (λ (l : List ℕ). l ++ bytes ++ drop (at + length bytes) content) (take_all at content (omega (arith, is)))
    ∙ ap (λ (l : List ℕ). content ++ bytes ++ l) (drop_all (at + length bytes) content (omega (arith, is)))
    ∙ append-nil (content ++ bytes)

-- its gate stands at this place, and the journal rests at the records before
module _ (records : List (List ℕ)) (one : List ℕ) (at : ℕ) (disk : Disk) (settled_at : SettledAt disk records (at + 1)) where
  abbrev at_is : at + 1 ≡ length (closed records)
  at_is = settled_at.length_is

  -- its bytes are written behind the closed gate
  pub staged_image : (piece image : List ℕ) → IsImage (wrote (at + 1) piece disk) image → BeforeOrAfter records one image
  staged_image piece image is =
      let there : IsImage (wrote (length (closed records)) piece (at_rest (closed records))) image =
      subst (λ n. IsImage (wrote n piece (at_rest (closed records))) image) at_is (subst (λ (d : Disk). IsImage (wrote (at + 1) piece d) image) settled_at.rests is) in
      let rest = drop (length (closed records)) image in
      let whole : image ≡ head ++ blocks records ++ 0 ∷ rest = torn_past (closed records) piece image there ∙ append_assoc (head ++ blocks records) (0 ∷ []) rest in
      inl (ap opened whole ∙ opens records 0 rest settled_at.valid refl)

  pub staged : (piece : List ℕ) → piece ≡ framed one → patched disk.content (at + 1) piece ≡ closed records ++ framed one
  staged piece is =
      ap (λ (d : Disk). patched d.content (at + 1) piece) settled_at.rests ∙ patched_end (closed records) piece (at + 1) at_is ∙ ap (λ (l : List ℕ). closed records ++ l) is

  gate_at : length (head ++ blocks records) ≡ at
  gate_at = omega (arith, at_is, length-append (head ++ blocks records) (0 ∷ []))

  front : take at (closed records ++ framed one) ≡ head ++ blocks records
  front = ap (λ (l : List ℕ). take at l) (append_assoc (head ++ blocks records) (0 ∷ []) (framed one)) ∙ take_at (head ++ blocks records) (0 ∷ framed one) at gate_at

  back : drop (at + 1) (closed records ++ framed one) ≡ framed one
  back = drop_at (closed records) (framed one) (at + 1) (sym at_is)

  opened_gate : head ++ blocks records ++ open_gate ∷ framed one ≡ closed (records ++ one ∷ [])
  opened_gate =
      append_assoc head (blocks records) (open_gate ∷ framed one)
      ∙ ap (λ (l : List ℕ). head ++ l) (sym (blocks-push records one (0 ∷ [])))
      ∙ sym (append_assoc head (blocks (records ++ one ∷ [])) (0 ∷ []))

  -- the gate is opened
  pub added_image : (image : List ℕ) → IsRecord one → IsImage (wrote at (open_gate ∷ []) (at_rest (closed records ++ framed one))) image → BeforeOrAfter records one image
  added_image image is_record is =
      let gate = get_or image at 0 in
      let lt : at < length (closed records ++ framed one) = omega (arith, at_is, length-append (closed records) (framed one)) in
      let whole : image ≡ head ++ blocks records ++ gate ∷ framed one =
      torn_byte (closed records ++ framed one) at open_gate image lt is ∙ ap (λ (l : List ℕ). l ++ gate ∷ drop (at + 1) (closed records ++ framed one)) front ∙ ap (λ (l : List ℕ). head ++ blocks records ++ gate ∷ l) back in
      subst (BeforeOrAfter records one) (sym whole) (by_case gate (gate == open_gate) refl)
    where
      by_case : (gate : ℕ) (b : Bool) → (gate == open_gate) ≡ b → BeforeOrAfter records one (head ++ blocks records ++ gate ∷ framed one)
      by_case gate true e =
          let is : gate ≡ open_gate = grind (arith, nat_tests, e) in
          inr (ap (λ g. opened (head ++ blocks records ++ g ∷ framed one)) is ∙ ap opened opened_gate ∙ opens (records ++ one ∷ []) 0 [] (valid-push records one settled_at.valid is_record) refl)
      by_case gate false e = inl (opens records gate (framed one) settled_at.valid (rw e refl))

  pub added : patched (closed records ++ framed one) at (open_gate ∷ []) ≡ closed (records ++ one ∷ [])
  added =
      ap (λ (l : List ℕ). l ++ (open_gate ∷ []) ++ drop (at + 1) (closed records ++ framed one)) front
      ∙ ap (λ (l : List ℕ). head ++ blocks records ++ (open_gate ∷ []) ++ l) back
      ∙ append_assoc (head ++ blocks records) (open_gate ∷ []) (framed one)
      ∙ opened_gate

  pub settled_added : (longer : ℕ) → longer ≡ at + 1 + 5 + length one → IsRecord one → SettledAt (at_rest (closed (records ++ one ∷ []))) (records ++ one ∷ []) longer
  settled_added longer is is_record = record {
    rests = refl;
    valid = valid-push records one settled_at.valid is_record;
    length_is = omega (arith, is, ap length (sym opened_gate), gate_at, length-append (head ++ blocks records) (open_gate ∷ framed one), length-framed one);
    opens = λ image is_image. ap opened (only_rest (closed (records ++ one ∷ [])) image is_image) ∙ opens (records ++ one ∷ []) 0 [] (valid-push records one settled_at.valid is_record) refl;
  }

-- another one may be added, also where the disk isn't known
pub again : (old new : Option Disk) (one : List ℕ) (number longer : ℕ) → (old ≡ None → new ≡ None)
    → ((disk : Disk) (records : List (List ℕ)) → old ≡ Some disk → SettledAt disk records number → (now : Disk) × (new ≡ Some now) × SettledAt now (records ++ one ∷ []) longer)
    → IsSettled old number → IsSettled new longer
again None new one number longer unknown kept is = subst (λ (d : Option Disk). IsSettled d longer) (sym (unknown refl)) tt
again (Some disk) new one number longer unknown kept is =
    let k = kept disk is.0 refl is.1 in
    subst (λ (d : Option Disk). IsSettled d longer) (sym k.1) (is.0 ++ one ∷ [], k.2)

-- the calls of one that is added
module _ {D : Type 0} (observed : D → Observed) (moment : D → ℕ → List ℕ → List ℕ → Type 0) (old mid : D) (records : List (List ℕ)) (one piece : List ℕ) (at : ℕ) (disk : Disk)
    (is : (observed old).disk ≡ Some disk) (settled_at : SettledAt disk records (at + 1)) (within : Within observed moment old mid (option_map (wrote (at + 1) piece) (observed old).disk)) where
  pub staged_moments : Leaves observed moment old mid (With (BeforeOrAfter records one) (observed old).told)
  staged_moments =
      with_one observed moment old mid (BeforeOrAfter records one) _ (wrote (at + 1) piece disk) within (ap (λ (d : Option Disk). option_map (wrote (at + 1) piece) d) is) (staged_image records one at disk settled_at piece)

  module _ (piece_is : piece ≡ framed one) (is_record : IsRecord one) (done : (observed mid).disk ≡ option_map settled (option_map (wrote (at + 1) piece) (observed old).disk)) where
    staged_disk : (observed mid).disk ≡ Some (at_rest (closed records ++ framed one))
    staged_disk =
        done ∙ ap (λ (d : Option Disk). option_map settled (option_map (wrote (at + 1) piece) d)) is ∙ ap (λ (l : List ℕ). Some (at_rest l)) (staged records one at disk settled_at piece piece_is)

    pub added_moments : (new : D) → Within observed moment mid new (option_map (wrote at (open_gate ∷ [])) (observed mid).disk) → Leaves observed moment old new (With (BeforeOrAfter records one) (observed old).told)
    added_moments new later =
        with_on observed moment old mid new (BeforeOrAfter records one) staged_moments within.rest.told
        (with_one observed moment mid new (BeforeOrAfter records one) _ (wrote at (open_gate ∷ []) (at_rest (closed records ++ framed one))) later
        (ap (λ (d : Option Disk). option_map (wrote at (open_gate ∷ [])) d) staged_disk) (λ image h. added_image records one at disk settled_at image is_record h))

    pub added_disk : (new : Option Disk) → new ≡ option_map settled (option_map (wrote at (open_gate ∷ [])) (observed mid).disk) → new ≡ Some (at_rest (closed (records ++ one ∷ [])))
    added_disk new opened_it =
        opened_it ∙ ap (λ (d : Option Disk). option_map settled (option_map (wrote at (open_gate ∷ [])) d)) staged_disk ∙ ap (λ (l : List ℕ). Some (at_rest l)) (added records one at disk settled_at)
