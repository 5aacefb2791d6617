-- Reading what was written, and the clean end.
use Rattle.std.proofs.Common.{◌≡◌, ⊎_elim, ◌+◌, ◌^◌, ◌≤◌, ◌<◌, ℕ, zero, suc, Bool, true, false, not, ◌||◌, ◌==◌, leb, List, [], ◌∷◌, ◌++◌, length, get_or, take, drop, refl, sym, ◌∙◌, ap, subst, arith, append_assoc, length-append, take-append-drop}
use Rattle.std.specs.Int.{to_be_bytes, w32}
use Rattle.std.proofs.lemmas.Bool.{le-leb}
use Rattle.std.proofs.lemmas.Bool.Decides.{leb_tells, Decides-eqb}
use Rattle.std.proofs.lemmas.Slice.Eq.{slice_eq-Decides}
use Rattle.std.specs.Prelude.{nat_eq}
use Rattle.std.specs.List.{starts_with}
use Rattle.std.specs.Cmp.Lexicographic.{pointwise}
use Rattle.std.proofs.lemmas.List.{take-take, drop_all, take_at, drop_at, length-drop, drop-drop}
use Rattle.mu_outside.specs.Disks.{Disk, IsImage, at_rest, wrote, shortened}
use Rattle.mu_journal.specs.Formats.{head, open_gate, is_whole, Holding, Foreign, Torn, ends_at, open_from, opened, blocks, closed, IsRecord, AllRecords}
use Rattle.mu_journal.specs.Gates.{IsParsed, IsEnd, IsOpen, IsGate}
use Rattle.mu_journal.specs.declared.gate.Gate.{Gate}
use Rattle.mu_journal.specs.declared.gate.Gate.TheVariants.{Broken, Record}
use Rattle.std.proofs.Common.{Option, Some, None}
use Rattle.mu_outside.specs.Outsides.{Observed}
use Rattle.mu_outside.specs.Leaves.{Leaves}
use Rattle.mu_journal.specs.Opening.{IsAtRest, OpensAs, Looks}
use Rattle.mu_journal.specs.Settled.{SettledAt, IsSettled}
use Rattle.mu_journal.proofs.Moments.{with_one}
use Rattle.mu_journal.proofs.Blocks.{opens, torn_one, blocks-push, valid-push}
use Rattle.mu_journal.proofs.Images.{torn_byte, torn_cut, only_rest}

-- something broken behind open records
open_torn : (records : List (List ℕ)) (fuel n : ℕ) (rest : List ℕ) → AllRecords records → ends_at open_gate rest ≡ false → is_whole rest ≡ false
    → length (blocks records) < fuel → open_from fuel n (blocks records ++ open_gate ∷ rest) ≡ Torn (n + length records)
open_torn [] zero n rest valid goes_on broken enough = absurd (omega arith)
open_torn [] (suc fuel) n rest valid goes_on broken enough = let same : n ≡ n + 0 = omega arith in rw (goes_on, broken) (ap (λ m. Torn m) same)
open_torn (one ∷ more) zero n rest valid goes_on broken enough = absurd (omega arith)
open_torn (one ∷ more) (suc fuel) n rest valid goes_on broken enough =
    let shorter : length (blocks more) < fuel = omega (arith, enough, length-append (to_be_bytes w32 (length one) ++ one) (blocks more)) in
    let later = open_torn more fuel (n + 1) rest valid.1 goes_on broken shorter in
    let count : n + 1 + length more ≡ n + length (one ∷ more) = omega arith in
    let there = torn_one one (blocks more ++ open_gate ∷ rest) valid.0 (omega (arith, length-append (blocks more) (open_gate ∷ rest))) fuel n (n + 1 + length more) later in
    let regroup : blocks (one ∷ more) ++ open_gate ∷ rest ≡ open_gate ∷ to_be_bytes w32 (length one) ++ (one ++ (blocks more ++ open_gate ∷ rest)) =
    ap (λ (l : List ℕ). open_gate ∷ l) (append_assoc (to_be_bytes w32 (length one) ++ one) (blocks more) (open_gate ∷ rest) ∙ append_assoc (to_be_bytes w32 (length one)) one (blocks more ++ open_gate ∷ rest)) in
    ap (λ (l : List ℕ). open_from (suc fuel) n l) regroup ∙ there ∙ ap (λ m. Torn m) count

-- nine bytes or fewer
pub opens_short : (content : List ℕ) → length content ≤ 9 → opened content ≡ Holding []
unfolding opened
opens_short content le = let e : leb (length content) 9 ≡ true = le-leb _ _ le in rw e refl

pub opens_no_head : (content : List ℕ) → 9 < length content → starts_with nat_eq content head ≡ false → opened content ≡ Foreign
unfolding opened
opens_no_head content lt lacks = ⊎_elim
    (λ (short : (leb (length content) 9 ≡ true) × (length content ≤ 9)). absurd (omega (arith, short.1, lt)))
    (λ (long : (leb (length content) 9 ≡ false) × (9 < length content)). rw (long.0, lacks) refl)
    (leb_tells (length content) 9)

opens_torn : (records : List (List ℕ)) (rest : List ℕ) → AllRecords records → ends_at open_gate rest ≡ false → is_whole rest ≡ false → opened (head ++ blocks records ++ open_gate ∷ rest) ≡ Torn (1 + length records)
unfolding opened
opens_torn records rest valid goes_on broken =
    let some : 1 ≤ length rest = filled rest goes_on in
    let later = open_torn records (length (head ++ blocks records ++ open_gate ∷ rest)) 1 rest valid goes_on broken (omega (arith, length-append (blocks records) (open_gate ∷ rest))) in
    ⊎_elim
    (λ (short : (leb (length (head ++ blocks records ++ open_gate ∷ rest)) 9 ≡ true) × (length (head ++ blocks records ++ open_gate ∷ rest) ≤ 9)). absurd (omega (arith, short.1, some, length-append (blocks records) (open_gate ∷ rest))))
    (λ (long : (leb (length (head ++ blocks records ++ open_gate ∷ rest)) 9 ≡ false) × (9 < length (head ++ blocks records ++ open_gate ∷ rest))). rw long.0 later)
    (leb_tells (length (head ++ blocks records ++ open_gate ∷ rest)) 9)
  where
    filled : (rest : List ℕ) → ends_at open_gate rest ≡ false → 1 ≤ length rest
    filled [] wrong = absurd (cc)
    filled (x ∷ xs) goes_on = omega arith

module _ (content : List ℕ) (records : List (List ℕ)) (at : ℕ) (parsed : IsParsed content records at) where
  pub parsed_end : (gate : ℕ) → IsEnd content at gate → opened content ≡ Holding records
  parsed_end gate end =
      ap opened (parsed.is ∙ ap (λ (l : List ℕ). (head ++ blocks records) ++ l) end.is) ∙ opens records gate end.rest parsed.valid end.ends

  pub parsed_torn : (rest : List ℕ) → IsOpen content at false rest → opened content ≡ Torn (1 + length records)
  parsed_torn rest broken =
      ap opened (parsed.is ∙ ap (λ (l : List ℕ). (head ++ blocks records) ++ l) broken.is) ∙ opens_torn records rest parsed.valid broken.goes_on broken.whole_is

  -- one record more
  pub parsed_more : (rest one : List ℕ) → IsOpen content at true rest → to_be_bytes w32 (length one) ≡ take 4 rest → one ≡ take (length one) (drop 4 rest) → IsRecord one → length one + 5 ≤ length rest
      → IsParsed content (records ++ one ∷ []) (at + 5 + length one)
  parsed_more rest one whole size is is_record fits =
      let tail = drop (4 + length one) rest in
      let long : length (head ++ blocks records) ≡ at = parsed.long in
      let first : rest ≡ (to_be_bytes w32 (length one) ++ one) ++ tail =
      sym (take-append-drop 4 rest) ∙ ap (λ (l : List ℕ). l ++ drop 4 rest) (sym size)
      ∙ ap (λ (l : List ℕ). to_be_bytes w32 (length one) ++ l) (sym (take-append-drop (length one) (drop 4 rest)) ∙ ap (λ (l : List ℕ). l ++ drop (length one) (drop 4 rest)) (sym is) ∙ ap (λ (l : List ℕ). one ++ l) (drop-drop (length one) 4 rest))
      ∙ sym (append_assoc (to_be_bytes w32 (length one)) one tail) in
      let shape : content ≡ (head ++ blocks (records ++ one ∷ [])) ++ tail =
      parsed.is ∙ ap (λ (l : List ℕ). (head ++ blocks records) ++ l) (whole.is ∙ ap (λ (l : List ℕ). open_gate ∷ l) first)
      ∙ append_assoc head (blocks records) (open_gate ∷ (to_be_bytes w32 (length one) ++ one) ++ tail)
      ∙ ap (λ (l : List ℕ). head ++ l) (sym (blocks-push records one tail))
      ∙ sym (append_assoc head (blocks (records ++ one ∷ [])) tail) in
      let short : length tail + (4 + length one) ≡ length rest = omega (arith, length-drop (4 + length one) rest, fits) in
      let all : length content ≡ at + suc (length rest) = omega (arith, ap length parsed.is, length-append (head ++ blocks records) (drop at content), ap length whole.is, long) in
      let reach : length (head ++ blocks (records ++ one ∷ [])) ≡ at + 5 + length one =
      omega (arith, ap length shape, length-append (head ++ blocks (records ++ one ∷ [])) tail, all, short) in
      record {
        is = shape ∙ ap (λ (l : List ℕ). (head ++ blocks (records ++ one ∷ [])) ++ l) (sym (ap (λ (l : List ℕ). drop (at + 5 + length one) l) shape ∙ drop_at (head ++ blocks (records ++ one ∷ [])) tail (at + 5 + length one) reach));
        long = reach;
        valid = valid-push records one parsed.valid is_record;
        there = omega (arith, all, fits);
      }

  pub parsed_record : (gate : Gate) (size : ℕ) (one : List ℕ) → IsGate content at gate → gate ≡ Record size → length one ≡ size → one ≡ take size (drop (at + 5) content) → 1 ≤ size → size ≤ 2 ^ 24 → at + 6 + size ≤ length content
      → IsParsed content (records ++ one ∷ []) (at + (5 + size))
  parsed_record gate size one shown is_record long is some most fits =
      let found : IsGate content at (Record size) = subst (IsGate content at) is_record shown in
      let rest : List ℕ = found.0 in
      let behind : drop (at + 5) content ≡ drop 4 rest = sym (drop-drop 5 at content) ∙ ap (λ (l : List ℕ). drop 5 l) found.1.is in
      let size_is : to_be_bytes w32 (length one) ≡ take 4 rest = ap (λ n. to_be_bytes w32 n) long ∙ found.3 in
      let one_is : one ≡ take (length one) (drop 4 rest) = is ∙ ap (λ (l : List ℕ). take size l) behind ∙ ap (λ n. take n (drop 4 rest)) (sym long) in
      let reach : at + 5 + length one ≡ at + (5 + size) = omega (arith, long) in
      let room : length one + 5 ≤ length rest = omega (arith, long, fits, ap length parsed.is, length-append (head ++ blocks records) (drop at content), ap length found.1.is, parsed.long) in
      subst (λ (n : ℕ). IsParsed content (records ++ one ∷ []) n) reach (parsed_more rest one found.1 size_is one_is (record { some = omega (arith, long, some); most = omega (arith, long, most) }) room)

  pub parsed_broken : (gate : Gate) → IsGate content at gate → gate ≡ Broken → opened content ≡ Torn (1 + length records)
  parsed_broken gate shown is = let found : IsGate content at Broken = subst (IsGate content at) is shown in parsed_torn found.0 found.1

  -- the content up to and with the ending gate
  pub up_to_gate : (gate : ℕ) → IsEnd content at gate → take (at + 1) content ≡ (head ++ blocks records) ++ gate ∷ []
  up_to_gate gate end =
      let shape : content ≡ ((head ++ blocks records) ++ gate ∷ []) ++ end.rest = parsed.is ∙ ap (λ (l : List ℕ). (head ++ blocks records) ++ l) end.is ∙ sym (append_assoc (head ++ blocks records) (gate ∷ []) end.rest) in
      ap (λ (l : List ℕ). take (at + 1) l) shape ∙ take_at ((head ++ blocks records) ++ gate ∷ []) end.rest (at + 1) (omega (arith, parsed.long, length-append (head ++ blocks records) (gate ∷ [])))

  -- what stands past the gate is cut
  pub cut_opens : (gate : ℕ) → IsEnd content at gate → at + 1 < length content → (image : List ℕ) → IsImage (shortened (at + 1) (at_rest content)) image → opened image ≡ opened content
  cut_opens gate end more image is =
      let filled : 1 ≤ length end.rest = omega (arith, more, ap length parsed.is, length-append (head ++ blocks records) (drop at content), ap length end.is, parsed.long) in
      let closed_gate : (not (gate == open_gate)) ≡ true = shut gate end.rest filled end.ends in
      let whole : image ≡ (head ++ blocks records) ++ gate ∷ drop (at + 1) image =
      torn_cut content (at + 1) image (omega (arith, more)) is ∙ ap (λ (l : List ℕ). l ++ drop (at + 1) image) (up_to_gate gate end) ∙ append_assoc (head ++ blocks records) (gate ∷ []) (drop (at + 1) image) in
      ap opened whole ∙ opens records gate (drop (at + 1) image) parsed.valid (rw closed_gate refl) ∙ sym (parsed_end gate end)
    where
      shut : (gate : ℕ) (rest : List ℕ) → 1 ≤ length rest → ends_at gate rest ≡ true → (not (gate == open_gate)) ≡ true
      shut gate [] some ends = absurd (omega arith)
      shut gate (x ∷ xs) some ends = or_left (not (gate == open_gate)) ends
        where
          or_left : (b : Bool) → (b || false) ≡ true → b ≡ true
          or_left true e = refl
          or_left false e = e

  -- the gate is closed at the end
  pub close_opens : (gate : ℕ) → IsEnd content at gate → (image : List ℕ) → IsImage (wrote at (0 ∷ []) (at_rest ((head ++ blocks records) ++ gate ∷ []))) image → opened image ≡ opened content
  close_opens gate end image is =
      let short = (head ++ blocks records) ++ gate ∷ [] in
      let lt : at < length short = omega (arith, parsed.long, length-append (head ++ blocks records) (gate ∷ [])) in
      let front : take at short ≡ head ++ blocks records = take_at (head ++ blocks records) (gate ∷ []) at parsed.long in
      let back : drop (at + 1) short ≡ [] = drop_all (at + 1) short (omega (arith, parsed.long, length-append (head ++ blocks records) (gate ∷ []))) in
      let g = get_or image at 0 in
      let whole : image ≡ (head ++ blocks records) ++ g ∷ [] =
      torn_byte short at 0 image lt is ∙ ap (λ (l : List ℕ). l ++ g ∷ drop (at + 1) short) front ∙ ap (λ (l : List ℕ). (head ++ blocks records) ++ g ∷ l) back in
      ap opened whole ∙ opens records g [] parsed.valid (last_gate (not (g == open_gate))) ∙ sym (parsed_end gate end)
    where
      last_gate : (b : Bool) → (b || true) ≡ true
      last_gate true = refl
      last_gate false = refl

  -- it rests at its records
  pub settled_at : SettledAt (at_rest (closed records)) records (at + 1)
  settled_at = record {
    rests = refl;
    valid = parsed.valid;
    length_is = omega (arith, parsed.long, length-append (head ++ blocks records) (0 ∷ []));
    opens = λ image is. ap opened (only_rest (closed records) image is) ∙ opens records 0 [] parsed.valid refl;
  }

-- a new journal's head is written
pub head_opens : (content bytes image : List ℕ) → length content ≤ 9 → length bytes ≡ 9 → IsImage (wrote 0 bytes (at_rest content)) image → opened image ≡ opened content
head_opens content bytes image le long is = opens_short image (omega (arith, is.no_longer, le, long)) ∙ sym (opens_short content le)

pub no_head : (content front : List ℕ) → front ≡ take 9 content → true ≡ not (pointwise nat_eq (take 8 front) head) → starts_with nat_eq content head ≡ false
no_head content front is lacks = by_case (starts_with nat_eq content head) refl
  where
    by_case : (b : Bool) → starts_with nat_eq content head ≡ b → starts_with nat_eq content head ≡ false
    by_case true has =
        let same = slice_eq-Decides Decides-eqb head (take 8 content) _ refl in
        let other = slice_eq-Decides Decides-eqb (take 8 front) head _ refl in
        let front_is : take 8 front ≡ head = ap (λ (l : List ℕ). take 8 l) is ∙ take-take 8 9 content (omega arith) ∙ sym (same.0 has) in
        let wrong : true ≡ false = lacks ∙ ap (λ (b : Bool). not b) (other.1 front_is) in
        absurd (cc)
    by_case false has = has

-- what stands past the gate is cut, or nothing stands there
pub short_opens : (content : List ℕ) (records : List (List ℕ)) (at gate : ℕ) → IsParsed content records at → IsEnd content at gate → (image : List ℕ) → IsImage (at_rest ((head ++ blocks records) ++ gate ∷ [])) image → opened image ≡ opened content
short_opens content records at gate parsed end image is =
    ap opened (only_rest ((head ++ blocks records) ++ gate ∷ []) image is) ∙ opens records gate [] parsed.valid (last_gate (not (gate == open_gate))) ∙ sym (parsed_end content records at parsed gate end)
  where
    last_gate : (b : Bool) → (b || true) ≡ true
    last_gate true = refl
    last_gate false = refl

-- a journal without records
pub settled_new : SettledAt (at_rest (closed [])) [] 9
settled_new = record { rests = refl; valid = tt; length_is = refl; opens = λ image is. ap opened (only_rest (closed []) image is) ∙ opens [] 0 [] tt refl }

-- a record may be added, also where the disk isn't known
pub again_from : (old new : Option Disk) (number : ℕ) → IsAtRest old → (old ≡ None → new ≡ None)
    → ((bytes : List ℕ) → old ≡ Some (at_rest bytes) → (records : List (List ℕ)) × (now : Disk) × (new ≡ Some now) × SettledAt now records number) → IsSettled new number
again_from None new number rests unknown known = subst (λ (d : Option Disk). IsSettled d number) (sym (unknown refl)) tt
again_from (Some disk) new number rests unknown known =
    let k = known disk.content (ap (λ (d : Disk). Some d) rests) in
    subst (λ (d : Option Disk). IsSettled d number) (sym k.2) (k.0, k.3)

-- looking alone
pub look_opens : {D : Type 0} (observed : D → Observed) (moment : D → ℕ → List ℕ → List ℕ → Type 0) (old new : D) (bytes : List ℕ) → Looks observed moment old new → (observed old).disk ≡ Some (at_rest bytes)
    → Leaves observed moment old new (OpensAs bytes (observed old).told)
look_opens observed moment old new bytes looks is =
    with_one observed moment old new (λ image. opened image ≡ opened bytes) _ (at_rest bytes) looks.within is (λ image at. ap opened (only_rest bytes image at))
