-- What records that were written open to.
use Rattle.std.proofs.Common.{◌≡◌, ⊎_elim, ◌+◌, ◌^◌, ◌≤◌, ◌<◌, ℕ, zero, suc, Bool, true, false, ◌&&◌, leb, List, [], ◌∷◌, ◌++◌, length, take, drop, refl, sym, ◌∙◌, ap, arith, append_assoc, length-append}
use Rattle.std.specs.Int.{to_be_bytes, from_be_bytes, w32}
use Rattle.std.proofs.lemmas.Nat.{from_be_bytes-to_be_bytes_4}
use Rattle.std.proofs.lemmas.Bool.{le-leb}
use Rattle.std.proofs.lemmas.Bool.Decides.{leb_tells}
use Rattle.std.proofs.lemmas.List.{append-nil, take_at, drop_at}
use Rattle.mu_journal.specs.Formats.{head, open_gate, said_length, is_whole, Holding, Torn, ends_at, open_from, opened, blocks, IsRecord, AllRecords}

pub four : (n : ℕ) → length (to_be_bytes w32 n) ≡ 4
four n = refl

-- a whole record behind its gate
module _ (one tail : List ℕ) (valid : IsRecord one) (more : 1 ≤ length tail) where
  value : said_length (to_be_bytes w32 (length one) ++ (one ++ tail)) ≡ length one
  value = ap (λ (l : List ℕ). from_be_bytes w32 l) (take_at (to_be_bytes w32 (length one)) (one ++ tail) 4 (four (length one)))
      ∙ from_be_bytes-to_be_bytes_4 (length one) (omega (arith, valid.most))

  long : length (to_be_bytes w32 (length one) ++ (one ++ tail)) ≡ 4 + (length one + length tail)
  long = omega (arith, length-append (to_be_bytes w32 (length one)) (one ++ tail), length-append one tail, four (length one))

  pub whole : is_whole (to_be_bytes w32 (length one) ++ (one ++ tail)) ≡ true
  whole =
      let a : leb 4 (length (to_be_bytes w32 (length one) ++ (one ++ tail))) ≡ true = le-leb _ _ (omega (arith, long)) in
      let b : leb 1 (said_length (to_be_bytes w32 (length one) ++ (one ++ tail))) ≡ true = le-leb _ _ (omega (arith, value, valid.some)) in
      let c : leb (said_length (to_be_bytes w32 (length one) ++ (one ++ tail))) (2 ^ 24) ≡ true = le-leb _ _ (omega (arith, value, valid.most)) in
      let d : leb (said_length (to_be_bytes w32 (length one) ++ (one ++ tail)) + 5) (length (to_be_bytes w32 (length one) ++ (one ++ tail))) ≡ true = le-leb _ _ (omega (arith, value, long, more)) in
      all_four _ _ _ _ a b c d
    where
      all_four : (p q r s : Bool) → p ≡ true → q ≡ true → r ≡ true → s ≡ true → (p && (q && (r && s))) ≡ true
      all_four p q r s a b c d = rw (a, b, c, d)

  pub the_record : take (said_length (to_be_bytes w32 (length one) ++ (one ++ tail))) (drop 4 (to_be_bytes w32 (length one) ++ (one ++ tail))) ≡ one
  the_record =
      ap (λ (l : List ℕ). take (said_length (to_be_bytes w32 (length one) ++ (one ++ tail))) l) (drop_at (to_be_bytes w32 (length one)) (one ++ tail) 4 (four (length one)))
      ∙ take_at one tail _ (sym value)

  pub the_rest : drop (4 + said_length (to_be_bytes w32 (length one) ++ (one ++ tail))) (to_be_bytes w32 (length one) ++ (one ++ tail)) ≡ tail
  the_rest =
      ap (λ n. drop (4 + n) (to_be_bytes w32 (length one) ++ (one ++ tail))) value
      ∙ ap (λ (l : List ℕ). drop (4 + length one) l) (sym (append_assoc (to_be_bytes w32 (length one)) one tail))
      ∙ drop_at (to_be_bytes w32 (length one) ++ one) tail (4 + length one) (omega (arith, length-append (to_be_bytes w32 (length one)) one, four (length one)))

  pub opens_one : (fuel n : ℕ) (more : List (List ℕ)) → open_from fuel (n + 1) tail ≡ Holding more → open_from (suc fuel) n (open_gate ∷ to_be_bytes w32 (length one) ++ (one ++ tail)) ≡ Holding (one ∷ more)
  opens_one fuel n more rest = rw (whole, the_record, the_rest, rest)

  pub torn_one : (fuel n k : ℕ) → open_from fuel (n + 1) tail ≡ Torn k → open_from (suc fuel) n (open_gate ∷ to_be_bytes w32 (length one) ++ (one ++ tail)) ≡ Torn k
  torn_one fuel n k rest = rw (whole, the_record, the_rest, rest)

pub open_blocks : (records : List (List ℕ)) (fuel n gate : ℕ) (rest : List ℕ) → AllRecords records → ends_at gate rest ≡ true
    → length (blocks records) < fuel → open_from fuel n (blocks records ++ gate ∷ rest) ≡ Holding records
open_blocks [] zero n gate rest valid ends enough = absurd (omega arith)
open_blocks [] (suc fuel) n gate rest valid ends enough = rw ends
open_blocks (one ∷ more) zero n gate rest valid ends enough = absurd (omega arith)
open_blocks (one ∷ more) (suc fuel) n gate rest valid ends enough =
    let shorter : length (blocks more) < fuel = omega (arith, enough, length-append (to_be_bytes w32 (length one) ++ one) (blocks more)) in
    let later = open_blocks more fuel (n + 1) gate rest valid.1 ends shorter in
    let there = opens_one one (blocks more ++ gate ∷ rest) valid.0 (omega (arith, length-append (blocks more) (gate ∷ rest))) fuel n more later in
    let regroup : blocks (one ∷ more) ++ gate ∷ rest ≡ open_gate ∷ to_be_bytes w32 (length one) ++ (one ++ (blocks more ++ gate ∷ rest)) =
    ap (λ (l : List ℕ). open_gate ∷ l) (append_assoc (to_be_bytes w32 (length one) ++ one) (blocks more) (gate ∷ rest) ∙ append_assoc (to_be_bytes w32 (length one)) one (blocks more ++ gate ∷ rest)) in
    ap (λ (l : List ℕ). open_from (suc fuel) n l) regroup ∙ there

pub opens : (records : List (List ℕ)) (gate : ℕ) (rest : List ℕ) → AllRecords records → ends_at gate rest ≡ true → opened (head ++ blocks records ++ gate ∷ rest) ≡ Holding records
unfolding opened
opens records gate rest valid ends =
    let bytes = blocks records ++ gate ∷ rest in
    let later : open_from (length (head ++ blocks records ++ gate ∷ rest)) 1 bytes ≡ Holding records =
    open_blocks records (length (head ++ blocks records ++ gate ∷ rest)) 1 gate rest valid ends (omega (arith, length-append (blocks records) (gate ∷ rest))) in
    ⊎_elim
    (λ (short : (leb (length (head ++ blocks records ++ gate ∷ rest)) 9 ≡ true) × (length (head ++ blocks records ++ gate ∷ rest) ≤ 9)).
    rw short.0 (ap (λ (l : List (List ℕ)). Holding l) (sym (none records (omega (arith, short.1, length-append (blocks records) (gate ∷ rest)))))))
    (λ (long : (leb (length (head ++ blocks records ++ gate ∷ rest)) 9 ≡ false) × (9 < length (head ++ blocks records ++ gate ∷ rest))). rw long.0 later)
    (leb_tells (length (head ++ blocks records ++ gate ∷ rest)) 9)
  where
    none : (records : List (List ℕ)) → length (blocks records) ≤ 0 → records ≡ []
    none [] le = refl
    none (one ∷ more) le = absurd (omega (arith, le))

-- one record more, and a closed gate: with its gate open and without
pub blocks-push : (records : List (List ℕ)) (one rest : List ℕ) → blocks (records ++ one ∷ []) ++ rest ≡ blocks records ++ (open_gate ∷ (to_be_bytes w32 (length one) ++ one) ++ rest)
blocks-push [] one rest = ap (λ (l : List ℕ). open_gate ∷ l ++ rest) (append-nil (to_be_bytes w32 (length one) ++ one))
blocks-push (r ∷ records) one rest =
    append_assoc (open_gate ∷ to_be_bytes w32 (length r) ++ r) (blocks (records ++ one ∷ [])) rest
    ∙ ap (λ (l : List ℕ). (open_gate ∷ to_be_bytes w32 (length r) ++ r) ++ l) (blocks-push records one rest)
    ∙ sym (append_assoc (open_gate ∷ to_be_bytes w32 (length r) ++ r) (blocks records) (open_gate ∷ (to_be_bytes w32 (length one) ++ one) ++ rest))

pub valid-push : (records : List (List ℕ)) (one : List ℕ) → AllRecords records → IsRecord one → AllRecords (records ++ one ∷ [])
valid-push [] one valid is = (is, tt)
valid-push (r ∷ records) one valid is = (valid.0, valid-push records one valid.1 is)
