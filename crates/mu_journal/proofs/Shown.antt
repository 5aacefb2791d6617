-- What bytes that were read show.
use Rattle.std.proofs.Common.{◌≡◌, ◌+◌, ◌-◌, ◌^◌, ◌≤◌, ◌<◌, ℕ, zero, suc, Bool, true, false, ◌&&◌, List, [], ◌∷◌, ◌++◌, length, get_or, take, drop, refl, sym, ◌∙◌, ap, subst, arith, Option, None, Some, option_map}
use Rattle.std.specs.Prelude.{IfSome}
use Rattle.std.specs.Int.{from_be_bytes, w32}
use Rattle.std.proofs.lemmas.Nat.{be_bytes_4}
use Rattle.std.proofs.lemmas.Bool.{le-leb}
use Rattle.std.proofs.lemmas.List.{drop-take, drop-drop, length-drop, length-take-le, take-append-le, get_or-take, get_or-drop, drop_more}
use Rattle.std.proofs.Math.Seq.{take-add, take-append-add}
use Rattle.mu_outside.specs.Disks.{Disk, at_rest}
use Rattle.mu_outside.specs.Outsides.{Observed, content}
use Rattle.mu_journal.specs.Formats.{open_gate, said_length, is_whole, ends_at}
use Rattle.mu_journal.specs.Gates.{IsKnown, IsGate}
use Rattle.mu_journal.specs.declared.gate.Gate.TheVariants.{Record}

-- what is so of the content that is known
pub some_of : {A : Type 0} (o : Option A) (a : A) (P : A → Type 0) → o ≡ Some a → IfSome o P → P a
some_of None a P e p = absurd (cc)
some_of (Some b) a P e p = let same : b ≡ a = cc in subst P same p

pub at_rest_content : (observed : Observed) (bytes : List ℕ) → observed.disk ≡ Some (at_rest bytes) → content observed ≡ Some bytes
at_rest_content observed bytes is = ap (λ (d : Option Disk). option_map (λ (e : Disk). e.content) d) is

pub same_content : (old new : Observed) (bytes : List ℕ) → new.disk ≡ old.disk → content old ≡ Some bytes → content new ≡ Some bytes
same_content old new bytes same is = ap (λ (d : Option Disk). option_map (λ (e : Disk). e.content) d) same ∙ is

-- more bytes into a buffer
pub read_more : (bytes buf piece tail : List ℕ) (at count n : ℕ) → count ≤ length buf → take count (drop at bytes) ≡ take count buf → count ≤ length bytes - at
    → take n (drop (at + count) bytes) ≡ take n piece → n ≤ length bytes - (at + count) → n ≤ length piece
    → (take (count + n) (drop at bytes) ≡ take (count + n) (take count buf ++ (piece ++ tail))) × (count + n ≤ length bytes - at)
read_more bytes buf piece tail at count n le so_far within more fits small =
    let front : length (take count buf) ≡ count = length-take-le count buf le in
    let split : take (count + n) (take count buf ++ (piece ++ tail)) ≡ take count buf ++ take n piece =
    ap (λ m. take (m + n) (take count buf ++ (piece ++ tail))) (sym front) ∙ take-append-add (take count buf) (piece ++ tail) n ∙ ap (λ (l : List ℕ). take count buf ++ l) (take-append-le n piece tail small) in
    let there : take (count + n) (drop at bytes) ≡ take count buf ++ take n piece =
    take-add count n (drop at bytes) ∙ ap (λ (l : List ℕ). take count (drop at bytes) ++ take n l) (drop-drop count at bytes) ∙ ap (λ (l : List ℕ). l ++ take n (drop (at + count) bytes)) so_far ∙ ap (λ (l : List ℕ). take count buf ++ l) more in
    (there ∙ sym split, omega (arith, within, fits))

pub both_known : {A : Type 0} (o : Option A) (P Q R : A → Type 0) → ((a : A) → P a → Q a → R a) → IfSome o P → IfSome o Q → IfSome o R
both_known None P Q R f p q = tt
both_known (Some a) P Q R f p q = f a p q

-- behind some first ones
pub known_part : (content all : List ℕ) (from skipped at : ℕ) → IsKnown content from all → at ≡ from + skipped → skipped < length all → IsKnown content at (drop skipped all)
known_part content all from skipped at known at_is lt =
    let whole : skipped + (length all - skipped) ≡ length all = omega (arith, lt) in
    let shift : drop skipped (drop from content) ≡ drop at content = drop-drop skipped from content ∙ ap (λ n. drop n content) (sym at_is) in
    record {
      bytes =
          ap (λ n. take n (drop at content)) (length-drop skipped all)
          ∙ ap (λ (l : List ℕ). take (length all - skipped) l) (sym shift)
          ∙ sym (drop-take skipped (length all - skipped) (drop from content))
          ∙ ap (λ n. drop skipped (take n (drop from content))) whole
          ∙ ap (λ (l : List ℕ). drop skipped l) known.bytes;
      within = omega (arith, length-drop skipped all, known.within, at_is, lt);
    }

filled : (rest : List ℕ) → 1 ≤ length rest → ends_at open_gate rest ≡ false
filled [] le = absurd (omega arith)
filled (x ∷ xs) le = refl

whole_by : (rest : List ℕ) → 4 ≤ length rest → 1 ≤ said_length rest → said_length rest ≤ 2 ^ 24 → said_length rest + 5 ≤ length rest → is_whole rest ≡ true
whole_by rest a b d e = all_four _ _ _ _ (le-leb _ _ a) (le-leb _ _ b) (le-leb _ _ d) (le-leb _ _ e)
  where
    all_four : (p q r s : Bool) → p ≡ true → q ≡ true → r ≡ true → s ≡ true → (p && (q && (r && s))) ≡ true
    all_four p q r s a b c d = rw (a, b, c, d)

four_list : (xs : List ℕ) → 4 ≤ length xs → take 4 xs ≡ get_or xs 0 0 ∷ get_or xs 1 0 ∷ get_or xs 2 0 ∷ get_or xs 3 0 ∷ []
four_list [] e = absurd (omega (arith, e))
four_list (a ∷ []) e = absurd (omega (arith, e))
four_list (a ∷ b ∷ []) e = absurd (omega (arith, e))
four_list (a ∷ b ∷ c ∷ []) e = absurd (omega (arith, e))
four_list (a ∷ b ∷ c ∷ d ∷ more) e = refl

small_four : (b1 b2 b3 b4 : ℕ) → b1 < 256 → b2 < 256 → b3 < 256 → b4 < 256 → (i : ℕ) → get_or (b1 ∷ b2 ∷ b3 ∷ b4 ∷ []) i 0 < 256
small_four b1 b2 b3 b4 p q r s zero = p
small_four b1 b2 b3 b4 p q r s (suc zero) = q
small_four b1 b2 b3 b4 p q r s (suc (suc zero)) = r
small_four b1 b2 b3 b4 p q r s (suc (suc (suc zero))) = s
small_four b1 b2 b3 b4 p q r s (suc (suc (suc (suc i)))) = omega arith

-- the bytes from a gate's place on: five of them, or all there are
module _ (content : List ℕ) (at : ℕ) (known : List ℕ) (is_known : IsKnown content at known) (whole : length known < 5 → length content ≤ at + length known) (there : at < length content) where
  abbrev rest : List ℕ
  rest = drop (at + 1) content

  some : 1 ≤ length known
  some = at_least (length known) whole
    where
      at_least : (n : ℕ) → (n < 5 → length content ≤ at + n) → 1 ≤ n
      at_least zero end = let le = end (omega arith) in absurd (omega (arith, le, there))
      at_least (suc n) end = omega arith

  shows : (place i : ℕ) → place ≡ at + i → i < length known → get_or content place 0 ≡ get_or known i 0
  shows place i is lt =
      ap (λ n. get_or content n 0) is ∙ sym (get_or-drop at content i 0) ∙ sym (get_or-take (length known) (drop at content) i 0 lt) ∙ ap (λ (l : List ℕ). get_or l i 0) is_known.bytes

  first : drop at content ≡ get_or known 0 0 ∷ rest
  first = drop_more content at 0 there ∙ ap (λ n. n ∷ rest) (shows at 0 (omega arith) some)

  long : length rest + at + 1 ≡ length content
  long = omega (arith, length-drop (at + 1) content, there)

  module _ (is_open : get_or known 0 0 ≡ 165) (two : 2 ≤ length known) where
    opened_at : drop at content ≡ open_gate ∷ rest
    opened_at = first ∙ ap (λ n. n ∷ rest) is_open

    more : 1 ≤ length rest
    more = omega (arith, long, two, is_known.within)

    module _ (five : 5 ≤ length known) (size len : ℕ) (size_is : size ≡ from_be_bytes w32 (get_or known 1 0 ∷ get_or known 2 0 ∷ get_or known 3 0 ∷ get_or known 4 0 ∷ [])) (len_is : length content ≡ len) where
      byte : (i j : ℕ) → j ≡ i + 1 → j < length known → get_or rest i 0 ≡ get_or known j 0
      byte i j is lt = get_or-drop (at + 1) content i 0 ∙ shows (at + 1 + i) j (omega (arith, is)) lt

      four_bytes : take 4 rest ≡ get_or known 1 0 ∷ get_or known 2 0 ∷ get_or known 3 0 ∷ get_or known 4 0 ∷ []
      four_bytes =
          let room : 4 ≤ length rest = omega (arith, five, is_known.within, long) in
          let b1 = byte 0 1 refl (omega (arith, five)) in
          let b2 = byte 1 2 refl (omega (arith, five)) in
          let b3 = byte 2 3 refl (omega (arith, five)) in
          let b4 = byte 3 4 refl (omega (arith, five)) in
          let list = four_list rest room in
          cc

      value : said_length rest ≡ size
      value = ap (λ (l : List ℕ). from_be_bytes w32 l) four_bytes ∙ sym size_is

      pub show_record : get_or known 1 0 < 256 → get_or known 2 0 < 256 → get_or known 3 0 < 256 → get_or known 4 0 < 256 → 1 ≤ size → size ≤ 2 ^ 24 → at + 6 + size ≤ len → IsGate content at (Record size)
      show_record p q r s a b d = (
        rest,
        record { is = opened_at; goes_on = filled rest more; whole_is = whole_by rest (omega (arith, five, is_known.within, long)) (omega (arith, value, a)) (omega (arith, value, b)) (omega (arith, value, d, long, len_is)) },
        value,
        be_bytes_4 (get_or known 1 0 ∷ get_or known 2 0 ∷ get_or known 3 0 ∷ get_or known 4 0 ∷ []) size refl (small_four _ _ _ _ p q r s) size_is ∙ sym four_bytes,
      )
