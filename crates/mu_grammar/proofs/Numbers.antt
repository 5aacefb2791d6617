-- Decimal numbers are read back, and what digits spell is a number with nine digits at most.
use Rattle.std.proofs.Common.{◌≡◌, ℕ, ◌+◌, ◌-◌, ◌*◌, ◌/◌, ◌%◌, ◌^◌, ◌<◌, ◌≤◌, Bool, true, false, List, [], ◌∷◌, ◌++◌, Some, None, cond, length, refl, ap, ◌∙◌, arith}
use Rattle.std.specs.Prelude.{nat_le, ◌&&◌, if◌then◌else◌}
use Rattle.std.specs.List.{list_all, prefix_len}
use Rattle.std.specs.Fmt.{decimal}
use Rattle.std.proofs.lemmas.Bool.{and_parts, and_from}
use Rattle.std.proofs.lemmas.Bool.Decides.{nat_tests}
use Rattle.std.proofs.lemmas.Fmt.{decimal_by_steps, length-decimal-le}
use Rattle.std.proofs.lemmas.List.Folds.{list_all-append}
use Rattle.mu_tree.specs.Names.{is_digit}
use Rattle.mu_grammar.specs.Reading.{starts_positive}
use Rattle.mu_grammar.specs.SimpleParts.{is_number, number_from, number_of}
use Rattle.mu_grammar.proofs.Digits.{Room, room_first, room_next}

number_from-push : (n : ℕ) (digits : List ℕ) (d : ℕ) → number_from n (digits ++ ((48 + d) ∷ [])) ≡ number_from n digits * 10 + d
number_from-push n [] d = omega arith
number_from-push n (c ∷ cs) d = number_from-push (n * 10 + (c - 48)) cs d

-- the digits of a number, of which there is one at least, and the first is 0 for 0 alone
record IsDecimal (n : ℕ) (digits : List ℕ) : Type 0 where
  value : number_from 0 digits ≡ n
  all : list_all is_digit digits ≡ true
  some : 0 < length digits
  positive : 0 < n → starts_positive digits ≡ true

digit_is : (d : ℕ) → d < 10 → is_digit (48 + d) ≡ true
digit_is d h = grind (arith, nat_tests)

digit_positive : (d : ℕ) → 0 < d → d < 10 → (nat_le 49 (48 + d) && nat_le (48 + d) 57) ≡ true
digit_positive d h i = grind (arith, nat_tests)

starts_same : (digits more : List ℕ) → 0 < length digits → starts_positive digits ≡ true → starts_positive (digits ++ more) ≡ true
starts_same [] more h e = absurd (omega arith)
starts_same (c ∷ cs) more h e = e

one_digit : (n : ℕ) → n < 10 → IsDecimal n ((48 + n) ∷ [])
one_digit n h = record { value = omega arith; all = and_from (is_digit (48 + n)) true (digit_is n h) refl; some = omega arith; positive = λ p. digit_positive n p h }

more_digits : (n : ℕ) (digits : List ℕ) → 10 ≤ n → IsDecimal (n / 10) digits → IsDecimal n (digits ++ ((48 + n % 10) ∷ []))
more_digits n digits h i =
    let last : n % 10 < 10 = omega arith in
    record {
      value = number_from-push 0 digits (n % 10) ∙ (ap (λ v. v * 10 + n % 10) i.value ∙ omega arith);
      all = list_all-append is_digit digits ((48 + n % 10) ∷ []) ∙ and_from (list_all is_digit digits) (is_digit (48 + n % 10) && true) i.all (and_from (is_digit (48 + n % 10)) true (digit_is (n % 10) last) refl);
      some = grind (arith);
      positive = λ p. starts_same digits ((48 + n % 10) ∷ []) i.some (i.positive (omega arith));
    }

is_decimal : (n : ℕ) → n < 2 ^ 64 → IsDecimal n (decimal n)
is_decimal = decimal_by_steps IsDecimal one_digit more_digits

number_decimal : (n : ℕ) → 0 < n → n ≤ 999999999 → is_number (decimal n) ≡ true
number_decimal n some small =
    let is : IsDecimal n (decimal n) = is_decimal n (omega arith) in
    let size : length (decimal n) ≤ 9 = length-decimal-le 9 n (omega arith) (omega arith) (omega arith) in
    and_from (starts_positive (decimal n) && list_all is_digit (decimal n)) (nat_le (length (decimal n)) 9) (and_from (starts_positive (decimal n)) (list_all is_digit (decimal n)) (is.positive some) is.all) (grind (arith, nat_tests))

-- what is spelled as a decimal number is read as it
pub number_of-decimal : (n : ℕ) → 0 < n → n ≤ 999999999 → number_of (decimal n) ≡ Some n
number_of-decimal n some small =
    let is : IsDecimal n (decimal n) = is_decimal n (omega arith) in
    ap (λ b. if b then Some (number_from 0 (decimal n)) else None) (number_decimal n some small) ∙ ap (λ v. Some v) is.value

spelled_within : (value : ℕ) (digits : List ℕ) → Room value digits → number_from value digits ≤ 999999999
spelled_within value [] room = room.room
spelled_within value (digit ∷ digits) room = spelled_within (value * 10 + (digit - 48)) digits (room_next value digit digits room).room

spelled_above : (value : ℕ) (digits : List ℕ) → value ≤ number_from value digits
spelled_above value [] = omega arith
spelled_above value (digit ∷ digits) = let above : value * 10 + (digit - 48) ≤ number_from (value * 10 + (digit - 48)) digits = spelled_above (value * 10 + (digit - 48)) digits in omega arith

spelled_some : (digits : List ℕ) → starts_positive digits ≡ true → 0 < number_from 0 digits
spelled_some [] e = let no : false ≡ true = e in cc
spelled_some (digit ∷ digits) e =
    let least : 49 ≤ digit = grind (arith, nat_tests) in
    let above : 0 * 10 + (digit - 48) ≤ number_from (0 * 10 + (digit - 48)) digits = spelled_above (0 * 10 + (digit - 48)) digits in
    omega arith

-- a number that can be a place's
pub record IsPlaceNumber (n : ℕ) : Type 0 where
  pub some : 0 < n
  pub small : n ≤ 999999999

numbered : (text : List ℕ) (n : ℕ) (test : Bool) → is_number text ≡ test → (if test then Some (number_from 0 text) else None) ≡ Some n → IsPlaceNumber n
numbered text n false is e = cc
numbered text n true is e =
    let same : number_from 0 text ≡ n = cc in
    let within : number_from 0 text ≤ 999999999 = spelled_within 0 text (room_first text is) in
    let digits = and_parts (starts_positive text && list_all is_digit text) (nat_le (length text) 9) is in
    let above : 0 < number_from 0 text = spelled_some text (and_parts (starts_positive text) (list_all is_digit text) digits.0).0 in
    record { some = omega arith; small = omega arith }

-- what is read as a number is from one to nine digits long
pub number_of-bounds : (text : List ℕ) (n : ℕ) → number_of text ≡ Some n → IsPlaceNumber n
number_of-bounds text n e = numbered text n (is_number text) refl e

pub full_prefix : (test : ℕ → Bool) (text : List ℕ) → list_all test text ≡ true → prefix_len test text ≡ length text
full_prefix test [] e = refl
full_prefix test (byte ∷ bytes) e =
    let parts = and_parts (test byte) (list_all test bytes) e in
    ap (λ b. cond b (1 + prefix_len test bytes) 0) parts.0 ∙ (ap (λ k. 1 + k) (full_prefix test bytes parts.1) ∙ omega arith)

-- the bytes of a place, behind its first
pub record IsPlaceText (text : List ℕ) : Type 0 where
  pub starts : starts_positive text ≡ true
  pub digits : prefix_len is_digit text ≡ length text
  pub size : length text ≤ 9

pub place_text : (text : List ℕ) → is_number text ≡ true → IsPlaceText text
place_text text is =
    let parts = and_parts (starts_positive text && list_all is_digit text) (nat_le (length text) 9) is in
    let front = and_parts (starts_positive text) (list_all is_digit text) parts.0 in
    record { starts = front.0; digits = full_prefix is_digit text front.1; size = grind (arith, nat_tests) }

pub place_text-decimal : (n : ℕ) → IsPlaceNumber n → IsPlaceText (decimal n)
place_text-decimal n is = place_text (decimal n) (number_decimal n is.some is.small)
