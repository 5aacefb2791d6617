-- The longest front of a text that is segments joined by dots.
use Rattle.std.proofs.Common.{◌≡◌, ℕ, zero, suc, ◌+◌, ◌≤◌, Bool, true, false, cond, List, [], ◌∷◌, length, take, refl, ap, sym, ◌∙◌, zero-add, arith, inl, inr}
use Rattle.std.specs.Prelude.{◌&&◌, ◌||◌, ◌==◌, if◌then◌else◌}
use Rattle.std.specs.List.{list_all, onto_first}
use Rattle.std.proofs.lemmas.Bool.{cases_Bool, and_parts, and_from, or_left, or_right, or_cases, both_ways}
use Rattle.std.proofs.lemmas.Bool.Decides.{nat_tests}
use Rattle.std.proofs.lemmas.List.Splits.{length-slice_split}
use Rattle.std.proofs.lemmas.List.Sums.{sum_by-cons}
use Rattle.mu_tree.specs.Names.{is_letter, is_name_byte, is_segment, segments, are_segments}
use Rattle.mu_grammar.specs.Tokens.{starts_letter, run_length, dots}

letter_is_no_dot : (byte : ℕ) → is_letter byte ≡ true → (byte == 46) ≡ false
letter_is_no_dot byte e = grind (arith, nat_tests)

pub letter_is_name_byte : (byte : ℕ) → is_letter byte ≡ true → is_name_byte byte ≡ true
letter_is_name_byte byte e = grind (arith, nat_tests)

dot_is_no_name_byte : (byte : ℕ) → (byte == 46) ≡ true → is_name_byte byte ≡ false
dot_is_no_name_byte byte e = grind (arith, nat_tests)

-- the parts of what follows a segment's first byte: the rest of the segment, and segments
abbrev are_rest : List (List ℕ) → Bool
are_rest [] = true
are_rest (part ∷ parts) = list_all is_name_byte part && list_all is_segment parts

-- the text can follow the first byte of segments joined by dots
abbrev pub is_rest : List ℕ → Bool
is_rest text = are_rest (segments text)

onto_letter : (byte : ℕ) (parts : List (List ℕ)) → is_letter byte ≡ true → list_all is_segment (onto_first byte parts) ≡ are_rest parts
onto_letter byte [] e = ap (λ b. (b && true) && true) e
onto_letter byte (part ∷ parts) e = ap (λ b. (b && list_all is_name_byte part) && list_all is_segment parts) e

segment_onto : (byte : ℕ) (parts : List (List ℕ)) → list_all is_segment (onto_first byte parts) ≡ true → is_letter byte ≡ true
segment_onto byte [] h = (and_parts (is_letter byte) true (and_parts (is_letter byte && true) true h).0).0
segment_onto byte (part ∷ parts) h = (and_parts (is_letter byte) (list_all is_name_byte part) (and_parts (is_letter byte && list_all is_name_byte part) (list_all is_segment parts) h).0).0

and_assoc : (a b c : Bool) → ((a && b) && c) ≡ (a && (b && c))
and_assoc true b c = refl
and_assoc false b c = refl

rest_onto : (byte : ℕ) (parts : List (List ℕ)) → are_rest (onto_first byte parts) ≡ (is_name_byte byte && are_rest parts)
rest_onto byte [] = and_assoc (is_name_byte byte) true true
rest_onto byte (part ∷ parts) = and_assoc (is_name_byte byte) (list_all is_name_byte part) (list_all is_segment parts)

pub are_segments-letter : (byte : ℕ) (bytes : List ℕ) → is_letter byte ≡ true → are_segments (byte ∷ bytes) ≡ is_rest bytes
are_segments-letter byte bytes e =
    ap (λ b. list_all is_segment (cond b ([] ∷ segments bytes) (onto_first byte (segments bytes)))) (letter_is_no_dot byte e) ∙ onto_letter byte (segments bytes) e

pub letter_first : (byte : ℕ) (bytes : List ℕ) → are_segments (byte ∷ bytes) ≡ true → is_letter byte ≡ true
letter_first byte bytes h =
    elim (cases_Bool (byte == 46)) [
      | inl e ↦ let h' : false ≡ true = sym (ap (λ b. list_all is_segment (cond b ([] ∷ segments bytes) (onto_first byte (segments bytes)))) e) ∙ h in cc
      | inr e ↦ segment_onto byte (segments bytes) (sym (ap (λ b. list_all is_segment (cond b ([] ∷ segments bytes) (onto_first byte (segments bytes)))) e) ∙ h)
    ]

is_rest-dot : (byte : ℕ) (bytes : List ℕ) → (byte == 46) ≡ true → is_rest (byte ∷ bytes) ≡ are_segments bytes
is_rest-dot byte bytes e = ap (λ b. are_rest (cond b ([] ∷ segments bytes) (onto_first byte (segments bytes)))) e

is_rest-byte : (byte : ℕ) (bytes : List ℕ) → (byte == 46) ≡ false → is_rest (byte ∷ bytes) ≡ (is_name_byte byte && is_rest bytes)
is_rest-byte byte bytes e = ap (λ b. are_rest (cond b ([] ∷ segments bytes) (onto_first byte (segments bytes)))) e ∙ rest_onto byte (segments bytes)

run_length-yes : (byte : ℕ) (bytes : List ℕ) → (is_name_byte byte || (byte == 46 && starts_letter bytes)) ≡ true → run_length (byte ∷ bytes) ≡ suc (run_length bytes)
run_length-yes byte bytes e = ap (λ b. if b then suc (run_length bytes) else 0) e

-- what follows a dot of a name is segments again
after_dot : (text : List ℕ) → starts_letter text ≡ true → is_rest (take (run_length text) text) ≡ true → are_segments (take (run_length text) text) ≡ true
after_dot [] starts h = let e : false ≡ true = starts in cc
after_dot (byte ∷ bytes) starts h =
    let n = run_length bytes in
    let name_byte : is_name_byte byte ≡ true = letter_is_name_byte byte starts in
    let longer : run_length (byte ∷ bytes) ≡ suc n = run_length-yes byte bytes (or_left _ _ name_byte) in
    let h' : is_rest (byte ∷ take n bytes) ≡ true = ap (λ k. is_rest (take k (byte ∷ bytes))) (sym longer) ∙ h in
    let h'' : (is_name_byte byte && is_rest (take n bytes)) ≡ true = sym (is_rest-byte byte (take n bytes) (letter_is_no_dot byte starts)) ∙ h' in
    ap (λ k. are_segments (take k (byte ∷ bytes))) longer ∙ are_segments-letter byte (take n bytes) starts ∙ (and_parts _ _ h'').1

pub is_rest-take_run : (text : List ℕ) → is_rest (take (run_length text) text) ≡ true
is_rest-take_run [] = refl
is_rest-take_run (byte ∷ bytes) =
    let n = run_length bytes in
    elim (cases_Bool (is_name_byte byte || (byte == 46 && starts_letter bytes))) [
      | inr e ↦ let none : run_length (byte ∷ bytes) ≡ 0 = ap (λ b. if b then suc n else 0) e in ap (λ k. is_rest (take k (byte ∷ bytes))) none
      | inl e ↦ ap (λ k. is_rest (take k (byte ∷ bytes))) (run_length-yes byte bytes e) ∙ elim (cases_Bool (byte == 46)) [
        | inl dot ↦ is_rest-dot byte (take n bytes) dot ∙ after_dot bytes (elim (or_cases _ _ e) [
          | inl name_byte ↦ absurd (both_ways (is_name_byte byte) (dot_is_no_name_byte byte dot) name_byte)
          | inr joint ↦ (and_parts _ _ joint).1
        ]) (is_rest-take_run bytes)
        | inr other ↦ is_rest-byte byte (take n bytes) other ∙ and_from _ _ (elim (or_cases _ _ e) [
          | inl name_byte ↦ name_byte
          | inr joint ↦ absurd (both_ways (byte == 46) other (and_parts _ _ joint).0)
        ]) (is_rest-take_run bytes)
      ]
    ]

segments_start : (m : ℕ) (text : List ℕ) → are_segments (take m text) ≡ true → (starts_letter text ≡ true) × (is_rest (take m text) ≡ true)
segments_start zero text h = let e : false ≡ true = h in cc
segments_start (suc m) [] h = let e : false ≡ true = h in cc
segments_start (suc m) (byte ∷ bytes) h =
    let letter = letter_first byte (take m bytes) h in
    (letter, is_rest-byte byte (take m bytes) (letter_is_no_dot byte letter) ∙ and_from _ _ (letter_is_name_byte byte letter) (sym (are_segments-letter byte (take m bytes) letter) ∙ h))

pub run_length-longest : (m : ℕ) (text : List ℕ) → m ≤ length text → is_rest (take m text) ≡ true → m ≤ run_length text
run_length-longest zero text within h = omega arith
run_length-longest (suc m) [] within h = absurd (omega arith)
run_length-longest (suc m) (byte ∷ bytes) within h =
    elim (cases_Bool (byte == 46)) [
      | inl dot ↦
          let start = segments_start m bytes (sym (is_rest-dot byte (take m bytes) dot) ∙ h) in
          let shorter : m ≤ run_length bytes = run_length-longest m bytes (omega arith) start.1 in
          rw (run_length-yes byte bytes (or_right (is_name_byte byte) (byte == 46 && starts_letter bytes) (and_from _ _ dot start.0))) (omega arith)
      | inr other ↦
          let parts = and_parts _ _ (sym (is_rest-byte byte (take m bytes) other) ∙ h) in
          let shorter : m ≤ run_length bytes = run_length-longest m bytes (omega arith) parts.1 in
          rw (run_length-yes byte bytes (or_left (is_name_byte byte) (byte == 46 && starts_letter bytes) parts.0)) (omega arith)
    ]

pub run_length-le : (text : List ℕ) → run_length text ≤ length text
run_length-le [] = omega arith
run_length-le (byte ∷ bytes) =
    let shorter : run_length bytes ≤ length bytes = run_length-le bytes in
    elim (cases_Bool (is_name_byte byte || (byte == 46 && starts_letter bytes))) [
      | inl e ↦ rw (run_length-yes byte bytes e) (omega arith)
      | inr e ↦ let none : run_length (byte ∷ bytes) ≡ 0 = ap (λ b. if b then suc (run_length bytes) else 0) e in rw none (omega arith)
    ]

-- a name has one segment more than dots
pub length-segments : (byte : ℕ) (bytes : List ℕ) → is_letter byte ≡ true → length (segments (byte ∷ bytes)) ≡ dots bytes + 1
length-segments byte bytes e =
    length-slice_split (λ b. b == 46) (byte ∷ bytes) ∙ ap (λ n. n + 1) (sum_by-cons (λ b. cond (b == 46) 1 0) byte bytes ∙ (ap (λ b. cond b 1 0 + dots bytes) (letter_is_no_dot byte e) ∙ zero-add (dots bytes)))
