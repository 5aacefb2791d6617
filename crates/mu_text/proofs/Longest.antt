-- The token that is computed is the longest front that is spelled as one.
use Rattle.std.proofs.Common.{◌≡◌, ℕ, zero, suc, ◌+◌, ◌≤◌, ◌<◌, min, Bool, true, false, List, [], ◌∷◌, length, take, refl, ap, sym, ◌∙◌, subst, arith, inl, inr}
use Rattle.std.specs.Prelude.{◌&&◌, ◌==◌, nat_le, nat_lt, if◌then◌else◌}
use Rattle.std.specs.List.{list_all, prefix_len}
use Rattle.std.proofs.lemmas.Bool.{cases_Bool, and_parts, and_from, cond_both, leb-true, le-leb, eqb-true, leb-false, lt-ltb, not_from_false}
use Rattle.std.proofs.lemmas.Bool.Decides.{nat_tests}
use Rattle.std.proofs.lemmas.List.{length-take-le}
use Rattle.std.proofs.lemmas.List.Sums.{prefix_len-le-length}
use Rattle.mu_tree.specs.Names.{is_letter, is_digit, is_name_byte, is_segment, segments, are_segments}
use Rattle.mu_grammar.specs.declared.token.TokenSort.{TokenSort}
use Rattle.mu_grammar.specs.declared.token.TokenSort.TheVariants.{Name, Meta, Place, Symbol, Wrong}
use Rattle.mu_grammar.specs.Reading.{is_blank, starts_positive, is_symbol, is_meta, is_place, IsFront, IsFirstToken}
use Rattle.mu_grammar.specs.Tokens.{starts_letter, run_length, dots, name_sort, is_arrow, is_pair, is_single, first_token}
use Rattle.mu_text.proofs.Fronts.{prefix_len-yes, list_all-take_prefix, list_all-take_shorter, prefix_len-longest}
use Rattle.mu_grammar.proofs.Runs.{letter_is_name_byte, are_segments-letter, letter_first, is_rest-take_run, run_length-longest, run_length-le, length-segments}

-- how long a front that is spelled as a token of the sort can be
abbrev pub limit : TokenSort → ℕ → List ℕ → ℕ
limit Name byte bytes = if is_letter byte then suc (run_length bytes) else 0
limit Meta byte bytes = if byte == 63 && starts_letter bytes then suc (prefix_len is_name_byte bytes) else 0
limit Place byte bytes = if byte == 35 && starts_positive bytes then suc (min 9 (prefix_len is_digit bytes)) else 0
limit Symbol byte bytes = if is_arrow byte bytes then 3 else (if is_pair byte bytes then 2 else (if is_single byte then 1 else 0))
limit Wrong byte bytes = if is_letter byte then suc (run_length bytes) else 0

within_if : (test : Bool) (m n : ℕ) → test ≡ true → m ≤ n → m ≤ (if test then n else 0)
within_if test m n e h = let f : (if test then n else 0) ≡ n = ap (λ b. if b then n else 0) e in rw f h

segments_limit : (m byte : ℕ) (bytes : List ℕ) → m ≤ length bytes → are_segments (byte ∷ take m bytes) ≡ true → suc m ≤ (if is_letter byte then suc (run_length bytes) else 0)
segments_limit m byte bytes within h =
    let letter = letter_first byte (take m bytes) h in
    let shorter : m ≤ run_length bytes = run_length-longest m bytes within (sym (are_segments-letter byte (take m bytes) letter) ∙ h) in
    within_if (is_letter byte) (suc m) (suc (run_length bytes)) letter (omega arith)

segment_start : (m : ℕ) (text : List ℕ) → is_segment (take m text) ≡ true → (starts_letter text ≡ true) × (list_all is_name_byte (take m text) ≡ true)
segment_start zero text h = let e : false ≡ true = h in cc
segment_start (suc m) [] h = let e : false ≡ true = h in cc
segment_start (suc m) (byte ∷ bytes) h =
    let parts = and_parts (is_letter byte) (list_all is_name_byte (take m bytes)) h in (parts.0, and_from _ _ (letter_is_name_byte byte parts.0) parts.1)

meta_limit : (m byte : ℕ) (bytes : List ℕ) → m ≤ length bytes → is_meta (byte ∷ take m bytes) ≡ true → suc m ≤ limit Meta byte bytes
meta_limit m byte bytes within h =
    let parts = and_parts (byte == 63) (is_segment (take m bytes)) h in
    let start = segment_start m bytes parts.1 in
    let shorter : m ≤ prefix_len is_name_byte bytes = prefix_len-longest is_name_byte m bytes within start.1 in
    within_if (byte == 63 && starts_letter bytes) (suc m) (suc (prefix_len is_name_byte bytes)) (and_from _ _ parts.0 start.0) (omega arith)

positive_start : (m : ℕ) (text : List ℕ) → starts_positive (take m text) ≡ true → starts_positive text ≡ true
positive_start zero text h = let e : false ≡ true = h in cc
positive_start (suc m) [] h = h
positive_start (suc m) (byte ∷ bytes) h = h

place_limit : (m byte : ℕ) (bytes : List ℕ) → m ≤ length bytes → is_place (byte ∷ take m bytes) ≡ true → suc m ≤ limit Place byte bytes
place_limit m byte bytes within h =
    let ends = and_parts (byte == 35 && starts_positive (take m bytes) && list_all is_digit (take m bytes)) (nat_le (length (take m bytes)) 9) h in
    let digits = and_parts (byte == 35 && starts_positive (take m bytes)) (list_all is_digit (take m bytes)) ends.0 in
    let starts = and_parts (byte == 35) (starts_positive (take m bytes)) digits.0 in
    let shorter : m ≤ prefix_len is_digit bytes = prefix_len-longest is_digit m bytes within digits.1 in
    let few : length (take m bytes) ≤ 9 = leb-true _ _ ends.1 in
    let length_is : length (take m bytes) ≡ m = length-take-le m bytes within in
    within_if (byte == 35 && starts_positive bytes) (suc m) (suc (min 9 (prefix_len is_digit bytes))) (and_from _ _ starts.0 (positive_start m bytes starts.1)) (omega arith)

single_symbol : (byte : ℕ) → is_symbol (byte ∷ []) ≡ true → is_single byte ≡ true
single_symbol byte h = grind (arith, nat_tests)

pair_symbol : (byte second : ℕ) (bytes : List ℕ) → is_symbol (byte ∷ second ∷ []) ≡ true → is_pair byte (second ∷ bytes) ≡ true
pair_symbol byte second bytes h = grind (arith, nat_tests)

arrow_symbol : (byte second third : ℕ) (bytes : List ℕ) → is_symbol (byte ∷ second ∷ third ∷ []) ≡ true → is_arrow byte (second ∷ third ∷ bytes) ≡ true
arrow_symbol byte second third bytes h = grind (arith, nat_tests)

no_symbol : (byte second third fourth : ℕ) (bytes : List ℕ) → is_symbol (byte ∷ second ∷ third ∷ fourth ∷ bytes) ≡ true → ⊥
no_symbol byte second third fourth bytes h = grind (arith, nat_tests)

-- the limit of a symbol, by which symbols the text begins with
limit_of : Bool → Bool → Bool → ℕ
limit_of arrow pair single = if arrow then 3 else (if pair then 2 else (if single then 1 else 0))

limit_one : (arrow pair single : Bool) → single ≡ true → 1 ≤ limit_of arrow pair single
unfolding limit_of
limit_one true pair single e = omega arith
limit_one false true single e = omega arith
limit_one false false true e = omega arith
limit_one false false false e = cc

limit_two : (arrow pair single : Bool) → pair ≡ true → 2 ≤ limit_of arrow pair single
unfolding limit_of
limit_two true pair single e = omega arith
limit_two false true single e = omega arith
limit_two false false single e = cc

limit_three : (arrow pair single : Bool) → arrow ≡ true → 3 ≤ limit_of arrow pair single
unfolding limit_of
limit_three true pair single e = omega arith
limit_three false pair single e = cc

symbol_limit : (m byte : ℕ) (bytes : List ℕ) → m ≤ length bytes → is_symbol (byte ∷ take m bytes) ≡ true → suc m ≤ limit_of (is_arrow byte bytes) (is_pair byte bytes) (is_single byte)
symbol_limit zero byte bytes within h = limit_one (is_arrow byte bytes) (is_pair byte bytes) (is_single byte) (single_symbol byte h)
symbol_limit (suc m) byte [] within h = absurd (omega arith)
symbol_limit (suc zero) byte (second ∷ bytes) within h = limit_two (is_arrow byte (second ∷ bytes)) (is_pair byte (second ∷ bytes)) (is_single byte) (pair_symbol byte second bytes h)
symbol_limit (suc (suc m)) byte (second ∷ []) within h = absurd (omega arith)
symbol_limit (suc (suc zero)) byte (second ∷ third ∷ bytes) within h =
    limit_three (is_arrow byte (second ∷ third ∷ bytes)) (is_pair byte (second ∷ third ∷ bytes)) (is_single byte) (arrow_symbol byte second third bytes h)
symbol_limit (suc (suc (suc m))) byte (second ∷ third ∷ []) within h = absurd (omega arith)
symbol_limit (suc (suc (suc m))) byte (second ∷ third ∷ fourth ∷ bytes) within h = absurd (no_symbol byte second third fourth (take m bytes) h)

-- no front that is spelled as a token of the sort is longer
pub limit_holds : (sort : TokenSort) (m byte : ℕ) (bytes : List ℕ) → IsFront sort m (byte ∷ bytes) → m ≤ limit sort byte bytes
limit_holds sort zero byte bytes front = omega arith
limit_holds Name (suc m) byte bytes front =
    segments_limit m byte bytes (let w = front.within in omega arith) (and_parts (are_segments (byte ∷ take m bytes)) (nat_le (length (segments (byte ∷ take m bytes))) 3) front.spelled).0
limit_holds Meta (suc m) byte bytes front = meta_limit m byte bytes (let w = front.within in omega arith) front.spelled
limit_holds Place (suc m) byte bytes front = place_limit m byte bytes (let w = front.within in omega arith) front.spelled
limit_holds Symbol (suc m) byte bytes front = unfold limit_of in symbol_limit m byte bytes (let w = front.within in omega arith) front.spelled
limit_holds Wrong (suc m) byte bytes front =
    segments_limit m byte bytes (let w = front.within in omega arith) (and_parts (are_segments (byte ∷ take m bytes)) (nat_lt 3 (length (segments (byte ∷ take m bytes)))) front.spelled).0

if_le : (test : Bool) (n k : ℕ) → n ≤ k → (if test then n else 0) ≤ k
if_le true n k h = h
if_le false n k h = omega arith

if_none : (test : Bool) (n k : ℕ) → test ≡ false → (if test then n else 0) ≤ k
if_none test n k e = let f : (if test then n else 0) ≡ 0 = ap (λ b. if b then n else 0) e in rw f (omega arith)

and_none : (a b : Bool) → a ≡ false → (a && b) ≡ false
and_none a b e = ap (λ v. v && b) e

limit_none : (arrow pair single : Bool) (k : ℕ) → arrow ≡ false → pair ≡ false → single ≡ false → limit_of arrow pair single ≤ k
unfolding limit_of
limit_none true pair single k a p s = cc
limit_none false true single k a p s = cc
limit_none false false true k a p s = cc
limit_none false false false k a p s = omega arith

limit_pair : (arrow pair single : Bool) → arrow ≡ false → limit_of arrow pair single ≤ 2
unfolding limit_of
limit_pair true pair single a = cc
limit_pair false true single a = omega arith
limit_pair false false true a = omega arith
limit_pair false false false a = omega arith

limit_single : (arrow pair single : Bool) → arrow ≡ false → pair ≡ false → limit_of arrow pair single ≤ 1
unfolding limit_of
limit_single true pair single a p = cc
limit_single false true single a p = cc
limit_single false false true a p = omega arith
limit_single false false false a p = omega arith

limit_any : (arrow pair single : Bool) → limit_of arrow pair single ≤ 3
unfolding limit_of
limit_any true pair single = omega arith
limit_any false true single = omega arith
limit_any false false true = omega arith
limit_any false false false = omega arith

letter_begins : (byte : ℕ) (bytes : List ℕ) → is_letter byte ≡ true → ((byte == 63) ≡ false) × ((byte == 35) ≡ false) × (is_arrow byte bytes ≡ false) × (is_pair byte bytes ≡ false) × (is_single byte ≡ false)
letter_begins byte bytes e = (grind (arith, nat_tests), grind (arith, nat_tests), grind (arith, nat_tests), grind (arith, nat_tests), grind (arith, nat_tests))

meta_begins : (byte : ℕ) (bytes : List ℕ) → byte ≡ 63 → ((byte == 35) ≡ false) × (is_arrow byte bytes ≡ false) × (is_pair byte bytes ≡ false) × (is_single byte ≡ false)
meta_begins byte bytes e =
    (ap (λ b. b == 35) e, ap (λ b. is_arrow b bytes) e, ap (λ b. is_pair b bytes) e, ap is_single e)

place_begins : (byte : ℕ) (bytes : List ℕ) → byte ≡ 35 → (is_arrow byte bytes ≡ false) × (is_pair byte bytes ≡ false) × (is_single byte ≡ false)
place_begins byte bytes e = (ap (λ b. is_arrow b bytes) e, ap (λ b. is_pair b bytes) e, ap is_single e)

positive_is_digit : (byte : ℕ) → (nat_le 49 byte && nat_le byte 57) ≡ true → is_digit byte ≡ true
positive_is_digit byte e = grind (arith, nat_tests)

symbol_single : (byte : ℕ) → is_single byte ≡ true → is_symbol (byte ∷ []) ≡ true
symbol_single byte e = grind (arith, nat_tests)

symbol_pair : (byte second : ℕ) (bytes : List ℕ) → is_pair byte (second ∷ bytes) ≡ true → is_symbol (byte ∷ second ∷ []) ≡ true
symbol_pair byte second bytes e = grind (arith, nat_tests)

symbol_arrow : (byte second third : ℕ) (bytes : List ℕ) → is_arrow byte (second ∷ third ∷ bytes) ≡ true → is_symbol (byte ∷ second ∷ third ∷ []) ≡ true
symbol_arrow byte second third bytes e = grind (arith, nat_tests)

-- no token is spelled by nothing
pub empty_front : (sort : TokenSort) (m : ℕ) (text : List ℕ) → m ≤ 0 → IsFront sort m text → ⊥
empty_front Name zero text h front = let e : false ≡ true = front.spelled in cc
empty_front Meta zero text h front = let e : false ≡ true = front.spelled in cc
empty_front Place zero text h front = let e : false ≡ true = front.spelled in cc
empty_front Symbol zero text h front = let e : false ≡ true = front.spelled in cc
empty_front Wrong zero text h front = let e : false ≡ true = front.spelled in cc
empty_front sort (suc m) text h front = omega arith

-- a front as long as each sort's limit is the longest
longest_front : (sort : TokenSort) (n byte : ℕ) (bytes : List ℕ) → IsFront sort (suc n) (byte ∷ bytes) → ((other : TokenSort) → limit other byte bytes ≤ suc n) → IsFirstToken sort (suc n) (byte ∷ bytes)
longest_front sort n byte bytes front limits =
    inl (record { front = front; longest = λ other m f. let a : m ≤ limit other byte bytes = limit_holds other m byte bytes f in let b : limit other byte bytes ≤ suc n = limits other in omega arith })

letter_limits : (byte : ℕ) (bytes : List ℕ) → is_letter byte ≡ true → (other : TokenSort) → limit other byte bytes ≤ suc (run_length bytes)
letter_limits byte bytes e Name = if_le (is_letter byte) (suc (run_length bytes)) (suc (run_length bytes)) (omega arith)
letter_limits byte bytes e Wrong = if_le (is_letter byte) (suc (run_length bytes)) (suc (run_length bytes)) (omega arith)
letter_limits byte bytes e Meta = if_none (byte == 63 && starts_letter bytes) (suc (prefix_len is_name_byte bytes)) (suc (run_length bytes)) (and_none (byte == 63) (starts_letter bytes) (letter_begins byte bytes e).0)
letter_limits byte bytes e Place =
    if_none (byte == 35 && starts_positive bytes) (suc (min 9 (prefix_len is_digit bytes))) (suc (run_length bytes)) (and_none (byte == 35) (starts_positive bytes) (letter_begins byte bytes e).1)
letter_limits byte bytes e Symbol =
    let others = letter_begins byte bytes e in unfold limit_of in limit_none (is_arrow byte bytes) (is_pair byte bytes) (is_single byte) (suc (run_length bytes)) others.2 others.3 others.4

meta_limits : (byte : ℕ) (bytes : List ℕ) → is_letter byte ≡ false → byte ≡ 63 → (other : TokenSort) → limit other byte bytes ≤ suc (prefix_len is_name_byte bytes)
meta_limits byte bytes l e Name = if_none (is_letter byte) (suc (run_length bytes)) (suc (prefix_len is_name_byte bytes)) l
meta_limits byte bytes l e Wrong = if_none (is_letter byte) (suc (run_length bytes)) (suc (prefix_len is_name_byte bytes)) l
meta_limits byte bytes l e Meta = if_le (byte == 63 && starts_letter bytes) (suc (prefix_len is_name_byte bytes)) (suc (prefix_len is_name_byte bytes)) (omega arith)
meta_limits byte bytes l e Place =
    if_none (byte == 35 && starts_positive bytes) (suc (min 9 (prefix_len is_digit bytes))) (suc (prefix_len is_name_byte bytes)) (and_none (byte == 35) (starts_positive bytes) (meta_begins byte bytes e).0)
meta_limits byte bytes l e Symbol =
    let others = meta_begins byte bytes e in unfold limit_of in limit_none (is_arrow byte bytes) (is_pair byte bytes) (is_single byte) (suc (prefix_len is_name_byte bytes)) others.1 others.2 others.3

-- the limits where no letter, metavariable or place begins
symbol_limits : (byte n : ℕ) (bytes : List ℕ) → is_letter byte ≡ false → (byte == 63 && starts_letter bytes) ≡ false → (byte == 35 && starts_positive bytes) ≡ false → limit Symbol byte bytes ≤ n → (other : TokenSort) → limit other byte bytes ≤ n
symbol_limits byte n bytes l m p s Name = if_none (is_letter byte) (suc (run_length bytes)) n l
symbol_limits byte n bytes l m p s Wrong = if_none (is_letter byte) (suc (run_length bytes)) n l
symbol_limits byte n bytes l m p s Meta = if_none (byte == 63 && starts_letter bytes) (suc (prefix_len is_name_byte bytes)) n m
symbol_limits byte n bytes l m p s Place = if_none (byte == 35 && starts_positive bytes) (suc (min 9 (prefix_len is_digit bytes))) n p
symbol_limits byte n bytes l m p s Symbol = s

place_limits : (byte : ℕ) (bytes : List ℕ) → is_letter byte ≡ false → (byte == 63 && starts_letter bytes) ≡ false → byte ≡ 35 → (other : TokenSort) → limit other byte bytes ≤ suc (min 9 (prefix_len is_digit bytes))
place_limits byte bytes l m e Name = if_none (is_letter byte) (suc (run_length bytes)) (suc (min 9 (prefix_len is_digit bytes))) l
place_limits byte bytes l m e Wrong = if_none (is_letter byte) (suc (run_length bytes)) (suc (min 9 (prefix_len is_digit bytes))) l
place_limits byte bytes l m e Meta = if_none (byte == 63 && starts_letter bytes) (suc (prefix_len is_name_byte bytes)) (suc (min 9 (prefix_len is_digit bytes))) m
place_limits byte bytes l m e Place =
    if_le (byte == 35 && starts_positive bytes) (suc (min 9 (prefix_len is_digit bytes))) (suc (min 9 (prefix_len is_digit bytes))) (omega arith)
place_limits byte bytes l m e Symbol =
    let others = place_begins byte bytes e in unfold limit_of in limit_none (is_arrow byte bytes) (is_pair byte bytes) (is_single byte) (suc (min 9 (prefix_len is_digit bytes))) others.0 others.1 others.2

name_front : (byte : ℕ) (bytes : List ℕ) → is_letter byte ≡ true → IsFront (name_sort (dots (take (run_length bytes) bytes))) (suc (run_length bytes)) (byte ∷ bytes)
name_front byte bytes e =
    let n = run_length bytes in
    let text = take n bytes in
    let spelled : are_segments (byte ∷ text) ≡ true = are_segments-letter byte text e ∙ is_rest-take_run bytes in
    let count : length (segments (byte ∷ text)) ≡ dots text + 1 = length-segments byte text e in
    let within : suc n ≤ length (byte ∷ bytes) = (let h : n ≤ length bytes = run_length-le bytes in omega arith) in
    elim (cases_Bool (nat_le (dots text) 2)) [
      | inl few ↦
          let sort : name_sort (dots text) ≡ Name = ap (λ b. if b then Name else Wrong) few in
          let d : dots text ≤ 2 = leb-true (dots text) 2 few in
          subst (λ (s : TokenSort). IsFront s (suc n) (byte ∷ bytes)) (sym sort) (record { within = within; spelled = and_from _ _ spelled (le-leb (length (segments (byte ∷ text))) 3 (omega arith)) })
      | inr many ↦
          let sort : name_sort (dots text) ≡ Wrong = ap (λ b. if b then Name else Wrong) many in
          let d : 2 < dots text = leb-false (dots text) 2 many in
          subst (λ (s : TokenSort). IsFront s (suc n) (byte ∷ bytes)) (sym sort) (record { within = within; spelled = and_from _ _ spelled (lt-ltb 3 (length (segments (byte ∷ text))) (omega arith)) })
    ]

segment_of : (text : List ℕ) → starts_letter text ≡ true → is_segment (take (prefix_len is_name_byte text) text) ≡ true
segment_of [] h = let e : false ≡ true = h in cc
segment_of (byte ∷ bytes) h =
    let longer : prefix_len is_name_byte (byte ∷ bytes) ≡ suc (prefix_len is_name_byte bytes) = prefix_len-yes is_name_byte byte bytes (letter_is_name_byte byte h) in
    ap (λ k. is_segment (take k (byte ∷ bytes))) longer ∙ and_from _ _ h (list_all-take_prefix is_name_byte bytes)

meta_front : (byte : ℕ) (bytes : List ℕ) → (byte == 63) ≡ true → starts_letter bytes ≡ true → IsFront Meta (suc (prefix_len is_name_byte bytes)) (byte ∷ bytes)
meta_front byte bytes e h =
    record { within = (let w : prefix_len is_name_byte bytes ≤ length bytes = prefix_len-le-length is_name_byte bytes in omega arith); spelled = and_from _ _ e (segment_of bytes h) }

digit_first : (text : List ℕ) → starts_positive text ≡ true → 1 ≤ prefix_len is_digit text
digit_first [] h = let e : false ≡ true = h in cc
digit_first (byte ∷ bytes) h = rw (prefix_len-yes is_digit byte bytes (positive_is_digit byte h)) (omega arith)

positive_front : (n : ℕ) (text : List ℕ) → 1 ≤ n → starts_positive text ≡ true → starts_positive (take n text) ≡ true
positive_front zero text h s = absurd (omega arith)
positive_front (suc n) [] h s = s
positive_front (suc n) (byte ∷ bytes) h s = s

place_front : (byte : ℕ) (bytes : List ℕ) → (byte == 35) ≡ true → starts_positive bytes ≡ true → IsFront Place (suc (min 9 (prefix_len is_digit bytes))) (byte ∷ bytes)
place_front byte bytes e h =
    let n = min 9 (prefix_len is_digit bytes) in
    let all : prefix_len is_digit bytes ≤ length bytes = prefix_len-le-length is_digit bytes in
    let some : 1 ≤ prefix_len is_digit bytes = digit_first bytes h in
    let size : length (take n bytes) ≡ n = length-take-le n bytes (omega arith) in
    let digits : list_all is_digit (take n bytes) ≡ true = list_all-take_shorter is_digit n bytes (omega arith) in
    record {
      within = omega arith;
      spelled = and_from _ _ (and_from _ _ (and_from _ _ e (positive_front n bytes (omega arith) h)) digits) (le-leb (length (take n bytes)) 9 (omega arith));
    }

arrow_front : (byte : ℕ) (bytes : List ℕ) → is_arrow byte bytes ≡ true → IsFront Symbol 3 (byte ∷ bytes)
arrow_front byte [] e = grind (arith, nat_tests)
arrow_front byte (second ∷ []) e = absurd (let f : ⊥ = grind (arith, nat_tests) in f)
arrow_front byte (second ∷ third ∷ bytes) e = record { within = omega arith; spelled = symbol_arrow byte second third bytes e }

pair_front : (byte : ℕ) (bytes : List ℕ) → is_pair byte bytes ≡ true → IsFront Symbol 2 (byte ∷ bytes)
pair_front byte [] e = absurd (let f : ⊥ = grind (arith, nat_tests) in f)
pair_front byte (second ∷ bytes) e = record { within = omega arith; spelled = symbol_pair byte second bytes e }

single_front : (byte : ℕ) (bytes : List ℕ) → is_single byte ≡ true → IsFront Symbol 1 (byte ∷ bytes)
single_front byte bytes e = record { within = omega arith; spelled = symbol_single byte e }

abbrev single_token : ℕ → TokenSort × ℕ
single_token byte = if is_single byte then (Symbol, 0) else (Wrong, 0)

abbrev pair_token : ℕ → List ℕ → TokenSort × ℕ
pair_token byte bytes = if is_pair byte bytes then (Symbol, 1) else single_token byte

abbrev arrow_token : ℕ → List ℕ → TokenSort × ℕ
arrow_token byte bytes = if is_arrow byte bytes then (Symbol, 2) else pair_token byte bytes

abbrev place_token : ℕ → List ℕ → TokenSort × ℕ
place_token byte bytes = if byte == 35 && starts_positive bytes then (Place, min 9 (prefix_len is_digit bytes)) else arrow_token byte bytes

abbrev meta_token : ℕ → List ℕ → TokenSort × ℕ
meta_token byte bytes = if byte == 63 && starts_letter bytes then (Meta, prefix_len is_name_byte bytes) else place_token byte bytes

stray : (byte : ℕ) (bytes : List ℕ) → is_blank byte ≡ false → ((other : TokenSort) → limit other byte bytes ≤ 0) → IsFirstToken Wrong 1 (byte ∷ bytes)
stray byte bytes visible limits =
    inr (record {
      wrong = refl;
      one = refl;
      visible = not_from_false (is_blank byte) visible;
      alone = λ other m f. let a : m ≤ limit other byte bytes = limit_holds other m byte bytes f in let b : limit other byte bytes ≤ 0 = limits other in empty_front other m (byte ∷ bytes) (omega arith) f;
    })

pub first_token_is : (byte : ℕ) (bytes : List ℕ) → is_blank byte ≡ false → IsFirstToken (first_token byte bytes).0 (suc (first_token byte bytes).1) (byte ∷ bytes)
unfolding first_token
first_token_is byte bytes visible =
    let P : TokenSort × ℕ → Type 0 = λ t. IsFirstToken t.0 (suc t.1) (byte ∷ bytes) in
    let S : ℕ = limit_of (is_arrow byte bytes) (is_pair byte bytes) (is_single byte) in
    cond_both (is_letter byte) (name_sort (dots (take (run_length bytes) bytes)), run_length bytes) (meta_token byte bytes) P (λ l. longest_front _ _ byte bytes (name_front byte bytes l) (letter_limits byte bytes l)) (λ l.
    cond_both (byte == 63 && starts_letter bytes) (Meta, prefix_len is_name_byte bytes) (place_token byte bytes) P (λ m. let parts = and_parts (byte == 63) (starts_letter bytes) m in
    longest_front _ _ byte bytes (meta_front byte bytes parts.0 parts.1) (meta_limits byte bytes l (eqb-true byte 63 parts.0))) (λ m.
    cond_both (byte == 35 && starts_positive bytes) (Place, min 9 (prefix_len is_digit bytes)) (arrow_token byte bytes) P (λ p. let parts = and_parts (byte == 35) (starts_positive bytes) p in
    longest_front _ _ byte bytes (place_front byte bytes parts.0 parts.1) (place_limits byte bytes l m (eqb-true byte 35 parts.0))) (λ p.
    cond_both (is_arrow byte bytes) (Symbol, 2) (pair_token byte bytes) P (λ a. longest_front _ _ byte bytes (arrow_front byte bytes a) (symbol_limits byte 3 bytes l m p (unfold limit_of in limit_any (is_arrow byte bytes) (is_pair byte bytes) (is_single byte)))) (λ a.
    cond_both (is_pair byte bytes) (Symbol, 1) (single_token byte) P (λ d. longest_front _ _ byte bytes (pair_front byte bytes d) (symbol_limits byte 2 bytes l m p (unfold limit_of in limit_pair (is_arrow byte bytes) (is_pair byte bytes) (is_single byte) a))) (λ d.
    cond_both (is_single byte) (Symbol, 0) (Wrong, 0) P (λ s. longest_front _ _ byte bytes (single_front byte bytes s) (symbol_limits byte 1 bytes l m p (unfold limit_of in limit_single (is_arrow byte bytes) (is_pair byte bytes) (is_single byte) a d)))
    (λ s. stray byte bytes visible (symbol_limits byte 0 bytes l m p (unfold limit_of in limit_none (is_arrow byte bytes) (is_pair byte bytes) (is_single byte) 0 a d s))))))))
