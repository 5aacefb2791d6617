-- A line is read as one list of tokens alone.
use Rattle.std.proofs.Common.{◌≡◌, ℕ, zero, suc, ◌+◌, ◌-◌, ◌≤◌, ◌<◌, true, false, cond, List, [], ◌∷◌, length, take, drop, refl, ap, sym, ◌∙◌, subst, arith, inl, inr}
use Rattle.std.specs.Prelude.{not, ◌&&◌, ◌==◌, nat_le, nat_lt, if◌then◌else◌}
use Rattle.std.specs.List.{list_all, prefix_len}
use Rattle.std.proofs.lemmas.Bool.{and_parts, leb-true, le-leb, lt-leb, ltb-true, not-true, both_ways, not_from_false}
use Rattle.std.proofs.lemmas.Bool.Decides.{nat_tests}
use Rattle.std.proofs.lemmas.List.{drop-drop}
use Rattle.mu_tree.specs.Names.{is_letter, is_digit, is_segment, segments, are_segments}
use Rattle.mu_grammar.specs.declared.token.TokenSort.{TokenSort}
use Rattle.mu_grammar.specs.declared.token.TokenSort.TheVariants.{Name, Meta, Place, Symbol, Wrong}
use Rattle.mu_grammar.specs.declared.token.Token.{Token}
use Rattle.mu_grammar.specs.Reading.{is_blank, starts_visible, starts_positive, is_symbol, is_place, is_spelled, IsFirstToken, AreTokensFrom, AreTokens}
use Rattle.mu_grammar.specs.Tokens.{dots, name_sort, tokens}
use Rattle.mu_grammar.proofs.Runs.{letter_first, length-segments}
use Rattle.mu_text.proofs.Facts.{front_some}
use Rattle.mu_text.proofs.Fronts.{prefix_len-yes}
use Rattle.mu_text.proofs.Kept.{tokens_are}

-- the sort of a text that is spelled as a token
abbrev sort_of : List ℕ → TokenSort
sort_of [] = Wrong
sort_of (byte ∷ bytes) = if is_letter byte then name_sort (dots bytes) else (if byte == 63 then Meta else (if byte == 35 then Place else Symbol))

letter_sort : (byte : ℕ) (bytes : List ℕ) → is_letter byte ≡ true → sort_of (byte ∷ bytes) ≡ name_sort (dots bytes)
letter_sort byte bytes e = ap (λ b. if b then name_sort (dots bytes) else (if byte == 63 then Meta else (if byte == 35 then Place else Symbol))) e

symbol_starts : (byte : ℕ) (bytes : List ℕ) → is_symbol (byte ∷ bytes) ≡ true → (is_letter byte ≡ false) × ((byte == 63) ≡ false) × ((byte == 35) ≡ false) × (is_blank byte ≡ false)
symbol_starts byte bytes h = (grind (arith, nat_tests), grind (arith, nat_tests), grind (arith, nat_tests), grind (arith, nat_tests))

symbol_sort : (byte : ℕ) (bytes : List ℕ) → is_symbol (byte ∷ bytes) ≡ true → sort_of (byte ∷ bytes) ≡ Symbol
symbol_sort byte bytes h =
    let starts = symbol_starts byte bytes h in
    ap (λ b. if b then name_sort (dots bytes) else (if byte == 63 then Meta else (if byte == 35 then Place else Symbol))) starts.0
    ∙ (ap (λ b. if b then Meta else (if byte == 35 then Place else Symbol)) starts.1 ∙ ap (λ b. if b then Place else Symbol) starts.2)

meta_sort : (byte : ℕ) (bytes : List ℕ) → (byte == 63) ≡ true → sort_of (byte ∷ bytes) ≡ Meta
meta_sort byte bytes e =
    let other : is_letter byte ≡ false = grind (arith, nat_tests) in
    ap (λ b. if b then name_sort (dots bytes) else (if byte == 63 then Meta else (if byte == 35 then Place else Symbol))) other ∙ ap (λ b. if b then Meta else (if byte == 35 then Place else Symbol)) e

place_sort : (byte : ℕ) (bytes : List ℕ) → (byte == 35) ≡ true → sort_of (byte ∷ bytes) ≡ Place
place_sort byte bytes e =
    let other : is_letter byte ≡ false = grind (arith, nat_tests) in
    let no_meta : (byte == 63) ≡ false = grind (arith, nat_tests) in
    ap (λ b. if b then name_sort (dots bytes) else (if byte == 63 then Meta else (if byte == 35 then Place else Symbol))) other
    ∙ (ap (λ b. if b then Meta else (if byte == 35 then Place else Symbol)) no_meta ∙ ap (λ b. if b then Place else Symbol) e)

letter_visible : (byte : ℕ) → is_letter byte ≡ true → not (is_blank byte) ≡ true
letter_visible byte e = not_from_false (is_blank byte) (grind (arith, nat_tests))

place_first : (byte : ℕ) (bytes : List ℕ) → is_place (byte ∷ bytes) ≡ true → (byte == 35) ≡ true
place_first byte bytes h =
    let ends = and_parts (byte == 35 && starts_positive bytes && list_all is_digit bytes) (nat_le (length bytes) 9) h in
    let digits = and_parts (byte == 35 && starts_positive bytes) (list_all is_digit bytes) ends.0 in
    (and_parts (byte == 35) (starts_positive bytes) digits.0).0

name_is : (n : ℕ) → n + 1 ≤ 3 → name_sort n ≡ Name
name_is n h = ap (λ b. if b then Name else Wrong) (le-leb n 2 (omega arith))

overlong_is : (n : ℕ) → 3 < n + 1 → name_sort n ≡ Wrong
overlong_is n h = ap (λ b. if b then Name else Wrong) (lt-leb n 2 (omega arith))

spelled_sort : (sort : TokenSort) (text : List ℕ) → is_spelled sort text ≡ true → sort_of text ≡ sort
spelled_sort Name [] h = let e : false ≡ true = h in cc
spelled_sort Meta [] h = let e : false ≡ true = h in cc
spelled_sort Place [] h = let e : false ≡ true = h in cc
spelled_sort Symbol [] h = let e : false ≡ true = h in cc
spelled_sort Wrong [] h = refl
spelled_sort Name (byte ∷ bytes) h =
    let parts = and_parts (are_segments (byte ∷ bytes)) (nat_le (length (segments (byte ∷ bytes))) 3) h in
    let letter = letter_first byte bytes parts.0 in
    let count : length (segments (byte ∷ bytes)) ≡ dots bytes + 1 = length-segments byte bytes letter in
    let few : length (segments (byte ∷ bytes)) ≤ 3 = leb-true _ _ parts.1 in
    letter_sort byte bytes letter ∙ name_is (dots bytes) (omega arith)
spelled_sort Wrong (byte ∷ bytes) h =
    let parts = and_parts (are_segments (byte ∷ bytes)) (nat_lt 3 (length (segments (byte ∷ bytes)))) h in
    let letter = letter_first byte bytes parts.0 in
    let count : length (segments (byte ∷ bytes)) ≡ dots bytes + 1 = length-segments byte bytes letter in
    let many : 3 < length (segments (byte ∷ bytes)) = ltb-true 3 (length (segments (byte ∷ bytes))) parts.1 in
    letter_sort byte bytes letter ∙ overlong_is (dots bytes) (omega arith)
spelled_sort Meta (byte ∷ bytes) h = meta_sort byte bytes (and_parts (byte == 63) (is_segment bytes) h).0
spelled_sort Place (byte ∷ bytes) h = place_sort byte bytes (place_first byte bytes h)
spelled_sort Symbol (byte ∷ bytes) h = symbol_sort byte bytes h

not_blank : (byte : ℕ) → is_blank byte ≡ false → starts_visible (byte ∷ []) ≡ true
not_blank byte e = not_from_false (is_blank byte) e

spelled_visible : (sort : TokenSort) (text : List ℕ) → is_spelled sort text ≡ true → starts_visible text ≡ true
spelled_visible Name [] h = h
spelled_visible Meta [] h = h
spelled_visible Place [] h = h
spelled_visible Symbol [] h = h
spelled_visible Wrong [] h = h
spelled_visible Name (byte ∷ bytes) h =
    let letter = letter_first byte bytes (and_parts (are_segments (byte ∷ bytes)) (nat_le (length (segments (byte ∷ bytes))) 3) h).0 in letter_visible byte letter
spelled_visible Wrong (byte ∷ bytes) h =
    let letter = letter_first byte bytes (and_parts (are_segments (byte ∷ bytes)) (nat_lt 3 (length (segments (byte ∷ bytes)))) h).0 in letter_visible byte letter
spelled_visible Meta (byte ∷ bytes) h = let e : (byte == 63) ≡ true = (and_parts (byte == 63) (is_segment bytes) h).0 in not_blank byte (grind (arith, nat_tests))
spelled_visible Place (byte ∷ bytes) h = let e : (byte == 35) ≡ true = place_first byte bytes h in not_blank byte (grind (arith, nat_tests))
spelled_visible Symbol (byte ∷ bytes) h = not_blank byte (symbol_starts byte bytes h).3

visible_front : (n : ℕ) (text : List ℕ) → starts_visible (take n text) ≡ true → starts_visible text ≡ true
visible_front zero text h = let e : false ≡ true = h in cc
visible_front (suc n) [] h = h
visible_front (suc n) (byte ∷ bytes) h = h

first_visible : (sort : TokenSort) (n : ℕ) (text : List ℕ) → IsFirstToken sort n text → starts_visible text ≡ true
first_visible sort n text (inl longest) = visible_front n text (spelled_visible sort (take n text) longest.front.spelled)
first_visible sort n text (inr stray) = stray.visible

-- the blanks before the first byte that is none
blanks_end : (n : ℕ) (text : List ℕ) → list_all is_blank (take n text) ≡ true → starts_visible (drop n text) ≡ true → prefix_len is_blank text ≡ n
blanks_end zero [] blanks visible = refl
blanks_end zero (byte ∷ bytes) blanks visible = ap (λ b. cond b (1 + prefix_len is_blank bytes) 0) (not-true (is_blank byte) visible)
blanks_end (suc n) [] blanks visible = let e : false ≡ true = visible in cc
blanks_end (suc n) (byte ∷ bytes) blanks visible =
    let parts = and_parts (is_blank byte) (list_all is_blank (take n bytes)) blanks in
    prefix_len-yes is_blank byte bytes parts.0 ∙ ap suc (blanks_end n bytes parts.1 visible)

all_blank : (n : ℕ) (text : List ℕ) → list_all is_blank text ≡ true → starts_visible (drop n text) ≡ true → ⊥
all_blank zero [] blanks visible = let e : false ≡ true = visible in cc
all_blank zero (byte ∷ bytes) blanks visible = both_ways (is_blank byte) (not-true (is_blank byte) visible) (and_parts (is_blank byte) (list_all is_blank bytes) blanks).0
all_blank (suc n) [] blanks visible = let e : false ≡ true = visible in cc
all_blank (suc n) (byte ∷ bytes) blanks visible = all_blank n bytes (and_parts (is_blank byte) (list_all is_blank bytes) blanks).1 visible

-- one token alone stands first
same_length : (sort other : TokenSort) (m n : ℕ) (text : List ℕ) → IsFirstToken sort m text → IsFirstToken other n text → m ≡ n
same_length sort other m n text (inl first) (inl second) = let a : m ≤ n = second.longest sort m first.front in let b : n ≤ m = first.longest other n second.front in omega arith
same_length sort other m n text (inl first) (inr second) = absurd (second.alone sort m first.front)
same_length sort other m n text (inr first) (inl second) = absurd (first.alone other n second.front)
same_length sort other m n text (inr first) (inr second) = first.one ∙ sym second.one

same_sort : (sort other : TokenSort) (m n : ℕ) (text : List ℕ) → m ≡ n → IsFirstToken sort m text → IsFirstToken other n text → sort ≡ other
same_sort sort other m n text e (inl first) (inl second) =
    sym (spelled_sort sort (take m text) first.front.spelled) ∙ (ap (λ k. sort_of (take k text)) e ∙ spelled_sort other (take n text) second.front.spelled)
same_sort sort other m n text e (inl first) (inr second) = absurd (second.alone sort m first.front)
same_sort sort other m n text e (inr first) (inl second) = absurd (first.alone other n second.front)
same_sort sort other m n text e (inr first) (inr second) = first.wrong ∙ sym second.wrong

first_some : (sort : TokenSort) (n : ℕ) (text : List ℕ) → IsFirstToken sort n text → 1 ≤ n
first_some sort n text (inl longest) = front_some sort n text longest.front
first_some sort n text (inr stray) = let e : n ≡ 1 = stray.one in omega arith

-- the place of the first token is that of the first byte that is no blank
first_place : (at from : ℕ) (line : List ℕ) → at ≤ from → list_all is_blank (take (from - at) (drop at line)) ≡ true → starts_visible (drop from line) ≡ true → from ≡ at + prefix_len is_blank (drop at line)
first_place at from line later blanks visible =
    let e : at + (from - at) ≡ from = omega arith in
    let same : drop (from - at) (drop at line) ≡ drop from line = drop-drop (from - at) at line ∙ ap (λ k. drop k line) e in
    let end : prefix_len is_blank (drop at line) ≡ from - at = blanks_end (from - at) (drop at line) blanks (ap starts_visible same ∙ visible) in
    omega arith

nothing_left : (at from : ℕ) (line : List ℕ) → at ≤ from → list_all is_blank (drop at line) ≡ true → starts_visible (drop from line) ≡ true → ⊥
nothing_left at from line later blanks visible =
    let e : at + (from - at) ≡ from = omega arith in
    let same : drop (from - at) (drop at line) ≡ drop from line = drop-drop (from - at) at line ∙ ap (λ k. drop k line) e in
    all_blank (from - at) (drop at line) blanks (ap starts_visible same ∙ visible)

same_token : (token other : Token) → token.sort ≡ other.sort → token.from ≡ other.from → token.to ≡ other.to → token ≡ other
same_token token other s f t =
    let a : token ≡ record { sort = other.sort; from = token.from; to = token.to } = ap (λ x. record token { sort = x }) s in
    let b : record token { sort = other.sort } ≡ record { sort = other.sort; from = other.from; to = token.to } = ap (λ x. record { sort = other.sort; from = x; to = token.to }) f in
    a ∙ (b ∙ ap (λ x. record other { to = x }) t)

one_reading : (at : ℕ) (line : List ℕ) (ts us : List Token) → AreTokensFrom at line ts → AreTokensFrom at line us → ts ≡ us
one_reading at line [] [] a b = refl
one_reading at line [] (u ∷ us) a (later, blanks, first, rest) = absurd (nothing_left at u.from line later a (first_visible u.sort (u.to - u.from) (drop u.from line) first))
one_reading at line (t ∷ ts) [] (later, blanks, first, rest) b = absurd (nothing_left at t.from line later b (first_visible t.sort (t.to - t.from) (drop t.from line) first))
one_reading at line (t ∷ ts) (u ∷ us) (later, blanks, first, rest) (later', blanks', first', rest') =
    let here : t.from ≡ at + prefix_len is_blank (drop at line) = first_place at t.from line later blanks (first_visible t.sort (t.to - t.from) (drop t.from line) first) in
    let here' : u.from ≡ at + prefix_len is_blank (drop at line) = first_place at u.from line later' blanks' (first_visible u.sort (u.to - u.from) (drop u.from line) first') in
    let from : t.from ≡ u.from = here ∙ sym here' in
    let moved : IsFirstToken u.sort (u.to - u.from) (drop t.from line) = subst (λ (l : List ℕ). IsFirstToken u.sort (u.to - u.from) l) (ap (λ k. drop k line) (sym from)) first' in
    let size : t.to - t.from ≡ u.to - u.from = same_length t.sort u.sort (t.to - t.from) (u.to - u.from) (drop t.from line) first moved in
    let sort : t.sort ≡ u.sort = same_sort t.sort u.sort (t.to - t.from) (u.to - u.from) (drop t.from line) size first moved in
    let some : 1 ≤ t.to - t.from = first_some t.sort (t.to - t.from) (drop t.from line) first in
    let to : t.to ≡ u.to = omega arith in
    let token : t ≡ u = same_token t u sort from to in
    let others : ts ≡ us = one_reading u.to line ts us (subst (λ (k : ℕ). AreTokensFrom k line ts) to rest) rest' in
    ap (λ x. x ∷ ts) token ∙ ap (λ l. u ∷ l) others

-- a line is read as its computed tokens alone
pub tokens_only : (line : List ℕ) (ts : List Token) → AreTokens line ts → ts ≡ tokens line
tokens_only line ts h = one_reading 0 line ts (tokens line) h (tokens_are line)
