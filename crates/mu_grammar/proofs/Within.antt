-- Where no segment of a line is too long, its names are within the limit.
use Rattle.std.proofs.Common.{◌≡◌, ℕ, ◌+◌, Bool, true, false, List, [], ◌∷◌, length, map, ap, sym, ◌∙◌, subst, arith}
use Rattle.std.specs.Prelude.{nat_le, ◌&&◌, ◌==◌}
use Rattle.std.specs.List.{list_all, AllByRecursion}
use Rattle.std.proofs.lemmas.Bool.{and_parts, and_from}
use Rattle.std.proofs.lemmas.Bool.Decides.{nat_tests}
use Rattle.std.proofs.lemmas.List.Folds.{list_all-map}
use Rattle.std.proofs.lemmas.List.Splits.{slice_split_none}
use Rattle.std.proofs.lemmas.List.Elements.{All-from_recursion}
use Rattle.std.proofs.lemmas.Simd.{map-map}
use Rattle.std.proofs.Math.Seq.{take_all}
use Rattle.mu_tree.specs.Names.{IsName, is_letter, is_name_byte, is_segment, is_name, is_short, segments}
use Rattle.mu_grammar.specs.declared.token.TokenSort.{TokenSort}
use Rattle.mu_grammar.specs.declared.token.TokenSort.TheVariants.{Name, Meta, Place, Symbol, Wrong}
use Rattle.mu_grammar.specs.declared.symbol.Word.TheVariants as head
use Rattle.mu_grammar.specs.declared.symbol.Sort.{Sort}
use Rattle.mu_grammar.specs.declared.symbol.Sort.TheVariants as sort
use Rattle.mu_grammar.specs.Tokens.{run_length, dots, tokens}
use Rattle.mu_grammar.specs.Lexemes.{Lexeme, item, items_of, item_of, sort_in, word_in, name_sort}
use Rattle.mu_grammar.specs.Limits.{WithinToken, WithinTokens}
use Rattle.mu_grammar.specs.Texts.{segments_of, has_short_tokens}
use Rattle.mu_grammar.proofs.Bare.{Bare, bare, Spelled, IsSpelled, line_spelled}
use Rattle.mu_grammar.proofs.Runs.{are_segments-letter, is_rest, is_rest-take_run, length-segments}

-- a token as the grammar takes it, by its sort and its bytes
abbrev pub piece : Bare → Lexeme
piece x = item_of (sort_in x.1 x.0) (word_in x.1 x.0)

pub pieces_of : (line : List ℕ) → map piece (map (bare line) (tokens line)) ≡ items_of line
unfolding item
pieces_of line = map-map piece (bare line) (tokens line)

no_dot : (byte : ℕ) → is_name_byte byte ≡ true → (byte == 46) ≡ false
no_dot byte e = grind (arith, nat_tests)

letter_no_dot : (byte : ℕ) → is_letter byte ≡ true → (byte == 46) ≡ false
letter_no_dot byte e = grind (arith, nat_tests)

no_dots : (bytes : List ℕ) → list_all is_name_byte bytes ≡ true → AllByRecursion (λ byte. (byte == 46) ≡ false) bytes
no_dots [] e = tt
no_dots (byte ∷ bytes) e = let parts = and_parts (is_name_byte byte) (list_all is_name_byte bytes) e in (no_dot byte parts.0, no_dots bytes parts.1)

segment_is_name : (text : List ℕ) → is_segment text ≡ true → is_name text ≡ true
segment_is_name [] e = let no : false ≡ true = e in cc
segment_is_name (byte ∷ bytes) e =
    let parts = and_parts (is_letter byte) (list_all is_name_byte bytes) e in
    let alone : segments (byte ∷ bytes) ≡ (byte ∷ bytes) ∷ [] =
    slice_split_none (λ b. b == 46) (byte ∷ bytes) (All-from_recursion (λ b. (b == 46) ≡ false) (byte ∷ bytes) (letter_no_dot byte parts.0, no_dots bytes parts.1)) in
    ap (λ ss. list_all is_segment ss && nat_le (length ss) 3) alone ∙ ap (λ b. (b && true) && true) e

spelled_is_name : (byte : ℕ) (bytes : List ℕ) → Spelled Name (byte ∷ bytes) → is_name (byte ∷ bytes) ≡ true
spelled_is_name byte bytes (letter, run, few) =
    let rest : is_rest bytes ≡ true = ap is_rest (sym (take_all (run_length bytes) bytes (omega arith))) ∙ is_rest-take_run bytes in
    let count : length (segments (byte ∷ bytes)) ≡ dots bytes + 1 = length-segments byte bytes letter in
    and_from _ _ (are_segments-letter byte bytes letter ∙ rest) (grind (arith, nat_tests))

-- what is made of a name within the limit is within it
sort_within : (s : Sort) (text : List ℕ) → IsName text → WithinToken (item_of s text)
sort_within (sort.Word head.Plain) text n = n
sort_within (sort.Word head.Dotted) text n = n
sort_within (sort.Word head.True) text n = n
sort_within (sort.Word head.Meta) text n = n
sort_within (sort.Word head.Place) text n = tt
sort_within (sort.Mark m) text n = tt

spelled_within : (s : TokenSort) (text : List ℕ) → Spelled s text → is_short (segments_of s text) ≡ true → WithinToken (piece (s, text))
spelled_within s [] h short = absurd h
spelled_within Name (byte ∷ bytes) h short = sort_within (name_sort (byte ∷ bytes)) (byte ∷ bytes) (record { spelled = spelled_is_name byte bytes h; short = short })
spelled_within Meta (byte ∷ bytes) h short = record { spelled = segment_is_name bytes h.1; short = short }
spelled_within Place (byte ∷ bytes) h short = tt
spelled_within Symbol (byte ∷ bytes) h short = tt
spelled_within Wrong (byte ∷ bytes) h short = tt

abbrev pub is_short_bare : Bare → Bool
is_short_bare x = is_short (segments_of x.0 x.1)

pub short_bares : (line : List ℕ) → list_all is_short_bare (map (bare line) (tokens line)) ≡ has_short_tokens line
short_bares line = list_all-map is_short_bare (bare line) (tokens line)

each_within : (xs : List Bare) → AllByRecursion IsSpelled xs → list_all is_short_bare xs ≡ true → WithinTokens (map piece xs)
each_within [] h e = tt
each_within (x ∷ xs) h e = let parts = and_parts (is_short_bare x) (list_all is_short_bare xs) e in (spelled_within x.0 x.1 h.0 parts.0, each_within xs h.1 parts.1)

-- where no segment of a line is too long, its names are within the limit
pub line_kept : (line : List ℕ) → has_short_tokens line ≡ true → WithinTokens (items_of line)
line_kept line short = subst WithinTokens (pieces_of line) (each_within (map (bare line) (tokens line)) (line_spelled line) (short_bares line ∙ short))
