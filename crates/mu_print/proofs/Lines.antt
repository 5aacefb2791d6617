-- The words of a line are sound, and whether its names are within the limit can be read off its tokens.
use Rattle.std.proofs.Common.{◌≡◌, ℕ, suc, ◌≤◌, true, false, List, [], ◌∷◌, length, map, refl, ap, sym, ◌∙◌, subst, arith}
use Rattle.std.specs.Prelude.{nat_le, ◌==◌, codes}
use Rattle.std.specs.Bool.{nat_eq}
use Rattle.std.specs.List.{list_all, onto_first, AllByRecursion}
use Rattle.std.specs.Cmp.Lexicographic.{pointwise}
use Rattle.std.proofs.lemmas.Bool.{and_parts, and_from, cond_both}
use Rattle.std.proofs.lemmas.Bool.Decides.{nat_tests}
use Rattle.std.proofs.lemmas.Slice.Eq.{bytes_eq-Decides}
use Rattle.mu_tree.specs.Names.{is_letter, is_name_byte, is_segment, is_short, segments}
use Rattle.mu_grammar.specs.declared.token.TokenSort.{TokenSort}
use Rattle.mu_grammar.specs.declared.token.TokenSort.TheVariants.{Name, Meta, Place, Symbol, Wrong}
use Rattle.mu_grammar.specs.declared.symbol.Word.TheVariants as head
use Rattle.mu_grammar.specs.declared.symbol.Mark.TheVariants as sign
use Rattle.mu_grammar.specs.declared.symbol.Sort.{Sort}
use Rattle.mu_grammar.specs.declared.symbol.Sort.TheVariants as sort
use Rattle.mu_grammar.specs.Tokens.{tokens}
use Rattle.mu_grammar.specs.Lexemes.{Lexeme, items_of, item_of, name_sort}
use Rattle.mu_grammar.specs.Limits.{WithinToken, WithinTokens}
use Rattle.mu_grammar.specs.Texts.{segments_of, has_short_tokens}
use Rattle.mu_grammar.proofs.Bare.{Bare, bare, Spelled, IsSpelled, line_spelled}
use Rattle.mu_grammar.proofs.Numbers.{place_text, full_prefix}
use Rattle.mu_grammar.proofs.Within.{piece, pieces_of, is_short_bare, short_bares}
use Rattle.mu_print.specs.Sound.{SoundLexeme, SoundLexemes, RightLexeme, RightLexemes}

-- what is never the sort of a name
abbrev NameSort : Sort → Type 0
NameSort (sort.Word head.Meta) = ⊥
NameSort (sort.Word head.Place) = ⊥
NameSort _ = Unit {0}

named : (text : List ℕ) (P : Sort → Type 0) → (pointwise nat_eq text (codes "and") ≡ true → P (sort.Mark sign.And)) → (pointwise nat_eq text (codes "or") ≡ true → P (sort.Mark sign.Or))
    → (pointwise nat_eq text (codes "not") ≡ true → P (sort.Mark sign.Not)) → P (sort.Word head.True) → P (sort.Word head.Plain) → P (sort.Word head.Dotted) → P (name_sort text)
named text P a o n t p d =
    cond_both (pointwise nat_eq text (codes "and")) _ _ P a
    (λ _. cond_both (pointwise nat_eq text (codes "or")) _ _ P o
    (λ _. cond_both (pointwise nat_eq text (codes "not")) _ _ P n
    (λ _. cond_both (pointwise nat_eq text (codes "true")) _ _ (λ w. P (sort.Word w)) (λ _. t)
    (λ _. cond_both _ _ _ (λ w. P (sort.Word w)) (λ _. p) (λ _. d)))))

name_sorts : (text : List ℕ) → NameSort (name_sort text)
name_sorts text = named text NameSort (λ e. tt) (λ e. tt) (λ e. tt) tt tt tt

name_sound : (byte : ℕ) (bytes : List ℕ) (s : Sort) → name_sort (byte ∷ bytes) ≡ s → NameSort s → Spelled Name (byte ∷ bytes) → SoundLexeme (item_of s (byte ∷ bytes))
name_sound byte bytes (sort.Mark m) e n h = tt
name_sound byte bytes (sort.Word head.Meta) e n h = absurd n
name_sound byte bytes (sort.Word head.Place) e n h = absurd n
name_sound byte bytes (sort.Word head.Plain) e n h = (h.0, h.1, h.2, e)
name_sound byte bytes (sort.Word head.Dotted) e n h = (h.0, h.1, h.2, e)
name_sound byte bytes (sort.Word head.True) e n h = (h.0, h.1, h.2, e)

meta_sound : (text : List ℕ) → is_segment text ≡ true → SoundLexeme (item_of (sort.Word head.Meta) text)
meta_sound [] e = let no : false ≡ true = e in cc
meta_sound (byte ∷ bytes) e = let parts = and_parts (is_letter byte) (list_all is_name_byte bytes) e in (parts.0, full_prefix is_name_byte bytes parts.1)

spelled_sound : (s : TokenSort) (text : List ℕ) → Spelled s text → SoundLexeme (piece (s, text))
spelled_sound s [] h = absurd h
spelled_sound Name (byte ∷ bytes) h = name_sound byte bytes (name_sort (byte ∷ bytes)) refl (name_sorts (byte ∷ bytes)) h
spelled_sound Meta (byte ∷ bytes) h = meta_sound bytes h.1
spelled_sound Place (byte ∷ bytes) h = let is = place_text bytes h.1 in (is.starts, is.digits, is.size)
spelled_sound Symbol (byte ∷ bytes) h = tt
spelled_sound Wrong (byte ∷ bytes) h = tt

each_sound : (xs : List Bare) → AllByRecursion IsSpelled xs → SoundLexemes (map piece xs)
each_sound [] h = tt
each_sound (x ∷ xs) h = (spelled_sound x.0 x.1 h.0, each_sound xs h.1)

-- each word of a line is read back from the bytes that it is spelled with
pub line_sound : (line : List ℕ) → SoundLexemes (items_of line)
line_sound line = subst SoundLexemes (pieces_of line) (each_sound (map (bare line) (tokens line)) (line_spelled line))

-- no segment is longer than the text
abbrev NoneLonger : ℕ → List (List ℕ) → Type 0
NoneLonger size parts = AllByRecursion (λ part. length part ≤ size) parts

none_longer-more : (size : ℕ) (parts : List (List ℕ)) → NoneLonger size parts → NoneLonger (suc size) parts
none_longer-more size [] h = tt
none_longer-more size (part ∷ parts) (first, rest) = (omega arith, none_longer-more size parts rest)

none_longer-onto : (size byte : ℕ) (parts : List (List ℕ)) → NoneLonger size parts → NoneLonger (suc size) (onto_first byte parts)
none_longer-onto size byte [] h = (omega arith, tt)
none_longer-onto size byte (part ∷ parts) (first, rest) = (omega arith, none_longer-more size parts rest)

none_longer : (text : List ℕ) → NoneLonger (length text) (segments text)
none_longer [] = (omega arith, tt)
none_longer (byte ∷ bytes) =
    cond_both (byte == 46) ([] ∷ segments bytes) (onto_first byte (segments bytes)) (NoneLonger (suc (length bytes)))
    (λ _. (omega arith, none_longer-more (length bytes) (segments bytes) (none_longer bytes)))
    (λ _. none_longer-onto (length bytes) byte (segments bytes) (none_longer bytes))

all_short : (size : ℕ) (parts : List (List ℕ)) → size ≤ 64 → NoneLonger size parts → list_all (λ part. nat_le (length part) 64) parts ≡ true
all_short size [] h n = refl
all_short size (part ∷ parts) h (first, rest) = and_from _ _ (grind (arith, nat_tests)) (all_short size parts h rest)

short_text : (text : List ℕ) → length text ≤ 64 → is_short text ≡ true
short_text text h = all_short (length text) (segments text) h (none_longer text)

-- the token's names are within the limit, and it fits something
abbrev Allowed : Lexeme → Type 0
Allowed x = WithinToken x × RightLexeme x

equal_bytes : (name text : List ℕ) → pointwise nat_eq name text ≡ true → name ≡ text
equal_bytes name text e = (bytes_eq-Decides name text).0 e

name_short : (text : List ℕ) → Allowed (item_of (name_sort text) text) → is_short text ≡ true
name_short text =
    named text (λ s. Allowed (item_of s text) → is_short text ≡ true)
    (λ e a. ap is_short (equal_bytes text (codes "and") e)) (λ e a. ap is_short (equal_bytes text (codes "or") e)) (λ e a. ap is_short (equal_bytes text (codes "not") e))
    (λ a. a.0.short) (λ a. a.0.short) (λ a. a.0.short)

spelled_short : (s : TokenSort) (text : List ℕ) → Spelled s text → Allowed (piece (s, text)) → is_short (segments_of s text) ≡ true
spelled_short s [] h a = absurd h
spelled_short Name (byte ∷ bytes) h a = name_short (byte ∷ bytes) a
spelled_short Meta (byte ∷ bytes) h a = a.0.short
spelled_short Place (byte ∷ bytes) h a = let size : length bytes ≤ 9 = (place_text bytes h.1).size in short_text (byte ∷ bytes) (omega arith)
spelled_short Symbol (byte ∷ bytes) h a = short_text (byte ∷ bytes) (omega arith)
spelled_short Wrong (byte ∷ bytes) h a = absurd a.1

each_short : (xs : List Bare) → AllByRecursion IsSpelled xs → RightLexemes (map piece xs) → WithinTokens (map piece xs) → list_all is_short_bare xs ≡ true
each_short [] h r w = refl
each_short (x ∷ xs) h r w = and_from (is_short_bare x) (list_all is_short_bare xs) (spelled_short x.0 x.1 h.0 (w.0, r.0)) (each_short xs h.1 r.1 w.1)

-- where each token of a line fits something and its names are within the limit, no segment is too long
pub line_short : (line : List ℕ) → RightLexemes (items_of line) → WithinTokens (items_of line) → has_short_tokens line ≡ true
line_short line right within =
    sym (short_bares line)
    ∙ each_short (map (bare line) (tokens line)) (line_spelled line) (subst RightLexemes (sym (pieces_of line)) right) (subst WithinTokens (sym (pieces_of line)) within)
