-- The computed tokens keep the law of reading a line.
use Rattle.std.proofs.Common.{◌≡◌, ℕ, zero, suc, ◌+◌, ◌-◌, true, false, List, [], ◌∷◌, take, drop, refl, ap, sym, ◌∙◌, subst, arith}
use Rattle.std.specs.List.{list_all}
use Rattle.std.proofs.lemmas.Bool.{and_from, cond_both}
use Rattle.std.proofs.lemmas.List.{drop-drop}
use Rattle.mu_grammar.specs.declared.token.Token.{Token}
use Rattle.mu_grammar.specs.Reading.{is_blank, IsFirstToken, AreTokensFrom, AreTokens}
use Rattle.mu_grammar.specs.Tokens.{first_token, tokens_from, tokens}
use Rattle.mu_text.proofs.Longest.{first_token_is}
use Rattle.mu_text.proofs.Skips.{token_at}

drop_nothing : (skip : ℕ) → drop {A = ℕ} skip [] ≡ []
drop_nothing zero = refl
drop_nothing (suc skip) = refl

next_place : (at byte : ℕ) (bytes line : List ℕ) → byte ∷ bytes ≡ drop at line → bytes ≡ drop (at + 1) line
next_place at byte bytes line e = ap (drop 1) e ∙ drop-drop 1 at line

blank_before : (at byte : ℕ) (line : List ℕ) (ts : List Token) → drop at line ≡ byte ∷ drop (at + 1) line → is_blank byte ≡ true → AreTokensFrom (at + 1) line ts → AreTokensFrom at line ts
blank_before at byte line [] here blank h = ap (list_all is_blank) here ∙ and_from (is_blank byte) (list_all is_blank (drop (at + 1) line)) blank h
blank_before at byte line (t ∷ ts) here blank (later, blanks, first, rest) =
    let more : t.from - at ≡ suc (t.from - (at + 1)) = omega arith in
    (omega arith, ap (λ n. list_all is_blank (take n (drop at line))) more ∙ (ap (λ l. list_all is_blank (take (suc (t.from - (at + 1))) l)) here ∙ and_from (is_blank byte) _ blank blanks), first, rest)

token_here : (at byte : ℕ) (bytes line : List ℕ) (ts : List Token) → byte ∷ bytes ≡ drop at line → is_blank byte ≡ false → AreTokensFrom (at + 1 + (first_token byte bytes).1) line ts → AreTokensFrom at line (token_at at (first_token byte bytes) ∷ ts)
token_here at byte bytes line ts here visible rest =
    let first = first_token byte bytes in
    let none : at - at ≡ 0 = omega arith in
    let size : suc first.1 ≡ at + 1 + first.1 - at = omega arith in (
      omega arith,
      ap (λ n. list_all is_blank (take n (drop at line))) none,
      subst (λ (n : ℕ). IsFirstToken first.0 n (drop at line)) size (subst (λ (l : List ℕ). IsFirstToken first.0 (suc first.1) l) here (first_token_is byte bytes visible)),
      rest,
    )

reads_from : (skip at : ℕ) (text line : List ℕ) → text ≡ drop at line → AreTokensFrom (at + skip) line (tokens_from skip at text)
reads_from skip at [] line here = ap (list_all is_blank) (sym (drop-drop skip at line) ∙ (ap (drop skip) (sym here) ∙ drop_nothing skip))
reads_from (suc skip) at (byte ∷ bytes) line here =
    let e : at + 1 + skip ≡ at + suc skip = omega arith in
    subst (λ (n : ℕ). AreTokensFrom n line (tokens_from skip (at + 1) bytes)) e (reads_from skip (at + 1) bytes line (next_place at byte bytes line here))
reads_from zero at (byte ∷ bytes) line here =
    let e : at ≡ at + 0 = omega arith in
    let next = next_place at byte bytes line here in
    let z : at + 1 + 0 ≡ at + 1 = omega arith in
    let first = first_token byte bytes in
    subst (λ (n : ℕ). AreTokensFrom n line (tokens_from 0 at (byte ∷ bytes))) e
    (cond_both (is_blank byte) (tokens_from 0 (at + 1) bytes) (token_at at first ∷ tokens_from first.1 (at + 1) bytes) (λ ts. AreTokensFrom at line ts)
    (λ blank. blank_before at byte line (tokens_from 0 (at + 1) bytes) (sym here ∙ ap (λ l. byte ∷ l) next) blank
    (subst (λ (n : ℕ). AreTokensFrom n line (tokens_from 0 (at + 1) bytes)) z (reads_from 0 (at + 1) bytes line next)))
    (λ visible. token_here at byte bytes line (tokens_from first.1 (at + 1) bytes) here visible (reads_from first.1 (at + 1) bytes line next)))

-- the computed tokens of a line are those that it is read as
pub tokens_are : (line : List ℕ) → AreTokens line (tokens line)
tokens_are line = reads_from 0 0 line line refl
