-- What is left of a token's bytes is passed over.
use Rattle.std.proofs.Common.{◌≡◌, ℕ, zero, suc, ◌+◌, List, [], ◌∷◌, ◌++◌, drop, false, refl, ap, sym, ◌∙◌, append_assoc, arith}
use Rattle.std.specs.Prelude.{if◌then◌else◌}
use Rattle.mu_grammar.specs.declared.token.TokenSort.{TokenSort}
use Rattle.mu_grammar.specs.declared.token.Token.{Token}
use Rattle.mu_grammar.specs.Reading.{is_blank}
use Rattle.mu_grammar.specs.Tokens.{first_token, tokens_from}

pub tokens_from-drop : (skip at : ℕ) (bytes : List ℕ) → tokens_from skip at bytes ≡ tokens_from 0 (at + skip) (drop skip bytes)
tokens_from-drop zero at [] = refl
tokens_from-drop zero at (byte ∷ bytes) = ap (λ i. tokens_from 0 i (byte ∷ bytes)) (let e : at ≡ at + 0 = omega arith in e)
tokens_from-drop (suc skip) at [] = refl
tokens_from-drop (suc skip) at (byte ∷ bytes) = tokens_from-drop skip (at + 1) bytes ∙ ap (λ i. tokens_from 0 i (drop skip bytes)) (let e : (at + 1) + skip ≡ at + suc skip = omega arith in e)

-- the token that stands at this place, of its sort and length less one
abbrev pub token_at : ℕ → TokenSort × ℕ → Token
token_at at first = record { sort = first.0; from = at; to = at + 1 + first.1 }

pub tokens_from-token : (at byte : ℕ) (bytes : List ℕ) → is_blank byte ≡ false → tokens_from 0 at (byte ∷ bytes) ≡ token_at at (first_token byte bytes) ∷ tokens_from (first_token byte bytes).1 (at + 1) bytes
tokens_from-token at byte bytes not_blank =
    ap (λ v. if v then tokens_from 0 (at + 1) bytes else (token_at at (first_token byte bytes) ∷ tokens_from (first_token byte bytes).1 (at + 1) bytes)) not_blank

pub one_token : (at byte : ℕ) (bytes rest rest' : List ℕ) (first : TokenSort × ℕ) (found found' : List Token) → rest ≡ byte ∷ bytes → is_blank byte ≡ false → first ≡ first_token byte bytes
    → rest' ≡ drop first.1 bytes → found' ≡ found ++ (token_at at first ∷ [])
    → found' ++ tokens_from 0 (at + 1 + first.1) rest' ≡ found ++ tokens_from 0 at rest
one_token at byte bytes rest rest' first found found' e n i d f =
    let whole : tokens_from 0 at rest ≡ token_at at first ∷ tokens_from first.1 (at + 1) bytes =
    ap (tokens_from 0 at) e ∙ (tokens_from-token at byte bytes n ∙ ap (λ u. token_at at u ∷ tokens_from u.1 (at + 1) bytes) (sym i)) in
    ap (λ l. l ++ tokens_from 0 (at + 1 + first.1) rest') f
    ∙ (append_assoc found (token_at at first ∷ []) (tokens_from 0 (at + 1 + first.1) rest')
    ∙ ap (λ l. found ++ l) (ap (λ l. token_at at first ∷ l) (ap (tokens_from 0 (at + 1 + first.1)) d ∙ sym (tokens_from-drop first.1 (at + 1) bytes)) ∙ sym whole))
