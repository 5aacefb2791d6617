-- What holds of each token of a line.
use Rattle.std.proofs.Common.{◌≡◌, ℕ, ◌-◌, ◌≤◌, ◌<◌, true, false, List, [], ◌∷◌, length, drop, arith, subst, length-drop, inl, inr}
use Rattle.std.specs.List.{AllByRecursion, Contains}
use Rattle.std.proofs.lemmas.Bool.{cases_lt}
use Rattle.std.proofs.lemmas.List.Elements.{All-contains, All-from_recursion}
use Rattle.mu_tree.specs.Names.{is_name}
use Rattle.mu_grammar.specs.declared.token.TokenSort.{TokenSort}
use Rattle.mu_grammar.specs.declared.token.TokenSort.TheVariants.{Name, Meta, Place, Symbol, Wrong}
use Rattle.mu_grammar.specs.declared.token.Token.{Token}
use Rattle.mu_grammar.specs.Reading.{starts_visible, is_meta, is_place, is_symbol, is_spelled, IsFront, IsFirstToken, AreTokensFrom, text_of}
use Rattle.mu_grammar.specs.Tokens.{tokens}
use Rattle.mu_text.proofs.Longest.{empty_front}
use Rattle.mu_text.proofs.Kept.{tokens_are}

-- the token has bytes, all of them in the line, and they are spelled as its sort says
pub record IsTokenOf (line : List ℕ) (token : Token) : Type 0 where
  pub some : token.from < token.to
  pub within : token.to ≤ length line
  pub name : token.sort ≡ Name → is_name (text_of line token) ≡ true
  pub meta : token.sort ≡ Meta → is_meta (text_of line token) ≡ true
  pub place : token.sort ≡ Place → is_place (text_of line token) ≡ true
  pub symbol : token.sort ≡ Symbol → is_symbol (text_of line token) ≡ true

pub visible_some : (text : List ℕ) → starts_visible text ≡ true → 1 ≤ length text
visible_some [] h = let e : false ≡ true = h in cc
visible_some (byte ∷ bytes) h = omega arith

pub front_some : (sort : TokenSort) (n : ℕ) (text : List ℕ) → IsFront sort n text → 1 ≤ n
front_some sort n text front = elim (cases_lt 0 n) [ inl more ↦ omega arith | inr none ↦ absurd (empty_front sort n text none front) ]

spelled_as : (sort other : TokenSort) (text : List ℕ) → is_spelled sort text ≡ true → sort ≡ other → is_spelled other text ≡ true
spelled_as sort other text h e = subst (λ (s : TokenSort). is_spelled s text ≡ true) e h

first_is : (line : List ℕ) (token : Token) → IsFirstToken token.sort (token.to - token.from) (drop token.from line) → IsTokenOf line token
first_is line token (inl longest) =
    let size : length (drop token.from line) ≡ length line - token.from = length-drop token.from line in
    let some : 1 ≤ token.to - token.from = front_some token.sort (token.to - token.from) (drop token.from line) longest.front in
    let within : token.to - token.from ≤ length (drop token.from line) = longest.front.within in
    record {
      some = omega arith;
      within = omega arith;
      name = spelled_as token.sort Name (text_of line token) longest.front.spelled;
      meta = spelled_as token.sort Meta (text_of line token) longest.front.spelled;
      place = spelled_as token.sort Place (text_of line token) longest.front.spelled;
      symbol = spelled_as token.sort Symbol (text_of line token) longest.front.spelled;
    }
first_is line token (inr stray) =
    let size : length (drop token.from line) ≡ length line - token.from = length-drop token.from line in
    let some : 1 ≤ length (drop token.from line) = visible_some (drop token.from line) stray.visible in
    let one : token.to - token.from ≡ 1 = stray.one in
    let wrong : token.sort ≡ Wrong = stray.wrong in
    record { some = omega arith; within = omega arith; name = λ e. cc; meta = λ e. cc; place = λ e. cc; symbol = λ e. cc }

-- what holds of each token of a list that the line is read as
pub each_is : (at : ℕ) (line : List ℕ) (ts : List Token) → AreTokensFrom at line ts → AllByRecursion (IsTokenOf line) ts
each_is at line [] h = tt
each_is at line (token ∷ ts) (later, blanks, first, rest) = (first_is line token first, each_is token.to line ts rest)

-- what holds of each token of a line
pub tokens_hold : (line : List ℕ) → AllByRecursion (IsTokenOf line) (tokens line)
tokens_hold line = each_is 0 line (tokens line) (tokens_are line)

-- the same, of a token that the list has
pub token_holds : (line : List ℕ) (token : Token) → Contains (tokens line) token → IsTokenOf line token
token_holds line token has = All-contains (IsTokenOf line) (tokens line) token (All-from_recursion (IsTokenOf line) (tokens line) (tokens_hold line)) has
