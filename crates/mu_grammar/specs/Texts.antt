-- What a text reads as, by itself: where it is refused, and which limit it passes.
use Rattle.std.specs.Prelude.{◌≡◌, ℕ, ◌+◌, ◌-◌, ◌<◌, ◌≤◌, Bool, true, false, List, length, drop, slice_get, Result, Ok, Err, if◌then◌else◌, ◌==◌}
use Rattle.std.specs.Option.{option_map_or}
use Rattle.std.specs.List.{list_all, All}
use Rattle.mu_tree.specs.Names.{is_short}
use Rattle.mu_tree.specs.declared.refusal.LimitWord.{LimitWord}
use Rattle.mu_tree.specs.declared.refusal.LimitWord.TheVariants as limit
use Rattle.mu_grammar.specs.declared.token.Token.{Token}
use Rattle.mu_grammar.specs.declared.token.TokenSort.{TokenSort}
use Rattle.mu_grammar.specs.declared.token.TokenSort.TheVariants.{Meta}
use Rattle.mu_grammar.specs.declared.fault.PartFault.{PartFault}
use Rattle.mu_grammar.specs.declared.fault.PartFault.TheVariants as part
use Rattle.mu_grammar.specs.declared.fault.TextFault.{TextFault}
use Rattle.mu_grammar.specs.declared.fault.TextFault.TheVariants as fault
use Rattle.mu_grammar.specs.declared.excess.Excess.{Excess}
use Rattle.mu_grammar.specs.Reading.{text_of}
use Rattle.mu_grammar.specs.Tokens.{tokens}
use Rattle.mu_grammar.specs.Lexemes.{Lexeme, items_of}
use Rattle.mu_grammar.specs.Parts.{Refused}
use Rattle.mu_grammar.specs.Writings.{Writing}
use Rattle.mu_grammar.specs.Excesses.{excess_of, no_excess}

-- the part of a token's bytes that is made of segments
abbrev pub segments_of : TokenSort → List ℕ → List ℕ
segments_of Meta text = drop 1 text
segments_of _ text = text

-- no segment of the token has more than 64 bytes
abbrev pub is_short_token : List ℕ → Token → Bool
is_short_token line token = is_short (segments_of token.sort (text_of line token))

-- no segment of the line's tokens has more than 64 bytes
abbrev pub has_short_tokens : List ℕ → Bool
has_short_tokens line = list_all (is_short_token line) (tokens line)

-- the bytes of each token are in the line
abbrev pub AreWithin : List ℕ → List Token → Type 0
AreWithin line ts = All (λ token. (token.from < length line) × (token.to ≤ length line)) ts

-- the column behind the last token, counted from 1
abbrev pub column_behind : List Token → ℕ
column_behind ts = option_map_or (λ token. token.to + 1) (slice_get ts (length ts - 1)) 1

-- the column of the token at a place, or behind the last one
abbrev pub column : List Token → ℕ → ℕ
column ts at = option_map_or (λ token. token.from + 1) (slice_get ts at) (column_behind ts)

-- the first limit that the text passes, where its trees pass these
abbrev pub Passes : LimitWord → List ℕ → Excess → Type 0
Passes limit.Name line e = has_short_tokens line ≡ false
Passes limit.Nodes line e = (has_short_tokens line ≡ true) × (e.nodes ≡ true)
Passes limit.Depth line e = (has_short_tokens line ≡ true) × (e.nodes ≡ false) × (e.depth ≡ true)
Passes limit.Text line e = ⊥

-- what reading a text by itself answers: the value that its tokens spell, within the limits; the first limit that it passes, where they spell one; or the column of the first token with which no spelling goes on
abbrev pub ReadsText : {A B : Type 0} → (List Lexeme → A → Type 0) → (A → List Writing) → (A → B) → List ℕ → Result B TextFault → Type 0
ReadsText {A} G trees meant line (Ok y) = (x : A) × G (items_of line) x × (has_short_tokens line ≡ true) × (excess_of (trees x) ≡ no_excess) × (y ≡ meant x)
ReadsText {A} G trees meant line (Err (fault.Limit word)) = (x : A) × G (items_of line) x × Passes word line (excess_of (trees x))
ReadsText {A} G trees meant line (Err (fault.Syntax at)) = (place : ℕ) × Refused G (items_of line) place × (at ≡ column (tokens line) place)
ReadsText {A} G trees meant line (Err fault.NoMemory) = Unit {0}

-- what is answered of a value that was read to the end, by the limits that were passed
abbrev pub within_limits : {B : Type 0} → Bool → B → Excess → Result B TextFault
within_limits short y e = if short then (if e.nodes then Err (fault.Limit limit.Nodes) else (if e.depth then Err (fault.Limit limit.Depth) else Ok y)) else Err (fault.Limit limit.Name)

-- what is answered, by what the reader of the part answered, how many tokens it left and the limits that were passed
abbrev pub answer : {B : Type 0} → List ℕ → Result B PartFault → ℕ → Excess → Result B TextFault
answer line (Ok y) left e = if left == 0 then within_limits (has_short_tokens line) y e else Err (fault.Syntax (column (tokens line) (length (tokens line) - left)))
answer line (Err part.Mismatch) left e = Err (fault.Syntax (column (tokens line) (length (tokens line) - left)))
answer line (Err part.NoMemory) left e = Err fault.NoMemory

-- a value of the language: some text reads as it
abbrev pub IsOfLanguage : {A B : Type 0} → (List Lexeme → A → Type 0) → (A → List Writing) → (A → B) → B → Type 0
IsOfLanguage G trees meant y = (line : List ℕ) × ReadsText G trees meant line (Ok y)
