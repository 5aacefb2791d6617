-- What reading a text by itself says of it.
use Rattle.std.proofs.Common.{◌≡◌, ℕ, ◌-◌, Bool, true, false, List, [], ◌∷◌, length, refl, ap, sym, ◌∙◌, subst, arith}
use Rattle.std.specs.Prelude.{◌<◌, ◌≤◌, ◌==◌, if◌then◌else◌, Result, Ok, Err}
use Rattle.std.specs.List.{AllByRecursion}
use Rattle.std.proofs.lemmas.Bool.{eqb-true}
use Rattle.std.proofs.lemmas.List.{length-map}
use Rattle.std.proofs.lemmas.List.Elements.{All-from_recursion}
use Rattle.mu_grammar.specs.declared.token.Token.{Token}
use Rattle.mu_grammar.specs.declared.fault.PartFault.{PartFault}
use Rattle.mu_grammar.specs.declared.fault.PartFault.TheVariants as part
use Rattle.mu_grammar.specs.declared.fault.TextFault.TheVariants as fault
use Rattle.mu_grammar.specs.declared.excess.Excess.{Excess}
use Rattle.mu_grammar.specs.Tokens.{tokens}
use Rattle.mu_grammar.specs.Lexemes.{Lexeme, item, items_of}
use Rattle.mu_grammar.specs.Parts.{Out, Read, Gives, Refused, End}
use Rattle.mu_grammar.specs.Writings.{Writing}
use Rattle.mu_grammar.specs.Excesses.{excess_of, no_excess, Raising}
use Rattle.mu_grammar.specs.Limits.{IsMeant}
use Rattle.mu_grammar.specs.Texts.{has_short_tokens, AreWithin, column, ReadsText, within_limits, answer}
pub use Rattle.mu_grammar.proofs.Within.{line_kept}
use Rattle.mu_text.proofs.Exact.{Exact}
use Rattle.mu_text.proofs.Excesses.{raised-none}
use Rattle.mu_text.proofs.Facts.{IsTokenOf, tokens_hold}
use Rattle.mu_text.proofs.Whole.{read_whole, left_over, left_off}

same_length : (line : List ℕ) → length (items_of line) ≡ length (tokens line)
same_length line = length-map (tokens line) (item line)

within_each : (line : List ℕ) (ts : List Token) → AllByRecursion (IsTokenOf line) ts → AllByRecursion (λ token. (token.from < length line) × (token.to ≤ length line)) ts
within_each line [] is = tt
within_each line (token ∷ ts) (is, rest) =
    let some : token.from < token.to = is.some in
    let within : token.to ≤ length line = is.within in
    ((omega arith, within), within_each line ts rest)

-- the bytes of each token of a line are in it
pub all_within : (line : List ℕ) → AreWithin line (tokens line)
all_within line = All-from_recursion (λ token. (token.from < length line) × (token.to ≤ length line)) (tokens line) (within_each line (tokens line) (tokens_hold line))

module _ {A B : Type 0} (G : List Lexeme → A → Type 0) (trees : A → List Writing) (S : A → B → Type 0) (meant : A → B) (means : IsMeant G trees S meant) where
  -- what was read to the end, by the limits that were passed
  limits_tell : (line : List ℕ) (x : A) (y : B) → G (items_of line) x → S x y → (short nodes depth : Bool) → has_short_tokens line ≡ short → excess_of (trees x) ≡ record { nodes = nodes; depth = depth }
      → ReadsText G trees meant line (within_limits short y (record { nodes = nodes; depth = depth }))
  limits_tell line x y g s false nodes depth h e = (x, g, h)
  limits_tell line x y g s true true depth h e = (x, g, (h, ap (λ k. k.nodes) e))
  limits_tell line x y g s true false true h e = (x, g, (h, ap (λ k. k.nodes) e, ap (λ k. k.depth) e))
  limits_tell line x y g s true false false h e = (x, g, h, e, means (items_of line) x y (line_kept line h) g e s)

  read_to_end : (line : List ℕ) (x : A) (y : B) (e : Excess) → G (items_of line) x → Raising S trees no_excess e x y → ReadsText G trees meant line (within_limits (has_short_tokens line) y e)
  read_to_end line x y e g r = limits_tell line x y g r.0 (has_short_tokens line) e.nodes e.depth refl (sym (raised-none (trees x)) ∙ sym r.1)

  refused_at : (line : List ℕ) (left : ℕ) → Refused G (items_of line) (length (items_of line) - left) → ReadsText G trees meant line (Err (fault.Syntax (column (tokens line) (length (tokens line) - left))))
  refused_at line left r = (length (items_of line) - left, r, ap (λ n. column (tokens line) (n - left)) (sym (same_length line)))

  module _ (p : List Lexeme → Out A) (P : Exact p G End) where
    by_left : (line : List ℕ) (y : B) (rest : List Lexeme) (e : Excess) → Read (Raising S trees no_excess e) (p (items_of line)) y rest → (none : Bool) → (length rest == 0) ≡ none
        → ReadsText G trees meant line (if none then within_limits (has_short_tokens line) y e else Err (fault.Syntax (column (tokens line) (length (tokens line) - length rest))))
    by_left line y rest e read true i =
        let w = read_whole p G P (Raising S trees no_excess e) (items_of line) rest y read (eqb-true _ _ i) in
        read_to_end line w.0 y e w.1 w.2
    by_left line y rest e read false i =
        refused_at line (length rest) (left_over p G P (Raising S trees no_excess e) (items_of line) rest y (length (items_of line) - length rest) read (λ z. no (length rest) z i) refl)
      where
        no : (n : ℕ) → n ≡ 0 → (n == 0) ≡ false → ⊥
        no n z f = let q : true ≡ false = sym (ap (λ k. k == 0) z) ∙ f in cc

    -- what is answered of a text
    pub reads_text : (line : List ℕ) (ts : List Lexeme) (result : Result B PartFault) (rest : List Lexeme) (before e : Excess) (left : ℕ) → ts ≡ items_of line → before ≡ no_excess
        → Gives (Raising S trees before e) (p ts) result rest → left ≡ length rest → ReadsText G trees meant line (answer line result left e)
    reads_text line ts (Ok y) rest before e left i b g l =
        let start : Read (Raising S trees no_excess e) (p (items_of line)) y rest =
        subst (λ (k : Excess). Read (Raising S trees k e) (p (items_of line)) y rest) b (subst (λ (l : List Lexeme). Read (Raising S trees before e) (p l) y rest) i g) in
        subst (λ (n : ℕ). ReadsText G trees meant line (answer line (Ok y) n e)) (sym l) (by_left line y rest e start (length rest == 0) refl)
    reads_text line ts (Err part.Mismatch) rest before e left i b g l =
        subst (λ (n : ℕ). ReadsText G trees meant line (answer line (Err part.Mismatch) n e)) (sym l)
        (refused_at line (length rest) (left_off p G P (items_of line) rest (length (items_of line) - length rest) (ap p (sym i) ∙ g) refl))
    reads_text line ts (Err part.NoMemory) rest before e left i b g l = tt
