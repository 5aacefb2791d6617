-- What reading a line says of it.
use Rattle.std.proofs.Common.{◌≡◌, ℕ, ◌-◌, Bool, true, false, List, [], ◌∷◌, length, refl, ap, sym, ◌∙◌, subst, arith}
use Rattle.std.specs.Prelude.{if◌then◌else◌, Option, Some, None, Ok}
use Rattle.std.proofs.lemmas.List.{length-map}
use Rattle.mu_tree.specs.declared.refusal.LimitWord.{LimitWord}
use Rattle.mu_tree.specs.declared.refusal.LimitWord.TheVariants as limit
use Rattle.mu_grammar.specs.Tokens.{tokens}
use Rattle.mu_grammar.specs.Lexemes.{Lexeme, item, items_of}
use Rattle.mu_grammar.specs.Parts.{Out, found, stopped}
use Rattle.mu_text.proofs.Whole.{reads_exactly, only_value}
use Rattle.mu_grammar.specs.declared.excess.Excess.{Excess}
use Rattle.mu_grammar.specs.Excesses.{excess_of, no_excess}
use Rattle.mu_text.proofs.Excesses.{same_excess, raised-none}
use Rattle.mu_command.specs.declared.command.Command.{Command}
use Rattle.mu_command.specs.Grammar.{Written, Spells, GivesCommand, command_of, trees_of_command, read_command}
use Rattle.mu_grammar.specs.Texts.{has_short_tokens, column}
use Rattle.mu_text.proofs.Lines.{line_kept}
use Rattle.mu_command.specs.Language.{IsCommand}
use Rattle.mu_command.specs.Lines.{IsRead, ReadingIsExact, Says, first_limit, limit_of, or_text, within_limits, read_as, reading_of}
use Rattle.mu_command.specs.Canonical.{is_long}
use Rattle.mu_command.proofs.Exact.{Exact-command}
use Rattle.mu_command.proofs.Meant.{command_meant}

same_length : (line : List ℕ) → length (items_of line) ≡ length (tokens line)
same_length line = length-map (tokens line) (item line)

by_tests : (n d : Bool) → (if n then Some limit.Nodes else (if d then Some limit.Depth else None)) ≡ None → (n ≡ false) × (d ≡ false)
by_tests true d e = cc
by_tests false true e = cc
by_tests false false e = (refl, refl)

-- where no limit is passed, the names are short and no tree is too large
none_past : (short : Bool) (e : Excess) → first_limit short e ≡ None → (short ≡ true) × (e ≡ no_excess)
none_past true e i = let parts = by_tests e.nodes e.depth i in (refl, same_excess e no_excess parts.0 parts.1)
none_past false e i = cc

says_within : (line : List ℕ) (w : Written) → Spells (items_of line) w → (passed : Option LimitWord) → limit_of line w ≡ passed → Says line (within_limits passed (command_of w))
says_within line w g None e = (w, g, e, refl)
says_within line w g (Some word) e = (w, g, e)

says_as : (line : List ℕ) (out : Out Written) → read_command (items_of line) ≡ out → Says line (read_as line out)
says_as line (found w []) e = says_within line w (reads_exactly read_command Spells Exact-command (items_of line) (found w []) e) (limit_of line w) refl
says_as line (found w (T ∷ rest)) e = (
  length (items_of line) - length (T ∷ rest),
  reads_exactly read_command Spells Exact-command (items_of line) (found w (T ∷ rest)) e,
  ap (λ n. column (tokens line) (n - length (T ∷ rest))) (sym (same_length line)),
)
says_as line (stopped rest) e = (
  length (items_of line) - length rest,
  reads_exactly read_command Spells Exact-command (items_of line) (stopped rest) e,
  ap (λ n. column (tokens line) (n - length rest)) (sym (same_length line)),
)

is_read : (line : List ℕ) → IsRead line
unfolding reading_of
is_read line = record { says = says_as line (read_command (items_of line)) refl; one = only_value read_command Spells Exact-command (items_of line) }

pub reading_is_exact : ReadingIsExact
unfolding ReadingIsExact
reading_is_exact = is_read

no_limit : (passed : Option LimitWord) (long : Bool) → or_text passed long ≡ None → passed ≡ None
no_limit None long e = refl
no_limit (Some word) long e = cc

-- a command that a line reads as is of the language
pub read_of_language : (line : List ℕ) (c : Command) → reading_of line ≡ Ok c → IsCommand c
read_of_language line c e = says_language (subst (Says line) e (is_read line).says)
  where
    says_language : Says line (Ok c) → IsCommand c
    says_language (w, spells, none, same) =
        let within = none_past (has_short_tokens line) (excess_of (trees_of_command w)) (no_limit (first_limit (has_short_tokens line) (excess_of (trees_of_command w))) (is_long (command_of w)) none) in
        (line, (w, spells, within.0, within.1, same))

none_left : (rest : List Lexeme) → length rest ≡ 0 → rest ≡ []
none_left [] e = refl
none_left (T ∷ rest) e = absurd (omega arith)

-- what is answered of a command that is read to the end is what the line reads as
pub read_value : (line : List ℕ) (c : Command) (e : Excess) (rest : List Lexeme) → GivesCommand no_excess e (items_of line) (Ok c) rest → length rest ≡ 0
    → within_limits (or_text (first_limit (has_short_tokens line) e) (is_long c)) c ≡ reading_of line
unfolding reading_of
read_value line c e rest read none =
    ap (λ x. within_limits (or_text (first_limit (has_short_tokens line) x) (is_long c)) c) (read.stands.1 ∙ raised-none (trees_of_command read.value))
    ∙ (by_limit (first_limit (has_short_tokens line) (excess_of (trees_of_command read.value))) refl ∙ sym (ap (read_as line) whole))
  where
    whole : read_command (items_of line) ≡ found read.value []
    whole = read.is ∙ ap (λ r. found read.value r) (none_left rest none)

    spells : Spells (items_of line) read.value
    spells = reads_exactly read_command Spells Exact-command (items_of line) (found read.value []) whole

    by_limit : (passed : Option LimitWord) → first_limit (has_short_tokens line) (excess_of (trees_of_command read.value)) ≡ passed
        → within_limits (or_text passed (is_long c)) c ≡ within_limits (or_text passed (is_long (command_of read.value))) (command_of read.value)
    by_limit None i =
        let within = none_past (has_short_tokens line) (excess_of (trees_of_command read.value)) i in
        ap (λ x. within_limits (or_text None (is_long x)) x) (command_meant read.value (items_of line) c spells (line_kept line within.0) read.stands.0 within.1)
    by_limit (Some word) i = refl
