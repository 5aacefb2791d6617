-- The canonical text of a command of the language reads back.
use Rattle.std.proofs.Common.{◌≡◌, ℕ, Bool, true, false, List, [], ◌∷◌, ◌++◌, Option, Some, None, map, refl, ap, sym, ◌∙◌, subst, append_assoc, arith}
use Rattle.std.specs.Prelude.{codes, ◌&&◌, if◌then◌else◌, Ok, Err}
use Rattle.std.specs.List.{join_with_byte, AllByRecursion}
use Rattle.std.proofs.lemmas.Bool.{and_parts}
use Rattle.std.proofs.lemmas.List.Splits.{join_with_byte-slice_split}
use Rattle.mu_tree.specs.Names.{IsName}
use Rattle.mu_tree.specs.declared.refusal.Refusal.TheVariants.{LineTooLong}
use Rattle.mu_tables.specs.Words.{text_of}
use Rattle.mu_tables.specs.Tables.{the_forms}
use Rattle.mu_grammar.specs.declared.symbol.Word.TheVariants.{Plain}
use Rattle.mu_grammar.specs.declared.symbol.Mark.{Mark}
use Rattle.mu_grammar.specs.declared.symbol.Mark.TheVariants.{Colon, Eq}
use Rattle.mu_grammar.specs.Tokens.{first_token}
use Rattle.mu_grammar.specs.Lexemes.{Lexeme, word, mark, items_of}
use Rattle.mu_grammar.specs.Rows.{Values, SpellsRow}
use Rattle.mu_grammar.specs.Groups.{Optional}
use Rattle.mu_grammar.specs.Writings.{tree_of}
use Rattle.mu_grammar.specs.Spellings.{mark_text}
use Rattle.mu_grammar.specs.Claims.{claim_of}
use Rattle.mu_grammar.specs.Reasons.{why_of}
use Rattle.mu_grammar.specs.Blocks.{block_of}
use Rattle.mu_grammar.specs.Excesses.{excess_of, no_excess}
use Rattle.mu_grammar.specs.Texts.{ReadsText}
use Rattle.mu_grammar.proofs.Together.{none_together, none_of_both}
use Rattle.mu_text.proofs.Whole.{reads_it}
use Rattle.mu_print.specs.Sound.{SoundName, RightLexeme}
use Rattle.mu_print.specs.Canonical.{tree_text}
use Rattle.mu_print.specs.Texts.{block_text, claim_text, declaration_text, formals_text, reason_text}
use Rattle.mu_print.proofs.Scan.{scan, word_run}
use Rattle.mu_print.proofs.Again.{Lexed, Fixed, KeepsStop, lexed_nothing, lexed_then, lexed_behind_blank, keeps_stop-append, keeps_stop-surrounded, Readable, readable_parts, Printed, Reprints, reads_back}
use Rattle.mu_print.proofs.Separators.{fixed_word}
use Rattle.mu_print.proofs.GroupsBack.{reprints_behind}
use Rattle.mu_print.proofs.NamesBack.{reprints_name, reprints_plain_name}
use Rattle.mu_print.proofs.TreesBack.{reprints_tree}
use Rattle.mu_print.proofs.BlocksBack.{reprints_block}
use Rattle.mu_print.proofs.ClaimsBack.{reprints_claim}
use Rattle.mu_print.proofs.ReasonsBack.{reprints_reason}
use Rattle.mu_print.proofs.DeclarationsBack.{reprints_declaration, reprints_formals}
use Rattle.mu_command.specs.declared.command.Command.{Command}
use Rattle.mu_command.specs.declared.forms.Form.{Form}
use Rattle.mu_command.specs.declared.forms.Form.TheVariants.{Theory, AlterConst, AlterRule, AlterLine, AlterBox, DropUnit, DropConst, DropRule, DropProof, DropItem, ShowUnit, ShowRule, ShowProof}
use Rattle.mu_command.specs.declared.parts.Keyword.{Keyword}
use Rattle.mu_command.specs.declared.parts.Keyword.TheVariants.{In, To}
use Rattle.mu_command.specs.declared.parts.Part.{Part}
use Rattle.mu_command.specs.declared.parts.Part.TheVariants as part
use Rattle.mu_command.specs.declared.parts.Field.TheVariants as field
use Rattle.mu_command.specs.Forms.{number, words}
use Rattle.mu_command.specs.Parts.{Value, IsBefore, SpellsPart, keyword_text, said, trees_in}
use Rattle.mu_command.specs.Rows.{row, form_of, fields_of, said_by, trees_of, with_first}
use Rattle.mu_command.specs.Canonical.{spaced, before_text, command_text, field_text, form_text, is_long, row_text}
use Rattle.mu_command.specs.Grammar.{Written, Spells, command_of, make, trees_of_command, read_command}
use Rattle.mu_command.specs.Language.{CommandsReadBack}
use Rattle.mu_command.specs.Lines.{first_limit, is_quiet, line_read, or_text, read_as, reading_of, some_command, within_limits}
use Rattle.mu_command.proofs.Bare.{cut}
use Rattle.mu_command.proofs.Exact.{Exact-command}
use Rattle.mu_command.proofs.Meant.{same_command, form_made, fields_made}

-- the text of a part
abbrev part_text : (each : Part) → Value each → List ℕ
part_text part.Name v = spaced v
part_text part.Plain v = spaced v
part_text (part.Word keyword) v = spaced (keyword_text keyword)
part_text (part.Sign m) v = spaced (mark_text m)
part_text part.Declaration v = spaced (declaration_text v.name v.shape v.result)
part_text part.Formals v = formals_text v
part_text part.Before v = before_text v
part_text part.Tree v = spaced (tree_text (tree_of v))
part_text part.Claim v = spaced (claim_text (claim_of v))
part_text part.Reason v = spaced (reason_text (why_of v))
part_text part.Block v = spaced (block_text (block_of v).0 (block_of v).1)

first_text : (each : Part) (parts : List Part) (v : Value each) (w : Values Value parts) → row_text (each ∷ parts) (with_first (said each v) (said_by parts w)) ≡ part_text each v ++ row_text parts (said_by parts w)
unfolding row_text field_text
first_text part.Name parts v w = refl
first_text _ parts v w = refl

-- a mark that stands between blanks
abbrev is_separator : Mark → Bool
is_separator Colon = true
is_separator Eq = true
is_separator _ = false

sign_run : (m : Mark) → is_separator m ≡ true → (r : List ℕ) → scan 0 (32 ∷ (mark_text m ++ (32 ∷ r))) ≡ mark m ∷ scan 0 r
unfolding first_token
sign_run Colon e r = refl
sign_run Eq e r = refl
sign_run _ e r = cc

separator_right : (m : Mark) → is_separator m ≡ true → RightLexeme (mark m)
separator_right Colon e = tt
separator_right Eq e = tt
separator_right _ e = cc

-- the first part stands behind a blank
abbrev begins_spaced : List Part → Bool
begins_spaced [] = false
begins_spaced (part.Formals ∷ parts) = false
begins_spaced (part.Before ∷ parts) = false
begins_spaced (each ∷ parts) = true

-- each mark of the row stands between blanks
abbrev are_apart : List Part → Bool
are_apart [] = true
are_apart (part.Sign m ∷ parts) = is_separator m && (begins_spaced parts && are_apart parts)
are_apart (each ∷ parts) = are_apart parts

rest_apart : (each : Part) (parts : List Part) → are_apart (each ∷ parts) ≡ true → are_apart parts ≡ true
rest_apart (part.Sign m) parts e = (and_parts (begins_spaced parts) (are_apart parts) (and_parts (is_separator m) (begins_spaced parts && are_apart parts) e).1).1
rest_apart _ parts e = e

forms_apart : (form : Form) → are_apart (row form) ≡ true
forms_apart Theory = refl
forms_apart _ = refl

abbrev BeginsBlank : List ℕ → Type 0
BeginsBlank text = (tail : List ℕ) × (text ≡ 32 ∷ tail)

spaced_first : (parts : List Part) (v : Values Value parts) → begins_spaced parts ≡ true → BeginsBlank (row_text parts (said_by parts v))
spaced_first [] v e = cc
spaced_first (part.Formals ∷ parts) v e = cc
spaced_first (part.Before ∷ parts) v e = cc
spaced_first (part.Name ∷ parts) v e = (_, first_text part.Name parts v.0 v.1)
spaced_first (part.Plain ∷ parts) v e = (_, first_text part.Plain parts v.0 v.1)
spaced_first (part.Word keyword ∷ parts) v e = (_, first_text (part.Word keyword) parts v.0 v.1)
spaced_first (part.Sign m ∷ parts) v e = (_, first_text (part.Sign m) parts v.0 v.1)
spaced_first (part.Declaration ∷ parts) v e = (_, first_text part.Declaration parts v.0 v.1)
spaced_first (part.Tree ∷ parts) v e = (_, first_text part.Tree parts v.0 v.1)
spaced_first (part.Claim ∷ parts) v e = (_, first_text part.Claim parts v.0 v.1)
spaced_first (part.Reason ∷ parts) v e = (_, first_text part.Reason parts v.0 v.1)
spaced_first (part.Block ∷ parts) v e = (_, first_text part.Block parts v.0 v.1)

before_stops : (before : Option (List ℕ)) → KeepsStop (before_text before)
before_stops None r s = s
before_stops (Some item) r s = (refl, refl)

part_stops : (each : Part) (v : Value each) → KeepsStop (part_text each v)
part_stops part.Formals v = keeps_stop-surrounded (codes "(") (codes ", ") (codes ")") v (λ r. (refl, refl))
part_stops part.Before v = before_stops v
part_stops _ v = λ r s. (refl, refl)

row_stops : (parts : List Part) (v : Values Value parts) → KeepsStop (row_text parts (said_by parts v))
unfolding row_text
row_stops [] v = λ r s. s
row_stops (each ∷ parts) v =
    subst KeepsStop (sym (first_text each parts v.0 v.1)) (keeps_stop-append (part_text each v.0) (row_text parts (said_by parts v.1)) (part_stops each v.0) (row_stops parts v.1))

before_word : Fixed (codes " before ") (word Plain (codes "before") ∷ [])
unfolding first_token
before_word = fixed_word (codes " before ") (codes "before") (record { spelled = refl; short = refl }) (λ r. refl)

keyword_lexed : (keyword : Keyword) → Lexed (keyword_text keyword) (word Plain (keyword_text keyword) ∷ [])
keyword_lexed In = record { lexes = λ r s. word_run Plain (codes "in") r (refl, refl, omega arith, refl) s; right = (tt, tt); within = (record { spelled = refl; short = refl }, tt) }
keyword_lexed To = record { lexes = λ r s. word_run Plain (codes "to") r (refl, refl, omega arith, refl) s; right = (tt, tt); within = (record { spelled = refl; short = refl }, tt) }

-- what is printed of a part
abbrev PrintedPart : (each : Part) → Value each → Type 0
PrintedPart each v = Printed (SpellsPart each) (trees_in each) (said each) (said each v) (part_text each v)

-- a part that is no mark is printed so
printed_part : (each : Part) (ts : List Lexeme) (v : Value each) → Readable ts → SpellsPart each ts v → excess_of (trees_in each v) ≡ no_excess → ((m : Mark) → each ≡ part.Sign m → ⊥) → PrintedPart each v
printed_part part.Name ts v readable g none unmarked =
    let p = reprints_name.reprint ts v readable g refl in
    record { value = p.value; spelled = p.spelled; lexed = lexed_behind_blank p.lexed; spells = p.spells; limits = refl; means = ap (λ x. Some (field.Name x)) p.means }
printed_part part.Plain ts v readable g none unmarked =
    let p = reprints_plain_name.reprint ts v readable g refl in
    record { value = p.value; spelled = p.spelled; lexed = lexed_behind_blank p.lexed; spells = p.spells; limits = refl; means = ap (λ x. Some (field.Name x)) p.means }
printed_part (part.Word keyword) ts v readable g none unmarked =
    let text = keyword_text keyword in
    record { value = tt; spelled = word Plain text ∷ []; lexed = lexed_behind_blank (keyword_lexed keyword); spells = (word Plain text, refl, refl); limits = refl; means = refl }
printed_part (part.Sign m) ts v readable g none unmarked = absurd (unmarked m refl)
printed_part part.Declaration ts v readable g none unmarked =
    let p = reprints_declaration.reprint ts v readable g refl in
    record { value = p.value; spelled = p.spelled; lexed = lexed_behind_blank p.lexed; spells = p.spells; limits = refl; means = ap (λ x. Some (field.Declaration x)) p.means }
printed_part part.Formals ts v readable g none unmarked =
    let p = reprints_formals.reprint ts v readable g refl in
    record { value = p.value; spelled = p.spelled; lexed = p.lexed; spells = p.spells; limits = refl; means = ap (λ x. Some (field.Formals x)) p.means }
printed_part part.Before ts v readable g none unmarked = printed_before ts v readable g
  where
    printed_before : (us : List Lexeme) (x : Option (List ℕ)) → Readable us → Optional IsBefore us x → PrintedPart part.Before x
    printed_before us None r h = record { value = None; spelled = []; lexed = lexed_nothing; spells = refl; limits = refl; means = refl }
    printed_before us (Some item) r h =
        let p = (reprints_behind before_word reprints_name).reprint us item r h refl in
        record { value = Some p.value; spelled = p.spelled; lexed = p.lexed; spells = p.spells; limits = refl; means = ap (λ x. Some (field.Before (Some x))) p.means }
printed_part part.Tree ts v readable g none unmarked =
    let p = reprints_tree.reprint ts v readable g none in
    record { value = p.value; spelled = p.spelled; lexed = lexed_behind_blank p.lexed; spells = p.spells; limits = p.limits; means = ap (λ x. Some (field.Tree x)) p.means }
printed_part part.Claim ts v readable g none unmarked =
    let p = reprints_claim.reprint ts v readable g none in
    record { value = p.value; spelled = p.spelled; lexed = lexed_behind_blank p.lexed; spells = p.spells; limits = p.limits; means = ap (λ x. Some (field.Claim x)) p.means }
printed_part part.Reason ts v readable g none unmarked =
    let p = reprints_reason.reprint ts v readable g none in
    record { value = p.value; spelled = p.spelled; lexed = lexed_behind_blank p.lexed; spells = p.spells; limits = p.limits; means = ap (λ x. Some (field.Reason x)) p.means }
printed_part part.Block ts v readable g none unmarked =
    let p = reprints_block.reprint ts v readable g none in
    record { value = p.value; spelled = p.spelled; lexed = lexed_behind_blank p.lexed; spells = p.spells; limits = p.limits; means = ap (λ x. Some (field.Block x.0 x.1)) p.means }

-- what is printed of some parts
abbrev PrintedRow : (parts : List Part) → Values Value parts → Type 0
PrintedRow parts v = Printed (SpellsRow Value SpellsPart parts) (trees_of parts) (said_by parts) (said_by parts v) (row_text parts (said_by parts v))

-- a part, and behind it others
joined : (each : Part) (parts : List Part) (v : Value each) (w : Values Value parts) (p : PrintedPart each v) → PrintedRow parts w → PrintedRow (each ∷ parts) (v, w)
joined each parts v w p q = record {
  value = (p.value, q.value);
  spelled = p.spelled ++ q.spelled;
  lexed = subst (λ (text : List ℕ). Lexed text (p.spelled ++ q.spelled)) (sym (first_text each parts v w)) (lexed_then p.lexed (row_stops parts w) q.lexed);
  spells = (p.spelled, q.spelled, refl, p.spells, q.spells);
  limits = none_of_both (trees_in each p.value) (trees_of parts q.value) p.limits q.limits;
  means = ap (λ o. with_first o (said_by parts q.value)) p.means ∙ ap (with_first (said each v)) q.means;
}

-- a mark, and behind it others that begin with a blank
marked : (m : Mark) (parts : List Part) (w : Values Value parts) → is_separator m ≡ true → BeginsBlank (row_text parts (said_by parts w)) → PrintedRow parts w → PrintedRow (part.Sign m ∷ parts) (tt, w)
marked m parts w apart (tail, is) q = record {
  value = (tt, q.value);
  spelled = mark m ∷ q.spelled;
  lexed = subst (λ (text : List ℕ). Lexed text (mark m ∷ q.spelled)) (sym (first_text (part.Sign m) parts tt w ∙ ap (λ text. spaced (mark_text m) ++ text) is)) lexed;
  spells = (mark m ∷ [], q.spelled, refl, refl, q.spells);
  limits = q.limits;
  means = q.means;
}
  where
    behind : Lexed (32 ∷ tail) q.spelled
    behind = subst (λ (text : List ℕ). Lexed text q.spelled) is q.lexed

    lexed : Lexed (spaced (mark_text m) ++ (32 ∷ tail)) (mark m ∷ q.spelled)
    lexed = record {
      lexes = λ r s. ap (λ text. scan 0 (32 ∷ text)) (append_assoc (mark_text m) (32 ∷ tail) r) ∙ (sign_run m apart (tail ++ r) ∙ ap (λ l. mark m ∷ l) (behind.lexes r s));
      right = (separator_right m apart, behind.right);
      within = (tt, behind.within);
    }

printed_row : (parts : List Part) (ts : List Lexeme) (v : Values Value parts) → are_apart parts ≡ true → Readable ts → SpellsRow Value SpellsPart parts ts v → excess_of (trees_of parts v) ≡ no_excess → PrintedRow parts v
unfolding row_text
printed_row [] ts v apart readable g none = record { value = tt; spelled = []; lexed = lexed_nothing; spells = refl; limits = refl; means = refl }
printed_row (each ∷ parts) ts v apart readable g none =
    let halves = readable_parts g.0 g.1 ts g.2 readable in
    let n = none_together (trees_in each v.0) (trees_of parts v.1) none in
    by_part each v.0 apart halves.0 g.3 n.0 (printed_row parts g.1 v.1 (rest_apart each parts apart) halves.1 g.4 n.1)
  where
    unless_mark : (other : Part) (x : Value other) → ((m : Mark) → other ≡ part.Sign m → ⊥) → Readable g.0 → SpellsPart other g.0 x → excess_of (trees_in other x) ≡ no_excess → PrintedRow parts v.1 → PrintedRow (other ∷ parts) (x, v.1)
    unless_mark other x unmarked r h few q = joined other parts x v.1 (printed_part other g.0 x r h few unmarked) q

    by_part : (other : Part) (x : Value other) → are_apart (other ∷ parts) ≡ true → Readable g.0 → SpellsPart other g.0 x → excess_of (trees_in other x) ≡ no_excess → PrintedRow parts v.1 → PrintedRow (other ∷ parts) (x, v.1)
    by_part (part.Sign m) x e r h few q =
        let tests = and_parts (is_separator m) (begins_spaced parts && are_apart parts) e in
        marked m parts v.1 tests.0 (spaced_first parts v.1 (and_parts (begins_spaced parts) (are_apart parts) tests.1).0) q
    by_part other x e r h few q = unless_mark other x (λ m same. cc) r h few q

-- a word of a form is read back
abbrev IsFormWord : List ℕ → Type 0
IsFormWord text = SoundName Plain text × IsName text

lexed_word : (text : List ℕ) → IsFormWord text → Lexed text (word Plain text ∷ [])
lexed_word text sound = record { lexes = λ r s. word_run Plain text r sound.0 s; right = (tt, tt); within = (sound.1, tt) }

joined_lexed : (text : List ℕ) (texts : List (List ℕ)) → AllByRecursion IsFormWord (text ∷ texts) → Lexed (join_with_byte 32 (text ∷ texts)) (map (word Plain) (text ∷ texts))
joined_lexed text [] all = lexed_word text all.0
joined_lexed text (next ∷ texts) all = lexed_then (lexed_word text all.0) (λ r s. (refl, refl)) (lexed_behind_blank (joined_lexed next texts all.1))

forms_sound : (form : Form) → AllByRecursion IsFormWord (words form)
forms_sound AlterConst = (((refl, refl, omega arith, refl), record { spelled = refl; short = refl }), (((refl, refl, omega arith, refl), record { spelled = refl; short = refl }), tt))
forms_sound AlterRule = (((refl, refl, omega arith, refl), record { spelled = refl; short = refl }), (((refl, refl, omega arith, refl), record { spelled = refl; short = refl }), tt))
forms_sound AlterLine = (((refl, refl, omega arith, refl), record { spelled = refl; short = refl }), (((refl, refl, omega arith, refl), record { spelled = refl; short = refl }), tt))
forms_sound AlterBox = (((refl, refl, omega arith, refl), record { spelled = refl; short = refl }), (((refl, refl, omega arith, refl), record { spelled = refl; short = refl }), tt))
forms_sound DropUnit = (((refl, refl, omega arith, refl), record { spelled = refl; short = refl }), (((refl, refl, omega arith, refl), record { spelled = refl; short = refl }), tt))
forms_sound DropConst = (((refl, refl, omega arith, refl), record { spelled = refl; short = refl }), (((refl, refl, omega arith, refl), record { spelled = refl; short = refl }), tt))
forms_sound DropRule = (((refl, refl, omega arith, refl), record { spelled = refl; short = refl }), (((refl, refl, omega arith, refl), record { spelled = refl; short = refl }), tt))
forms_sound DropProof = (((refl, refl, omega arith, refl), record { spelled = refl; short = refl }), (((refl, refl, omega arith, refl), record { spelled = refl; short = refl }), tt))
forms_sound DropItem = (((refl, refl, omega arith, refl), record { spelled = refl; short = refl }), (((refl, refl, omega arith, refl), record { spelled = refl; short = refl }), tt))
forms_sound ShowUnit = (((refl, refl, omega arith, refl), record { spelled = refl; short = refl }), (((refl, refl, omega arith, refl), record { spelled = refl; short = refl }), tt))
forms_sound ShowRule = (((refl, refl, omega arith, refl), record { spelled = refl; short = refl }), (((refl, refl, omega arith, refl), record { spelled = refl; short = refl }), tt))
forms_sound ShowProof = (((refl, refl, omega arith, refl), record { spelled = refl; short = refl }), (((refl, refl, omega arith, refl), record { spelled = refl; short = refl }), tt))
forms_sound _ = (((refl, refl, omega arith, refl), record { spelled = refl; short = refl }), tt)

words_lexed : (form : Form) → Lexed (text_of (number form) the_forms) (map (word Plain) (words form))
words_lexed form =
    let parts = cut (text_of (number form) the_forms) in
    let lexed = joined_lexed parts.0 parts.1 (subst (AllByRecursion IsFormWord) parts.2 (forms_sound form)) in
    let same : join_with_byte 32 (parts.0 ∷ parts.1) ≡ text_of (number form) the_forms = ap (join_with_byte 32) (sym parts.2) ∙ join_with_byte-slice_split 32 (text_of (number form) the_forms) in
    subst (λ (ts : List Lexeme). Lexed (text_of (number form) the_forms) ts) (ap (map (word Plain)) (sym parts.2)) (subst (λ (text : List ℕ). Lexed text (map (word Plain) (parts.0 ∷ parts.1))) same lexed)

text_is : (w : Written) → command_text (command_of w) ≡ text_of (number w.0) the_forms ++ row_text (row w.0) (said_by (row w.0) w.1)
unfolding command_text
text_is w = ap (λ form. form_text form (fields_of (make w.0 w.1))) (form_made w.0 w.1) ∙ ap (form_text w.0) (fields_made w.0 w.1)

reprints_command : Reprints Spells trees_of_command command_of command_text
reprints_command = record {
  reprint = λ ts w readable g none.
      let parts = readable_parts g.0 g.1 ts g.2 readable in
      let p = printed_row (row w.0) g.1 w.1 (forms_apart w.0) parts.1 g.4 none in
      let spelled : List Lexeme = map (word Plain) (words w.0) ++ p.spelled in
      record {
        value = (w.0, p.value);
        spelled = spelled;
        lexed = subst (λ (text : List ℕ). Lexed text spelled) (sym (text_is w)) (lexed_then (words_lexed w.0) (row_stops (row w.0) w.1) p.lexed);
        spells = (map (word Plain) (words w.0), p.spelled, refl, refl, p.spells);
        limits = p.limits;
        means = same_command (command_of (w.0, p.value)) (command_of w) (form_made w.0 p.value ∙ sym (form_made w.0 w.1)) (fields_made w.0 p.value ∙ (p.means ∙ sym (fields_made w.0 w.1)));
      };
}

-- a text that reads as a command is read so, where it is not too long
read_again : (text : List ℕ) (c : Command) → ReadsText Spells trees_of_command command_of text (Ok c) → is_long c ≡ false → reading_of text ≡ Ok c
unfolding reading_of
read_again text c (w, spells, short, none, same) fits =
    ap (read_as text) (reads_it read_command Spells Exact-command (items_of text) w spells)
    ∙ (ap (λ b. within_limits (or_text (first_limit b (excess_of (trees_of_command w))) (is_long (command_of w))) (command_of w)) short
    ∙ (ap (λ e. within_limits (or_text (first_limit true e) (is_long (command_of w))) (command_of w)) none
    ∙ (ap (λ long. within_limits (or_text None long) (command_of w)) (ap is_long (sym same) ∙ fits) ∙ ap Ok (sym same))))

not_quiet : (form : Form) (r : List ℕ) → is_quiet (text_of (number form) the_forms ++ r) ≡ false
not_quiet Theory r = refl
not_quiet _ r = refl

command_not_quiet : (c : Command) → is_quiet (command_text c) ≡ false
unfolding command_text
command_not_quiet c = not_quiet (form_of c) (row_text (row (form_of c)) (fields_of c))

line_again : (c : Command) → reading_of (command_text c) ≡ Ok c → is_long c ≡ false → line_read (command_text c) ≡ Ok (Some c)
unfolding line_read
line_again c e fits =
    ap (λ long. if long then Err LineTooLong else (if is_quiet (command_text c) then Ok None else some_command (reading_of (command_text c)))) fits
    ∙ (ap (λ quiet. if quiet then Ok None else some_command (reading_of (command_text c))) (command_not_quiet c) ∙ ap some_command e)

pub commands_read_back : CommandsReadBack
unfolding CommandsReadBack
commands_read_back c language =
    let back = reads_back Spells trees_of_command command_of command_text reprints_command c language in
    record { grammar = back; line = λ fits. line_again c (read_again (command_text c) c back fits) fits }
