-- What a command that is read declares, and where, have plain names.
use Rattle.std.proofs.Common.{◌≡◌, ℕ, ◌+◌, Bool, true, false, List, [], ◌∷◌, ◌++◌, length, Some, refl, ap, sym, ◌∙◌, subst, arith}
use Rattle.std.specs.Prelude.{◌-◌, slice_index, ◌==◌, nat_le, count_by, codes, if◌then◌else◌}
use Rattle.std.specs.Bool.{nat_eq}
use Rattle.std.specs.List.{list_all, join_with_byte, AllByRecursion}
use Rattle.std.specs.Cmp.Lexicographic.{pointwise}
use Rattle.std.proofs.lemmas.Bool.{and_parts, eqb-true}
use Rattle.std.proofs.lemmas.List.Splits.{length-slice_split, join_with_byte-slice_split}
use Rattle.mu_tree.specs.Names.{is_segment, segments, is_name}
use Rattle.mu_grammar.specs.declared.symbol.Word.TheVariants.{Plain, Dotted, True}
use Rattle.mu_grammar.specs.declared.symbol.Mark.{Mark}
use Rattle.mu_grammar.specs.declared.symbol.Mark.TheVariants.{And, Or, Not, Arrow}
use Rattle.mu_grammar.specs.declared.symbol.Sort.TheVariants as sort
use Rattle.mu_grammar.specs.declared.token.Token.{Token}
use Rattle.mu_grammar.specs.declared.token.TokenSort.{TokenSort}
use Rattle.mu_grammar.specs.declared.token.TokenSort.TheVariants.{Name, Meta, Place, Symbol, Wrong}
use Rattle.mu_grammar.specs.Reading.{text_of}
use Rattle.mu_grammar.specs.Tokens.{tokens}
use Rattle.mu_grammar.specs.Lexemes.{Lexeme, word, mark, item, items, item_of, sort_in, word_in, name_word, name_sort, symbol_mark}
use Rattle.mu_grammar.specs.Rows.{Values, SpellsRow}
use Rattle.mu_grammar.specs.SimpleParts.{plain_name_of, PlainName}
use Rattle.mu_text.proofs.Excesses.{all_parts}
use Rattle.mu_text.proofs.Facts.{IsTokenOf, tokens_hold}
use Rattle.mu_text.proofs.Simple.{from_bytes}
use Rattle.mu_command.specs.declared.command.Command.{Command}
use Rattle.mu_command.specs.declared.forms.Form.{Form}
use Rattle.mu_command.specs.declared.parts.Part.{Part}
use Rattle.mu_command.specs.declared.parts.Part.TheVariants as part
use Rattle.mu_command.specs.Parts.{Value, SpellsPart}
use Rattle.mu_command.specs.Rows.{row, fields_of, said_by}
use Rattle.mu_command.specs.Grammar.{Spelled, command_of, make}
use Rattle.mu_command.specs.Language.{IsCommand}
use Rattle.mu_command.specs.Plain.{ArePlain, IsPlain, HasPlainNames}
use Rattle.mu_command.proofs.Meant.{fields_made, form_made}

one_segment : (parts : List (List ℕ)) → length parts ≡ 1 → list_all is_segment parts ≡ true → IsPlain (join_with_byte 46 parts)
one_segment [] size all = absurd (omega arith)
one_segment (part ∷ []) size all = (and_parts (is_segment part) true all).0
one_segment (part ∷ next ∷ parts) size all = absurd (omega arith)

-- a name without dots is one segment
undotted : (text : List ℕ) → is_name text ≡ true → (count_by (λ byte. byte == 46) text == 0) ≡ true → IsPlain text
undotted text spelled none =
    let count : count_by (λ byte. byte == 46) text ≡ 0 = eqb-true _ _ none in
    let size : length (segments text) ≡ 1 = length-slice_split (λ byte. byte == 46) text ∙ ap (λ n. n + 1) count in
    subst IsPlain (join_with_byte-slice_split 46 text) (one_segment (segments text) size (and_parts (list_all is_segment (segments text)) (nat_le (length (segments text)) 3) spelled).0)

-- where the token is a plain name, this has one segment
abbrev IsPlainItem : Lexeme → Type 0
IsPlainItem T = (text : List ℕ) → plain_name_of T ≡ Some text → IsPlain text

moved : (own text : List ℕ) → Some own ≡ Some text → IsPlain own → IsPlain text
moved own text e h = let same : own ≡ text = cc in subst IsPlain same h

plain_word : (text : List ℕ) → is_name text ≡ true → IsPlainItem (word (name_word text) text)
plain_word text spelled = by_true (pointwise nat_eq text (codes "true")) refl
  where
    by_dots : (none : Bool) → (count_by (λ byte. byte == 46) text == 0) ≡ none → IsPlainItem (word (if none then Plain else Dotted) text)
    by_dots true e = λ other i. moved text other i (undotted text spelled e)
    by_dots false e = λ other i. cc

    by_true : (is_true : Bool) → pointwise nat_eq text (codes "true") ≡ is_true → IsPlainItem (word (if is_true then True else (if count_by (λ byte. byte == 46) text == 0 then Plain else Dotted)) text)
    by_true true e = λ other i. moved text other i (moved (codes "true") text (sym (from_bytes (codes "true") (Some text) e)) refl)
    by_true false e = by_dots (count_by (λ byte. byte == 46) text == 0) refl

plain_mark : (m : Mark) → IsPlainItem (mark m)
plain_mark And = λ other i. moved (codes "and") other i refl
plain_mark Or = λ other i. moved (codes "or") other i refl
plain_mark Not = λ other i. moved (codes "not") other i refl
plain_mark _ = λ other i. cc

plain_sort : (text : List ℕ) → is_name text ≡ true → IsPlainItem (item_of (name_sort text) text)
plain_sort text spelled = by_words (pointwise nat_eq text (codes "and")) (pointwise nat_eq text (codes "or")) (pointwise nat_eq text (codes "not"))
  where
    by_words : (is_and is_or is_not : Bool) → IsPlainItem (item_of (if is_and then sort.Mark And else (if is_or then sort.Mark Or else (if is_not then sort.Mark Not else sort.Word (name_word text)))) text)
    by_words true is_or is_not = plain_mark And
    by_words false true is_not = plain_mark Or
    by_words false false true = plain_mark Not
    by_words false false false = plain_word text spelled

plain_as : (s : TokenSort) (text : List ℕ) → (s ≡ Name → is_name text ≡ true) → IsPlainItem (item_of (sort_in text s) (word_in text s))
plain_as Name text spelled = plain_sort text (spelled refl)
plain_as Meta text spelled = λ other i. cc
plain_as Place text spelled = λ other i. cc
plain_as Symbol text spelled = plain_mark (symbol_mark (slice_index text 0) (length text - 1))
plain_as Wrong text spelled = λ other i. cc

token_plain : (line : List ℕ) (token : Token) → IsTokenOf line token → IsPlainItem (item line token)
unfolding item
token_plain line token is = plain_as token.sort (text_of line token) is.name

tokens_plain : (line : List ℕ) (ts : List Token) → AllByRecursion (IsTokenOf line) ts → AllByRecursion IsPlainItem (items line ts)
tokens_plain line [] is = tt
tokens_plain line (token ∷ ts) is = (token_plain line token is.0, tokens_plain line ts is.1)

plain_spelled : (ts : List Lexeme) (text : List ℕ) → AllByRecursion IsPlainItem ts → PlainName ts text → IsPlain text
plain_spelled ts text are g = let first = subst (AllByRecursion IsPlainItem) g.1 are in first.0 text g.2

-- what the part says names something with one segment, where it is a plain name or a declaration
abbrev IsPlainPart : (each : Part) → Value each → Type 0
IsPlainPart part.Plain v = IsPlain v
IsPlainPart part.Declaration v = IsPlain v.name
IsPlainPart _ v = Unit {0}

-- so do those of a row
abbrev IsPlainRow : (parts : List Part) → Values Value parts → Type 0
IsPlainRow [] v = Unit {0}
IsPlainRow (each ∷ parts) v = IsPlainPart each v.0 × IsPlainRow parts v.1

part_plain : (each : Part) (ts : List Lexeme) (v : Value each) → AllByRecursion IsPlainItem ts → SpellsPart each ts v → IsPlainPart each v
part_plain part.Plain ts v are g = plain_spelled ts v are g
part_plain part.Declaration ts v are g =
    let here = all_parts IsPlainItem g.0 (g.1 ++ (mark Arrow ∷ g.2)) (subst (AllByRecursion IsPlainItem) g.3 are) in plain_spelled g.0 v.name here.0 g.4
part_plain _ ts v are g = tt

row_plain : (parts : List Part) (ts : List Lexeme) (v : Values Value parts) → AllByRecursion IsPlainItem ts → SpellsRow Value SpellsPart parts ts v → IsPlainRow parts v
row_plain [] ts v are g = tt
row_plain (each ∷ parts) ts v are g =
    let here = all_parts IsPlainItem g.0 g.1 (subst (AllByRecursion IsPlainItem) g.2 are) in
    (part_plain each g.0 v.0 here.0 g.3, row_plain parts g.1 v.1 here.1 g.4)

said_plain : (parts : List Part) (v : Values Value parts) → IsPlainRow parts v → ArePlain parts (said_by parts v)
said_plain [] v are = tt
said_plain (part.Plain ∷ parts) v are = (are.0, said_plain parts v.1 are.1)
said_plain (part.Declaration ∷ parts) v are = (are.0, said_plain parts v.1 are.1)
said_plain (_ ∷ parts) v are = said_plain parts v.1 are.1

command_plain : (form : Form) (v : Spelled form) → IsPlainRow (row form) v → HasPlainNames (command_of (form, v))
command_plain form v are =
    let parts = row form in
    subst (λ (f : Form). ArePlain (row f) (fields_of (make form v))) (sym (form_made form v)) (subst (ArePlain (row form)) (sym (fields_made form v)) (said_plain (row form) v are))

-- what a command of the language declares, and where, have plain names
pub language_plain : (c : Command) → IsCommand c → HasPlainNames c
language_plain c (line, (w, spells, short, none, same)) =
    let are = all_parts IsPlainItem spells.0 spells.1 (subst (AllByRecursion IsPlainItem) spells.2 (tokens_plain line (tokens line) (tokens_hold line))) in
    subst HasPlainNames (sym same) (command_plain w.0 w.1 (row_plain (row w.0) spells.1 w.1 are.1 spells.4))
