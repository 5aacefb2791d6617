-- The words of a form, and the parts that follow them.
use Rattle.std.proofs.Common.{◌≡◌, ◌<◌, ◌≤◌, ◌∙◌, ap, sym, refl, subst, length, arith}
use Rattle.std.specs.Prelude.{ℕ, ◌-◌, List, [], ◌∷◌, ◌++◌, drop, take, slice_index_or, Option, Some, Ok, Err, Bool, true, false, if◌then◌else◌, ◌&&◌, None, is_some, option_and_then}
use Rattle.mu_tables.specs.Words.{is_bare, lengthened, number_behind, number_of, some_begins}
use Rattle.mu_tables.specs.Tables.{the_forms}
use Rattle.mu_grammar.specs.declared.excess.Excess.{Excess}
use Rattle.mu_grammar.specs.declared.fault.PartFault.{PartFault}
use Rattle.mu_grammar.specs.declared.fault.PartFault.TheVariants.{Mismatch, NoMemory}
use Rattle.mu_grammar.specs.declared.symbol.Sort.TheVariants as sort
use Rattle.mu_grammar.specs.declared.symbol.Word.TheVariants.{Plain, Dotted, True, Meta, Place}
use Rattle.mu_grammar.specs.Lexemes.{Lexeme, word, mark, first_sort, first_bytes, after_first}
use Rattle.mu_grammar.specs.Parts.{found, ◌>>=◌, Read, Gives, Same, first_as, starts, taken, token}
use Rattle.mu_grammar.specs.Rows.{Values, read_row}
use Rattle.mu_grammar.specs.Excesses.{Raising, raised}
use Rattle.mu_text.proofs.Excesses.{raised-append}
use Rattle.mu_command.specs.declared.command.Command.{Command}
use Rattle.mu_command.specs.declared.forms.Form.{Form}
use Rattle.mu_command.specs.Forms.{is_front, named, numbered, read_form}
use Rattle.mu_command.specs.Words.{ended_by, goes_on, read_words}
use Rattle.mu_command.specs.declared.parts.Part.{Part}
use Rattle.mu_command.specs.declared.parts.Part.TheVariants as part
use Rattle.mu_command.specs.declared.parts.Field.{Field}
use Rattle.mu_command.specs.declared.parts.Field.TheVariants as field
use Rattle.mu_command.specs.Parts.{Value, read_part, trees_in, StandsPart}
use Rattle.mu_command.specs.Rows.{row, form_of, fields_of, trees_of, with_first, StandsRow}
use Rattle.mu_command.specs.Making.{asked, first, sorts_of, name, declaration, formals, before, tree, claim, reason, block}
use Rattle.mu_command.specs.Grammar.{GivesCommand, GivesPart, GivesRow, read_command, read_parts}

-- a part without trees
pub silent : {A : Type 0} (each : Part) (wrap : A → Option Field) → ((v : Value each) → trees_in each v ≡ []) → (e : Excess) (ts rest : List Lexeme) (y : A) → Read (λ v k. StandsPart each v (wrap k)) (read_part each ts) y rest
    → GivesPart each e e ts (Ok (wrap y)) rest
silent each wrap none e ts rest y read = record { value = read.value; is = read.is; stands = (read.stands, sym (ap (λ ws. raised ws e) (none read.value))) }

-- a part with trees
pub raising : {A : Type 0} (each : Part) (wrap : A → Option Field) → (start now : Excess) (ts rest : List Lexeme) (y : A)
    → Read (Raising (λ v k. StandsPart each v (wrap k)) (trees_in each) start now) (read_part each ts) y rest → GivesPart each start now ts (Ok (wrap y)) rest
raising each wrap start now ts rest y read = record { value = read.value; is = read.is; stands = read.stands }

-- a part that says nothing
pub mute : {B : Type 0} (each : Part) (S : Value each → B → Type 0) → ((v : Value each) → trees_in each v ≡ []) → ((v : Value each) → StandsPart each v None) → (e : Excess) (ts rest : List Lexeme) (y : B)
    → Read S (read_part each ts) y rest → GivesPart each e e ts (Ok None) rest
mute each S none nothing e ts rest y read = record { value = read.value; is = read.is; stands = (nothing read.value, sym (ap (λ ws. raised ws e) (none read.value))) }

-- where a part stops
pub part_stops : {B : Type 0} (each : Part) (S : Value each → B → Type 0) (start now : Excess) (ts rest : List Lexeme) (fault : PartFault) → Gives S (read_part each ts) (Err fault) rest → GivesPart each start now ts (Err fault) rest
part_stops each S start now ts rest Mismatch stops = stops
part_stops each S start now ts rest NoMemory stops = tt

-- the end of a row
pub row_ends : (e : Excess) (ts : List Lexeme) → GivesRow [] e e ts (Ok []) ts
unfolding read_row
row_ends e ts = record { value = tt; is = refl; stands = (refl, refl) }

-- one part, and then the rest of the row
pub row_goes_on : (each : Part) (parts : List Part) (start mid now : Excess) (ts behind rest : List Lexeme) (first : Option Field) (others fields : List Field) → GivesPart each start mid ts (Ok first) behind
    → GivesRow parts mid now behind (Ok others) rest → fields ≡ with_first first others → GivesRow (each ∷ parts) start now ts (Ok fields) rest
unfolding read_row
row_goes_on each parts start mid now ts behind rest first others fields head next same = record {
  value = (head.value, next.value);
  is =
      ap (λ out. out >>= (λ x l. read_row Value read_part parts l >>= (λ xs left. found (x, xs) left))) head.is
      ∙ ap (λ out. out >>= (λ xs left. found (head.value, xs) left)) next.is;
  stands = (
    (first, others, same, head.stands.0, next.stands.0),
    next.stands.1 ∙ (ap (raised (trees_of parts next.value)) head.stands.1 ∙ sym (raised-append (trees_in each head.value) (trees_of parts next.value) start)),
  );
}

take_all : (parts : List Part) → take (length parts) parts ≡ parts
take_all [] = refl
take_all (each ∷ parts) = ap (λ l. each ∷ l) (take_all parts)

-- a row with a part in it is its first part and the others
pub split_row : (parts : List Part) → 1 ≤ length parts → parts ≡ slice_index_or parts 0 part.Name ∷ take (length parts - 1) (drop 1 parts)
split_row [] some = absurd (omega arith)
split_row (each ∷ parts) some =
    let size : length (each ∷ parts) - 1 ≡ length parts = omega arith in
    sym (ap (λ l. each ∷ l) (ap (λ n. take n parts) size ∙ take_all parts))

-- a row without a part is empty
pub empty_row : (parts : List Part) → length parts < 1 → parts ≡ []
empty_row [] none = refl
empty_row (each ∷ parts) none = absurd (omega arith)

-- a row stops where its first part does
pub row_stops_at_first : (each : Part) (parts : List Part) (start mid now : Excess) (ts rest : List Lexeme) (fault : PartFault) → GivesPart each start mid ts (Err fault) rest → GivesRow (each ∷ parts) start now ts (Err fault) rest
unfolding read_row
row_stops_at_first each parts start mid now ts rest Mismatch stops = ap (λ out. out >>= (λ x l. read_row Value read_part parts l >>= (λ xs left. found (x, xs) left))) stops
row_stops_at_first each parts start mid now ts rest NoMemory stops = tt

-- or behind it
pub row_stops_behind : (each : Part) (parts : List Part) (start mid now : Excess) (ts behind rest : List Lexeme) (first : Option Field) (fault : PartFault) → GivesPart each start mid ts (Ok first) behind
    → GivesRow parts mid now behind (Err fault) rest → GivesRow (each ∷ parts) start now ts (Err fault) rest
unfolding read_row
row_stops_behind each parts start mid now ts behind rest first Mismatch head stops =
    ap (λ out. out >>= (λ x l. read_row Value read_part parts l >>= (λ xs left. found (x, xs) left))) head.is
    ∙ ap (λ out. out >>= (λ xs left. found (head.value, xs) left)) stops
row_stops_behind each parts start mid now ts behind rest first NoMemory head stops = tt

part_sort : (each : Part) (parts : List Part) (v : Value each) (first : Option Field) (others : List Field) → StandsPart each v first → sorts_of others ≡ asked parts → sorts_of (with_first first others) ≡ asked (each ∷ parts)
unfolding sorts_of
part_sort part.Name parts v (Some (field.Name k)) others s e = ap (λ sorts. name ∷ sorts) e
part_sort part.Name parts v _ others s e = absurd s
part_sort part.Plain parts v (Some (field.Name k)) others s e = ap (λ sorts. name ∷ sorts) e
part_sort part.Plain parts v _ others s e = absurd s
part_sort (part.Word keyword) parts v None others s e = e
part_sort (part.Word keyword) parts v (Some k) others s e = absurd s
part_sort (part.Sign m) parts v None others s e = e
part_sort (part.Sign m) parts v (Some k) others s e = absurd s
part_sort part.Declaration parts v (Some (field.Declaration k)) others s e = ap (λ sorts. declaration ∷ sorts) e
part_sort part.Declaration parts v _ others s e = absurd s
part_sort part.Formals parts v (Some (field.Formals k)) others s e = ap (λ sorts. formals ∷ sorts) e
part_sort part.Formals parts v _ others s e = absurd s
part_sort part.Before parts v (Some (field.Before k)) others s e = ap (λ sorts. before ∷ sorts) e
part_sort part.Before parts v _ others s e = absurd s
part_sort part.Tree parts v (Some (field.Tree k)) others s e = ap (λ sorts. tree ∷ sorts) e
part_sort part.Tree parts v _ others s e = absurd s
part_sort part.Claim parts v (Some (field.Claim k)) others s e = ap (λ sorts. claim ∷ sorts) e
part_sort part.Claim parts v _ others s e = absurd s
part_sort part.Reason parts v (Some (field.Reason k)) others s e = ap (λ sorts. reason ∷ sorts) e
part_sort part.Reason parts v _ others s e = absurd s
part_sort part.Block parts v (Some (field.Block vars assumptions)) others s e = ap (λ sorts. block ∷ sorts) e
part_sort part.Block parts v _ others s e = absurd s

row_sorts : (parts : List Part) (v : Values Value parts) (fields : List Field) → StandsRow parts v fields → sorts_of fields ≡ asked parts
unfolding sorts_of
row_sorts [] v fields s = ap sorts_of s
row_sorts (each ∷ parts) v fields (one, others, is, here, behind) = ap sorts_of is ∙ part_sort each parts v.0 one others here (row_sorts parts v.1 others behind)

-- a field of a sort is first
pub begins_some : (fields : List Field) → is_some (first (sorts_of fields)) ≡ true → 0 < length fields
unfolding sorts_of
begins_some [] e = cc
begins_some (f ∷ fields) e = omega arith

-- where no sort is left, no field is
pub none_left : (fields : List Field) → sorts_of fields ≡ [] → fields ≡ []
unfolding sorts_of
none_left [] e = refl
none_left (f ∷ fields) e = cc

-- what a row gives has the sorts that it asks for
pub row_is_sorted : (parts : List Part) (start now : Excess) (ts rest : List Lexeme) (fields : List Field) → GivesRow parts start now ts (Ok fields) rest → sorts_of fields ≡ asked parts
row_is_sorted parts start now ts rest fields read = row_sorts parts read.value fields read.stands.0

-- a command is read by its words and then by the parts of its form
after_words : (form : Form) (ts mid : List Lexeme) → Read Same (read_form ts) form mid → read_command ts ≡ (read_parts form mid >>= (λ v rest. found (form, v) rest))
unfolding read_command
after_words form ts mid head =
    ap (λ o. o >>= (λ f behind. read_parts f behind >>= (λ v rest. found (f, v) rest))) (head.is ∙ ap (λ f. found f mid) (sym head.stands))

-- the command of a form and of the fields that its row gives
pub command_made : (form : Form) (start now : Excess) (ts mid rest : List Lexeme) (fields : List Field) (c : Command) → Read Same (read_form ts) form mid → GivesRow (row form) start now mid (Ok fields) rest
    → form_of c ≡ form → fields_of c ≡ fields → GivesCommand start now ts (Ok c) rest
unfolding read_parts
command_made form start now ts mid rest fields c head parts e i = record {
  value = (form, parts.value);
  is = after_words form ts mid head ∙ ap (λ o. o >>= (λ v left. found (form, v) left)) parts.is;
  stands = ((e, subst (StandsRow (row form) parts.value) (sym i) parts.stands.0), parts.stands.1);
}

-- no command goes on where the row of its form stops
pub command_stops : (form : Form) (start now : Excess) (ts mid rest : List Lexeme) (fault : PartFault) → Read Same (read_form ts) form mid → GivesRow (row form) start now mid (Err fault) rest
    → GivesCommand start now ts (Err fault) rest
unfolding read_parts
command_stops form start now ts mid rest Mismatch head parts = after_words form ts mid head ∙ ap (λ o. o >>= (λ v left. found (form, v) left)) parts
command_stops form start now ts mid rest NoMemory head parts = tt

-- where no form is told, no command goes on
pub form_stops : (start now : Excess) (ts rest : List Lexeme) (fault : PartFault) → Gives Same (read_form ts) (Err fault) rest → GivesCommand start now ts (Err fault) rest
unfolding read_command
form_stops start now ts rest Mismatch stops = ap (λ o. o >>= (λ f behind. read_parts f behind >>= (λ v left. found (f, v) left))) stops
form_stops start now ts rest NoMemory stops = tt

-- the form whose words the first token ends, where this is a plain word
pub plain_ends : (front : List ℕ) (ts : List Lexeme) → first_sort ts ≡ Some (sort.Word Plain) → first_as (ended_by named front) ts ≡ option_and_then numbered (number_behind front (first_bytes ts) the_forms)
plain_ends front [] e = cc
plain_ends front (word Plain text ∷ rest) e = at (is_bare text)
  where
    at : (bare : Bool) → (if bare then named (front ++ text) else None) ≡ option_and_then numbered (if bare then number_of (front ++ text) the_forms else None)
    at true = refl
    at false = refl
plain_ends front (word Dotted text ∷ rest) e = cc
plain_ends front (word True text ∷ rest) e = cc
plain_ends front (word Meta text ∷ rest) e = cc
plain_ends front (word Place text ∷ rest) e = cc
plain_ends front (mark m ∷ rest) e = cc

-- whether some form goes on with the first token, where this is a plain word
pub plain_goes_on : (front : List ℕ) (ts : List Lexeme) → first_sort ts ≡ Some (sort.Word Plain) → starts (goes_on is_front front) ts ≡ (is_bare (first_bytes ts) && some_begins (lengthened front (first_bytes ts)) the_forms)
plain_goes_on front [] e = cc
plain_goes_on front (word Plain text ∷ rest) e = refl
plain_goes_on front (word Dotted text ∷ rest) e = cc
plain_goes_on front (word True text ∷ rest) e = cc
plain_goes_on front (word Meta text ∷ rest) e = cc
plain_goes_on front (word Place text ∷ rest) e = cc
plain_goes_on front (mark m ∷ rest) e = cc

-- where some form goes on with the first token, the words of a form are read behind it
pub words_go_on : (front : List ℕ) (ts : List Lexeme) → starts (goes_on is_front front) ts ≡ true → read_words named is_front front ts ≡ read_words named is_front (lengthened front (first_bytes ts)) (after_first ts)
words_go_on front [] e = cc
words_go_on front (T ∷ rest) e = ap (λ b. if b then read_words named is_front (lengthened front (first_bytes (T ∷ rest))) rest else taken (ended_by named front T) (T ∷ rest) rest) e

-- where none does, the first token ends the words of a form
pub words_end : (front : List ℕ) (ts : List Lexeme) → starts (goes_on is_front front) ts ≡ false → read_words named is_front front ts ≡ token (ended_by named front) ts
words_end front [] e = refl
words_end front (T ∷ rest) e = ap (λ b. if b then read_words named is_front (lengthened front (first_bytes (T ∷ rest))) rest else taken (ended_by named front T) (T ∷ rest) rest) e
