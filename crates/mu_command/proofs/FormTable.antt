-- The table of the words of forms.
use Rattle.std.proofs.Common.{◌≡◌, ℕ, Bool, true, false, List, [], ◌∷◌, ◌++◌, Option, Some, None, refl, ap, sym, ◌∙◌}
use Rattle.std.specs.Prelude.{◌==◌, if◌then◌else◌, not, is_some, find, option_and_then, map}
use Rattle.std.specs.List.{list_all, join_with_byte}
use Rattle.std.specs.Str.{bytes_eq}
use Rattle.std.proofs.lemmas.List.Splits.{join_with_byte-slice_split}
use Rattle.std.proofs.lemmas.Slice.Eq.{bytes_eq-Decides}
use Rattle.std.proofs.lemmas.Bool.Decides.{Decides-eqb}
use Rattle.mu_tables.specs.Words.{number_of, rows_of, some_begins, text_of, word_of}
use Rattle.mu_tables.specs.declared.words.Row.{Row}
use Rattle.std.specs.Bool.{nat_eq}
use Rattle.std.specs.Option.{option_map_or}
use Rattle.mu_tables.specs.Tables.{the_forms}
use Rattle.mu_tables.proofs.Fronts.{found_holds, begins_where_found, found_where_begins}
use Rattle.mu_grammar.specs.declared.symbol.Word.TheVariants.{Plain}
use Rattle.mu_grammar.specs.Lexemes.{Lexeme, word}
use Rattle.mu_command.specs.declared.forms.Form.{Form}
use Rattle.mu_command.specs.declared.forms.Form.TheVariants.{Theory}
use Rattle.mu_command.specs.Forms.{forms, number, numbered, named, is_front, words, FormWords, FormsHaveWords}
use Rattle.mu_command.proofs.Bare.{AreBare, parts_of, parts_joined, cut}
use Rattle.mu_command.proofs.Words.{SomeWords, HasText}

-- each form is found by its number
numbered_number : (form : Form) → numbered (number form) ≡ Some form
numbered_number Theory = refl
numbered_number _ = refl

find_holds : {A : Type 0} (test : A → Bool) (xs : List A) (x : A) → find test xs ≡ Some x → test x ≡ true
find_holds test [] x e = cc
find_holds {A} test (y ∷ ys) x e = at (find_holds test ys x) (test y) refl e
  where
    at : (find test ys ≡ Some x → test x ≡ true) → (holds : Bool) → test y ≡ holds → (if holds then Some y else find test ys) ≡ Some x → test x ≡ true
    at later true i j = let same : y ≡ x = cc in ap test (sym same) ∙ i
    at later false i j = later j

-- a text that names a form is found in the table under its number
number_named : (text : List ℕ) (form : Form) → named text ≡ Some form → number_of text the_forms ≡ Some (number form)
number_named text form e = at (number_of text the_forms) e
  where
    at : (o : Option ℕ) → option_and_then numbered o ≡ Some form → o ≡ Some (number form)
    at None i = cc
    at (Some n) i = ap (λ m. Some m) (sym ((Decides-eqb (number form) n).0 (find_holds (λ other. number other == n) forms form i)))

named_number : (text : List ℕ) (form : Form) → number_of text the_forms ≡ Some (number form) → named text ≡ Some form
named_number text form e = ap (option_and_then numbered) e ∙ numbered_number form

-- each number in the table is that of a form
all_numbered : list_all (λ row. is_some (numbered row.1)) the_forms ≡ true
all_numbered = refl

-- no text of the table begins with another one and a blank
none_goes_on : list_all (λ row. not (some_begins (row.0 ++ 32 ∷ []) the_forms)) the_forms ≡ true
none_goes_on = refl

pub begins_at_form : (front : List ℕ) → HasText named front → is_front front ≡ true
begins_at_form front (more, form, e) = begins_where_found front more (number form) the_forms (number_named (front ++ more) form e)

pub has_form : (front : List ℕ) → is_front front ≡ true → HasText named front
has_form front e =
    let text = found_where_begins front the_forms e in
    at text.0 text.1 text.2 (numbered text.1) refl (found_holds (λ t n. is_some (numbered n)) the_forms (front ++ text.0) text.1 all_numbered text.2)
  where
    at : (more : List ℕ) (n : ℕ) → number_of (front ++ more) the_forms ≡ Some n → (o : Option Form) → numbered n ≡ o → is_some o ≡ true → HasText named front
    at more n i None j has = cc
    at more n i (Some form) j has = (more, form, ap (option_and_then numbered) i ∙ j)

pub form_ends : (text : List ℕ) (form : Form) → named text ≡ Some form → is_front (text ++ 32 ∷ []) ≡ false
form_ends text form e =
    turned (is_front (text ++ 32 ∷ [])) (found_holds (λ t n. not (some_begins (t ++ 32 ∷ []) the_forms)) the_forms text (number form) none_goes_on (number_named text form e))
  where
    turned : (b : Bool) → not b ≡ true → b ≡ false
    turned true i = cc
    turned false i = refl

-- each text of the table is found by its number
each_text : list_all (λ row. bytes_eq (text_of row.1 the_forms) row.0) the_forms ≡ true
each_text = refl

-- and each form by the text of its number
number_text : (form : Form) → number_of (text_of (number form) the_forms) the_forms ≡ Some (number form)
number_text Theory = refl
number_text _ = refl

have_words : (form : Form) → number_of (join_with_byte 32 (words form)) the_forms ≡ Some (number form)
have_words form = ap (λ text. number_of text the_forms) (join_with_byte-slice_split 32 (text_of (number form) the_forms)) ∙ number_text form

pub forms_have_words : FormsHaveWords
unfolding FormsHaveWords
forms_have_words = have_words

-- bare texts that are joined to the text of a form are its words
words_joined : (text : List ℕ) (texts : List (List ℕ)) (form : Form) → AreBare (text ∷ texts) → named (join_with_byte 32 (text ∷ texts)) ≡ Some form → text ∷ texts ≡ words form
words_joined text texts form bare e =
    let joined = join_with_byte 32 (text ∷ texts) in
    let same = (bytes_eq-Decides (text_of (number form) the_forms) joined).0 (found_holds (λ t n. bytes_eq (text_of n the_forms) t) the_forms joined (number form) each_text (number_named joined form e)) in
    sym (ap parts_of same ∙ parts_joined text texts bare)

pub to_form_words : (ts : List Lexeme) (form : Form) → SomeWords named [] ts form → FormWords ts form
to_form_words ts form g = g.are ∙ ap (map (word Plain)) (words_joined g.first g.others form g.bare g.text)

pub from_form_words : (ts : List Lexeme) (form : Form) → FormWords ts form → SomeWords named [] ts form
from_form_words ts form e =
    let parts = cut (text_of (number form) the_forms) in
    record {
      first = parts.0;
      others = parts.1;
      bare = parts.3;
      are = e ∙ ap (map (word Plain)) parts.2;
      text = ap (λ texts. named (join_with_byte 32 texts)) (sym parts.2) ∙ named_number (join_with_byte 32 (words form)) form (have_words form);
    }

-- the text of a number as the code finds it
pub found_text : (n : ℕ) (rows : List Row) → option_map_or (λ text. text.now) (word_of n rows) [] ≡ text_of n (rows_of rows)
found_text n [] = refl
found_text n (row ∷ rows) = at (nat_eq row.number n) (found_text n rows)
  where
    at : (same : Bool) → option_map_or (λ text. text.now) (word_of n rows) [] ≡ text_of n (rows_of rows)
        → option_map_or (λ text. text.now) (if same then Some row.text else word_of n rows) [] ≡ (if same then row.text.now else text_of n (rows_of rows))
    at true later = refl
    at false later = later
