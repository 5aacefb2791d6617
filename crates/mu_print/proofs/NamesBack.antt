-- What is printed of names, of places and of references reads back.
use Rattle.std.proofs.Common.{◌≡◌, ℕ, List, [], ◌∷◌, ◌++◌, Option, Some, map, refl, ap, subst}
use Rattle.std.specs.Prelude.{codes}
use Rattle.std.specs.Fmt.{decimal}
use Rattle.mu_tree.specs.declared.why.Ref.{Ref}
use Rattle.mu_tree.specs.declared.why.Ref.TheVariants as ref
use Rattle.mu_grammar.specs.declared.symbol.Word.TheVariants.{Plain, Dotted, True, Place}
use Rattle.mu_grammar.specs.declared.symbol.Mark.TheVariants.{And, Or, Not}
use Rattle.mu_grammar.specs.Tokens.{first_token}
use Rattle.mu_grammar.specs.Lexemes.{Lexeme, word, mark}
use Rattle.mu_grammar.specs.Parts.{OneToken}
use Rattle.mu_grammar.specs.SimpleParts.{plain_name_of, name_of, var_of, place_of, PlainName, AnyName, VarName, PlaceNumber, SomeVars}
use Rattle.mu_grammar.specs.References.{IsReference, SomeReferences}
use Rattle.mu_grammar.specs.Excesses.{excess_of, no_excess, in_each}
use Rattle.mu_grammar.specs.Limits.{WithinTokens, no_trees}
use Rattle.mu_grammar.proofs.Numbers.{IsPlaceNumber, number_of-decimal, number_of-bounds, place_text-decimal}
use Rattle.mu_print.specs.Texts.{between, reference_text}
use Rattle.mu_print.specs.Sound.{SoundLexeme, SoundLexemes, RightLexeme}
use Rattle.mu_print.proofs.Scan.{scan, Stop, run_stop, word_run}
use Rattle.mu_print.proofs.Again.{lexed_then, Readable, readable_parts, Printed, Reprints}
use Rattle.mu_print.proofs.GroupsBack.{itself, reprints_plain, reprints_separated, reprints_text}
use Rattle.mu_print.proofs.Separators.{comma}

-- the text has these tokens where no word goes on behind it
abbrev Lexes : List ℕ → List Lexeme → Type 0
Lexes text ts = (r : List ℕ) → Stop r → scan 0 (text ++ r) ≡ ts ++ scan 0 r

and_run : Lexes (codes "and") (mark And ∷ [])
unfolding first_token
and_run r s = rw (run_stop r s) refl

or_run : Lexes (codes "or") (mark Or ∷ [])
unfolding first_token
or_run r s = rw (run_stop r s) refl

not_run : Lexes (codes "not") (mark Not ∷ [])
unfolding first_token
not_run r s = rw (run_stop r s) refl

lexes_as : (name text : List ℕ) (ts : List Lexeme) → Some name ≡ Some text → Lexes name ts → Lexes text ts
lexes_as name text ts e h = let i : name ≡ text = cc in subst (λ (l : List ℕ). Lexes l ts) i h

plain_name_lexes : (T : Lexeme) (text : List ℕ) → plain_name_of T ≡ Some text → SoundLexeme T → Lexes text (T ∷ [])
plain_name_lexes (word Plain name) text e h = lexes_as name text (word Plain name ∷ []) e (λ r s. word_run Plain name r h s)
plain_name_lexes (word True name) text e h = lexes_as name text (word True name ∷ []) e (λ r s. word_run True name r h s)
plain_name_lexes (word _ name) text e h = cc
plain_name_lexes (mark And) text e h = lexes_as (codes "and") text (mark And ∷ []) e and_run
plain_name_lexes (mark Or) text e h = lexes_as (codes "or") text (mark Or ∷ []) e or_run
plain_name_lexes (mark Not) text e h = lexes_as (codes "not") text (mark Not ∷ []) e not_run
plain_name_lexes (mark _) text e h = cc

-- a token that is a name lexes as it is spelled
name_lexes : (T : Lexeme) (text : List ℕ) → name_of T ≡ Some text → SoundLexeme T → Lexes text (T ∷ [])
name_lexes (word Dotted name) text e h = lexes_as name text (word Dotted name ∷ []) e (λ r s. word_run Dotted name r h s)
name_lexes (word Plain name) text e h = plain_name_lexes (word Plain name) text e h
name_lexes (word True name) text e h = plain_name_lexes (word True name) text e h
name_lexes (word _ name) text e h = cc
name_lexes (mark m) text e h = plain_name_lexes (mark m) text e h

name_right : (T : Lexeme) (text : List ℕ) → name_of T ≡ Some text → RightLexeme T
name_right (word w name) text e = tt
name_right (mark And) text e = tt
name_right (mark Or) text e = tt
name_right (mark Not) text e = tt
name_right (mark _) text e = cc

plain_name_is_name : (T : Lexeme) (text : List ℕ) → plain_name_of T ≡ Some text → name_of T ≡ Some text
plain_name_is_name (word Plain name) text e = e
plain_name_is_name (word True name) text e = e
plain_name_is_name (word _ name) text e = cc
plain_name_is_name (mark m) text e = e

var_is_name : (T : Lexeme) (text : List ℕ) → var_of T ≡ Some text → name_of T ≡ Some text
var_is_name (word Plain name) text e = e
var_is_name (word _ name) text e = cc
var_is_name (mark m) text e = cc

module _ (f : Lexeme → Option (List ℕ)) (is_name : (T : Lexeme) (text : List ℕ) → f T ≡ Some text → name_of T ≡ Some text) where
  reprints_one : Reprints (OneToken f) no_trees itself itself
  reprints_one = record {
    reprint = λ ts x readable g none.
        let T = g.0 in
        let name = is_name T x g.2 in
        record {
          value = x;
          spelled = T ∷ [];
          lexed = record { lexes = name_lexes T x name (subst SoundLexemes g.1 readable.sound).0; right = (name_right T x name, tt); within = subst WithinTokens g.1 readable.within };
          spells = (T, refl, g.2);
          limits = refl;
          means = refl;
        };
  }

pub reprints_name : Reprints AnyName no_trees itself itself
reprints_name = reprints_one name_of (λ T text e. e)

pub reprints_plain_name : Reprints PlainName no_trees itself itself
reprints_plain_name = reprints_one plain_name_of plain_name_is_name

pub reprints_var : Reprints VarName no_trees itself itself
reprints_var = reprints_one var_of var_is_name

place_numbered : (T : Lexeme) (n : ℕ) → place_of T ≡ Some n → IsPlaceNumber n
place_numbered (word Place text) n e = number_of-bounds text n e
place_numbered (word _ text) n e = cc
place_numbered (mark m) n e = cc

-- a place with its first byte
abbrev pub place_text : ℕ → List ℕ
place_text n = codes "#" ++ decimal n

pub reprints_place : Reprints PlaceNumber no_trees itself place_text
reprints_place = record {
  reprint = λ ts n readable g none.
      let number : IsPlaceNumber n = place_numbered g.0 n g.2 in
      let place = place_text-decimal n number in
      record {
        value = n;
        spelled = word Place (decimal n) ∷ [];
        lexed = record { lexes = λ r s. word_run Place (decimal n) r (place.starts, place.digits, place.size) s; right = (tt, tt); within = (tt, tt) };
        spells = (word Place (decimal n), refl, number_of-decimal n number.some number.small);
        limits = refl;
        means = refl;
      };
}

printed_reference : (ts : List Lexeme) (x : Ref) → Readable ts → IsReference ts x → Printed IsReference no_trees itself x (reference_text x)
unfolding reference_text
printed_reference ts (ref.Item label) readable g =
    let p = reprints_plain_name.reprint ts label readable g refl in
    record { value = ref.Item p.value; spelled = p.spelled; lexed = p.lexed; spells = p.spells; limits = refl; means = ap ref.Item p.means }
printed_reference ts (ref.Assumption label n) readable g =
    let parts = readable_parts g.0 g.1 ts g.2 readable in
    let p = reprints_plain_name.reprint g.0 label parts.0 g.3 refl in
    let q = reprints_place.reprint g.1 n parts.1 g.4 refl in
    record {
      value = ref.Assumption p.value q.value;
      spelled = p.spelled ++ q.spelled;
      lexed = lexed_then p.lexed (λ r s. (refl, refl)) q.lexed;
      spells = (p.spelled, q.spelled, refl, p.spells, q.spells);
      limits = refl;
      means = cc (p.means, q.means);
    }
printed_reference ts (ref.Hypothesis n) readable g =
    let p = reprints_place.reprint ts n readable g refl in
    record { value = ref.Hypothesis p.value; spelled = p.spelled; lexed = p.lexed; spells = p.spells; limits = refl; means = ap ref.Hypothesis p.means }

pub reprints_reference : Reprints IsReference no_trees itself reference_text
reprints_reference = record { reprint = λ ts x readable g none. printed_reference ts x readable g }

pub no_trees_in : {A : Type 0} (xs : List A) → excess_of (in_each no_trees xs) ≡ no_excess
no_trees_in [] = refl
no_trees_in (x ∷ xs) = no_trees_in xs

pub map_itself : {A : Type 0} (xs : List A) → map itself xs ≡ xs
map_itself [] = refl
map_itself (x ∷ xs) = ap (λ l. x ∷ l) (map_itself xs)

pub reprints_references : Reprints SomeReferences no_trees itself (λ refs. between (codes ", ") (map reference_text refs))
reprints_references = reprints_plain no_trees_in map_itself (reprints_separated reprints_reference comma (λ r. (refl, refl)))

pub reprints_vars : Reprints SomeVars no_trees itself (between (codes ", "))
reprints_vars = reprints_text (λ names. ap (between (codes ", ")) (map_itself names)) (reprints_plain no_trees_in map_itself (reprints_separated reprints_var comma (λ r. (refl, refl))))
