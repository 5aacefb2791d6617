-- References are read exactly.
use Rattle.std.proofs.Common.{◌≡◌, ℕ, true, false, List, [], ◌++◌, Some, inl, inr, refl, ap, sym, ◌∙◌, subst, append-nil}
use Rattle.mu_tree.specs.declared.why.Ref.{Ref}
use Rattle.mu_tree.specs.declared.why.Ref.TheVariants as ref
use Rattle.mu_grammar.specs.declared.symbol.Word.TheVariants.{Place}
use Rattle.mu_grammar.specs.declared.symbol.Mark.TheVariants.{Comma}
use Rattle.mu_grammar.specs.Lexemes.{Lexeme, word, mark}
use Rattle.mu_grammar.specs.Marks.{is_mark}
use Rattle.mu_grammar.specs.Parts.{Nothing, Or, Made, Then, chain, given_back, mapped}
use Rattle.mu_grammar.specs.SimpleParts.{plain_name_of, place_of, PlainName, PlaceNumber, read_plain_name, read_place}
use Rattle.mu_grammar.specs.References.{is_place_token, IsReference, SomeReferences, read_labelled, read_reference, read_references}
use Rattle.mu_text.proofs.Choice.{Passes, Fails, Exact-either}
use Rattle.mu_text.proofs.Exact.{Exact, Exact-same, Exact-mapped, Exact-before, Exact-chain, Exact-pure}
use Rattle.mu_text.proofs.Lists.{Exact-separated}
use Rattle.mu_text.proofs.Simple.{Any, Exact-plain_name, Exact-place}

-- no place follows, which would make a label one of an assumption
abbrev pub NoPlace : List Lexeme → Type 0
NoPlace rest = Fails is_place_token rest

place_passes : (T : Lexeme) (n : ℕ) → place_of T ≡ Some n → is_place_token T ≡ true
place_passes (word Place text) n e = refl
place_passes (word _ text) n e = cc
place_passes (mark m) n e = cc

name_fails : (T : Lexeme) (text : List ℕ) → plain_name_of T ≡ Some text → is_place_token T ≡ false
name_fails (word Place other) text e = cc
name_fails (word _ other) text e = refl
name_fails (mark m) text e = refl

number_passes : (ts : List Lexeme) (n : ℕ) → PlaceNumber ts n → Passes is_place_token ts
number_passes ts n g = subst (Passes is_place_token) (sym g.1) (place_passes g.0 n g.2)

abbrev Numbered : List Lexeme → Ref → Type 0
Numbered = Made ref.Hypothesis PlaceNumber

abbrev Labelled : List ℕ → List Lexeme → Ref → Type 0
Labelled label = Or (Made (ref.Assumption label) PlaceNumber) (Nothing (ref.Item label))

abbrev Named : List Lexeme → Ref → Type 0
Named = Then PlainName Labelled

exact_labelled : (label : List ℕ) → Exact (read_labelled label) (Labelled label) NoPlace
exact_labelled label =
    Exact-either is_place_token (mapped (ref.Assumption label) read_place) (given_back (ref.Item label)) (Made (ref.Assumption label) PlaceNumber) (Nothing (ref.Item label)) NoPlace
    (Exact-before (mapped (ref.Assumption label) read_place) (Made (ref.Assumption label) PlaceNumber) Any NoPlace (λ rest s. tt) (Exact-mapped (ref.Assumption label) read_place PlaceNumber Any Exact-place))
    (Exact-pure (ref.Item label) NoPlace)
    (λ ts r g. number_passes ts g.0 g.1)
    (λ ts r rest g s. subst (λ (l : List Lexeme). NoPlace (l ++ rest)) (sym g.0) s)

exact_named : Exact (chain read_plain_name read_labelled) Named NoPlace
exact_named = Exact-chain read_plain_name read_labelled PlainName Labelled Any NoPlace Exact-plain_name exact_labelled (λ label b r rest g s. tt)

named_fails : (ts : List Lexeme) (r : Ref) (rest : List Lexeme) → Named ts r → NoPlace rest → Fails is_place_token (ts ++ rest)
named_fails ts r rest g s = subst (λ (l : List Lexeme). Fails is_place_token (l ++ rest)) (sym (g.3 ∙ ap (λ l. l ++ g.2) g.4.1)) (name_fails g.4.0 g.0 g.4.2)

to_reference : (ts : List Lexeme) (r : Ref) → Or Numbered Named ts r → IsReference ts r
to_reference ts r (inl g) = subst (λ (s : Ref). IsReference ts s) (sym g.2) g.1
to_reference ts r (inr g) = at g.5
  where
    at : Labelled g.0 g.2 r → IsReference ts r
    at (inl h) = subst (λ (s : Ref). IsReference ts s) (sym h.2) (g.1, g.2, g.3, g.4, h.1)
    at (inr h) = subst (λ (s : Ref). IsReference ts s) (sym h.1) (subst (λ (l : List Lexeme). PlainName l g.0) (sym (g.3 ∙ (ap (λ l. g.1 ++ l) h.0 ∙ append-nil g.1))) g.4)

from_reference : (ts : List Lexeme) (r : Ref) → IsReference ts r → Or Numbered Named ts r
from_reference ts (ref.Item label) g = inr (label, ts, [], sym (append-nil ts), g, inr (refl, refl))
from_reference ts (ref.Assumption label n) g = inr (label, g.0, g.1, g.2, g.3, inl (n, g.4, refl))
from_reference ts (ref.Hypothesis n) g = inl (n, g, refl)

pub Exact-reference : Exact read_reference IsReference NoPlace
unfolding read_reference
Exact-reference =
    Exact-same read_reference (Or Numbered Named) IsReference NoPlace to_reference from_reference
    (Exact-either is_place_token (mapped ref.Hypothesis read_place) (chain read_plain_name read_labelled) Numbered Named NoPlace
    (Exact-before (mapped ref.Hypothesis read_place) Numbered Any NoPlace (λ rest s. tt) (Exact-mapped ref.Hypothesis read_place PlaceNumber Any Exact-place))
    exact_named
    (λ ts r g. number_passes ts g.0 g.1)
    named_fails)

-- no reference goes on, nor a list of them between commas
abbrev pub NoReferences : List Lexeme → Type 0
NoReferences rest = NoPlace rest × Fails (is_mark Comma) rest

pub Exact-references : Exact read_references SomeReferences NoReferences
unfolding read_references
Exact-references = Exact-separated Comma read_reference IsReference NoPlace Exact-reference (λ rest. refl)
