-- The parts of one token are read exactly, and so are lists of them.
use Rattle.std.proofs.Common.{◌≡◌, ℕ, Bool, true, false, List, [], ◌∷◌, Option, Some, None, ◌⊎◌, inl, inr, refl, ap, sym, ◌∙◌, subst}
use Rattle.std.specs.Prelude.{codes}
use Rattle.std.specs.Bool.{nat_eq}
use Rattle.std.specs.Cmp.Lexicographic.{pointwise}
use Rattle.std.proofs.lemmas.Slice.Eq.{bytes_eq-Decides}
use Rattle.mu_tree.specs.declared.claim.Kind.{Kind}
use Rattle.mu_tree.specs.declared.claim.Kind.TheVariants as kind
use Rattle.mu_grammar.specs.declared.symbol.Word.TheVariants.{Plain, Meta, Place}
use Rattle.mu_grammar.specs.declared.symbol.Mark.{Mark}
use Rattle.mu_grammar.specs.declared.symbol.Mark.TheVariants.{Comma}
use Rattle.mu_grammar.specs.Lexemes.{Lexeme, word, mark}
use Rattle.mu_grammar.specs.Marks.{is_mark}
use Rattle.mu_grammar.specs.Parts.{token, OneToken}
use Rattle.mu_grammar.specs.SimpleParts.{plain_name_of, name_of, var_of, meta_of, place_of, where_true, where_either, has_bytes, is_word, word_of, mark_of, kind_of, PlainName, AnyName, VarName, MetaName, PlaceNumber, GivenWord, GivenMark, OneKind, SomeKinds, SomeVars, read_plain_name, read_name, read_var, read_meta, read_place, read_word, read_mark, read_kind, read_kinds, read_vars}
use Rattle.mu_text.proofs.Marks.{own_mark, only_mark}
use Rattle.mu_text.proofs.Choice.{Fails}
use Rattle.mu_text.proofs.Exact.{Exact, Exact-token, Exact-same}
use Rattle.mu_text.proofs.Lists.{Exact-separated}

-- anything may follow
abbrev pub Any : List Lexeme → Type 0
Any ts = Unit {0}

pub Exact-plain_name : Exact read_plain_name PlainName Any
unfolding read_plain_name
Exact-plain_name = Exact-token plain_name_of (word Plain (97 ∷ [])) (97 ∷ []) refl Any

pub Exact-name : Exact read_name AnyName Any
unfolding read_name
Exact-name = Exact-token name_of (word Plain (97 ∷ [])) (97 ∷ []) refl Any

pub Exact-var : Exact read_var VarName Any
unfolding read_var
Exact-var = Exact-token var_of (word Plain (97 ∷ [])) (97 ∷ []) refl Any

pub Exact-meta : Exact read_meta MetaName Any
unfolding read_meta
Exact-meta = Exact-token meta_of (word Meta (97 ∷ [])) (97 ∷ []) refl Any

pub Exact-place : Exact read_place PlaceNumber Any
unfolding read_place
Exact-place = Exact-token place_of (word Place (49 ∷ [])) 1 refl Any

-- a test that holds, and what is then given
passed : {A : Type 0} (test : Bool) (x y : A) → where_true test x ≡ Some y → (test ≡ true) × (y ≡ x)
passed true x y e = (refl, cc)
passed false x y e = cc

same_bytes : (text : List ℕ) → pointwise nat_eq text text ≡ true
same_bytes text = (bytes_eq-Decides text text).1 refl

equal_bytes : (name text : List ℕ) → pointwise nat_eq name text ≡ true → name ≡ text
equal_bytes name text e = (bytes_eq-Decides name text).0 e

pub from_bytes : (text : List ℕ) (o : Option (List ℕ)) → has_bytes text o ≡ true → o ≡ Some text
from_bytes text None e = cc
from_bytes text (Some name) e = ap (λ l. Some l) (equal_bytes name text e)

pub is_own_word : (text : List ℕ) (T : Lexeme) → name_of T ≡ Some text → is_word text T ≡ true
is_own_word text T e = ap (has_bytes text) e ∙ same_bytes text

pub Exact-word : (text : List ℕ) → Exact (read_word text) (GivenWord text) Any
unfolding read_word
Exact-word text =
    Exact-same (token (word_of text)) (OneToken (word_of text)) (GivenWord text) Any
    (λ ts x g. (g.0, g.1, from_bytes text (name_of g.0) (passed (is_word text g.0) tt x g.2).0))
    (λ ts x g. (g.0, g.1, ap (λ b. where_true b tt) (is_own_word text g.0 g.2)))
    (Exact-token (word_of text) (word Plain text) tt (ap (λ b. where_true b tt) (same_bytes text)) Any)

pub Exact-mark : (sign : Mark) → Exact (read_mark sign) (GivenMark sign) Any
unfolding read_mark
Exact-mark sign =
    Exact-same (token (mark_of sign)) (OneToken (mark_of sign)) (GivenMark sign) Any
    (λ ts x g. g.1 ∙ ap (λ T. T ∷ []) (only_mark sign g.0 (passed (is_mark sign g.0) tt x g.2).0))
    (λ ts x g. (mark sign, g, ap (λ b. where_true b tt) (own_mark sign)))
    (Exact-token (mark_of sign) (mark sign) tt (ap (λ b. where_true b tt) (own_mark sign)) Any)

-- the first of two tests that holds, and what is then given
passed_either : {A : Type 0} (first : Bool) (x : A) (second : Bool) (y z : A) → where_either first x second y ≡ Some z → ((first ≡ true) × (z ≡ x)) ⊎ ((second ≡ true) × (z ≡ y))
passed_either true x second y z e = inl (refl, cc)
passed_either false x second y z e = inr (passed second y z e)

to_kind : (ts : List Lexeme) (k : Kind) → OneToken kind_of ts k → OneKind ts k
to_kind ts k g = at (passed_either (is_word (codes "e") g.0) kind.E (is_word (codes "t") g.0) kind.T k g.2)
  where
    at : ((is_word (codes "e") g.0 ≡ true) × (k ≡ kind.E)) ⊎ ((is_word (codes "t") g.0 ≡ true) × (k ≡ kind.T)) → OneKind ts k
    at (inl h) = subst (OneKind ts) (sym h.1) (g.0, g.1, from_bytes (codes "e") (name_of g.0) h.0)
    at (inr h) = subst (OneKind ts) (sym h.1) (g.0, g.1, from_bytes (codes "t") (name_of g.0) h.0)

from_kind : (ts : List Lexeme) (k : Kind) → OneKind ts k → OneToken kind_of ts k
from_kind ts kind.E g = (g.0, g.1, ap (λ o. where_either (has_bytes (codes "e") o) kind.E (has_bytes (codes "t") o) kind.T) g.2)
from_kind ts kind.T g = (g.0, g.1, ap (λ o. where_either (has_bytes (codes "e") o) kind.E (has_bytes (codes "t") o) kind.T) g.2)

pub Exact-kind : Exact read_kind OneKind Any
unfolding read_kind
Exact-kind =
    Exact-same (token kind_of) (OneToken kind_of) OneKind Any to_kind from_kind
    (Exact-token kind_of (word Plain (codes "e")) kind.E refl Any)

-- no comma follows a list between commas
abbrev pub NoComma : List Lexeme → Type 0
NoComma rest = Any rest × Fails (is_mark Comma) rest

pub Exact-kinds : Exact read_kinds SomeKinds NoComma
unfolding read_kinds
Exact-kinds = Exact-separated Comma read_kind OneKind Any Exact-kind (λ rest. tt)

pub Exact-vars : Exact read_vars SomeVars NoComma
unfolding read_vars
Exact-vars = Exact-separated Comma read_var VarName Any Exact-var (λ rest. tt)
