-- Texts cut at their blanks.
use Rattle.std.proofs.Common.{◌≡◌, ℕ, Bool, true, false, List, [], ◌∷◌, ◌++◌, refl, ap, ◌∙◌}
use Rattle.std.specs.Prelude.{◌==◌, ◌&&◌, not}
use Rattle.std.specs.List.{join_with_byte, slice_split, onto_first, AllByRecursion}
use Rattle.std.proofs.lemmas.Bool.{and_parts}
use Rattle.std.proofs.lemmas.List.Splits.{slice_split-cons_no, slice_split-cons_yes}
use Rattle.mu_tables.specs.Words.{is_bare}

-- no text has a blank
abbrev pub AreBare : List (List ℕ) → Type 0
AreBare texts = AllByRecursion (λ text. is_bare text ≡ true) texts

-- the parts between blanks
abbrev pub parts_of : List ℕ → List (List ℕ)
parts_of text = slice_split (λ byte. byte == 32) text

unblank : (b : Bool) → not b ≡ true → b ≡ false
unblank true e = cc
unblank false e = refl

-- a first part, where it has no blank
first_part : (text rest : List ℕ) → is_bare text ≡ true → parts_of (text ++ 32 ∷ rest) ≡ text ∷ parts_of rest
first_part [] rest bare = refl
first_part (byte ∷ text) rest bare =
    let parts = and_parts (not (byte == 32)) (is_bare text) bare in
    slice_split-cons_no (λ b. b == 32) byte (text ++ 32 ∷ rest) (unblank (byte == 32) parts.0)
    ∙ ap (onto_first byte) (first_part text rest parts.1)

only_part : (text : List ℕ) → is_bare text ≡ true → parts_of text ≡ text ∷ []
only_part [] bare = refl
only_part (byte ∷ text) bare =
    let parts = and_parts (not (byte == 32)) (is_bare text) bare in
    slice_split-cons_no (λ b. b == 32) byte text (unblank (byte == 32) parts.0)
    ∙ ap (onto_first byte) (only_part text parts.1)

-- texts without blanks are the parts of what they are joined to
pub parts_joined : (text : List ℕ) (texts : List (List ℕ)) → AreBare (text ∷ texts) → parts_of (join_with_byte 32 (text ∷ texts)) ≡ text ∷ texts
parts_joined text [] bare = only_part text bare.0
parts_joined text (next ∷ texts) bare = first_part text (join_with_byte 32 (next ∷ texts)) bare.0 ∙ ap (λ l. text ∷ l) (parts_joined next texts bare.1)

-- a first part and others, none with a blank
abbrev pub IsCut : List ℕ → Type 0
IsCut text = (first : List ℕ) × (others : List (List ℕ)) × (parts_of text ≡ first ∷ others) × AreBare (first ∷ others)

pub cut : (text : List ℕ) → IsCut text
cut [] = ([], [], refl, (refl, tt))
cut (byte ∷ text) = at (cut text) (byte == 32) refl
  where
    at : IsCut text → (blank : Bool) → (byte == 32) ≡ blank → IsCut (byte ∷ text)
    at (first, others, is, bare) true e = ([], first ∷ others, slice_split-cons_yes (λ b. b == 32) byte text e ∙ ap (λ l. [] ∷ l) is, (refl, bare))
    at (first, others, is, bare) false e = (
      byte ∷ first,
      others,
      slice_split-cons_no (λ b. b == 32) byte text e ∙ ap (onto_first byte) is,
      (ap (λ b. not b && is_bare first) e ∙ bare.0, bare.1),
    )
