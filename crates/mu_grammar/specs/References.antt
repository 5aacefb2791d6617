-- References to what a line of a proof holds by: how they are spelled, and what reads them.
use Rattle.std.specs.Prelude.{◌≡◌, ℕ, Bool, true, false, List, ◌++◌}
use Rattle.mu_tree.specs.declared.why.Ref.{Ref}
use Rattle.mu_tree.specs.declared.why.Ref.TheVariants as ref
use Rattle.mu_grammar.specs.declared.symbol.Word.TheVariants.{Place}
use Rattle.mu_grammar.specs.declared.symbol.Mark.TheVariants.{Comma}
use Rattle.mu_grammar.specs.Lexemes.{Lexeme, word}
use Rattle.mu_grammar.specs.Parts.{Out, chain, either, given_back, mapped, Separated, separated}
use Rattle.mu_grammar.specs.SimpleParts.{PlainName, PlaceNumber, StandsName, read_plain_name, read_place}

-- whether the token is a place
abbrev pub is_place_token : Lexeme → Bool
is_place_token (word Place text) = true
is_place_token _ = false

-- a label alone, or with a place behind it for an assumption of that block; or a place for a hypothesis
abbrev pub IsReference : List Lexeme → Ref → Type 0
IsReference ts (ref.Item label) = PlainName ts label
IsReference ts (ref.Assumption label n) = (a b : List Lexeme) × (ts ≡ a ++ b) × PlainName a label × PlaceNumber b n
IsReference ts (ref.Hypothesis n) = PlaceNumber ts n

-- references between commas, at least one
abbrev pub SomeReferences : List Lexeme → List Ref → Type 0
SomeReferences ts refs = Separated Comma IsReference ts refs

-- a reference of the same sort, with the same number, and with a label that stands for the spelled one
abbrev pub StandsReference : Ref → Ref → Type 0
StandsReference (ref.Item label) (ref.Item kept) = StandsName label kept
StandsReference (ref.Assumption label n) (ref.Assumption kept number) = StandsName label kept × (number ≡ n)
StandsReference (ref.Hypothesis n) (ref.Hypothesis number) = number ≡ n
StandsReference _ _ = ⊥

-- reads what follows a label: the place of an assumption, where one stands
abbrev pub read_labelled : List ℕ → List Lexeme → Out Ref
read_labelled label ts = either is_place_token (mapped (ref.Assumption label) read_place) (given_back (ref.Item label)) ts

-- reads a reference
unfoldable pub read_reference : List Lexeme → Out Ref
read_reference ts = either is_place_token (mapped ref.Hypothesis read_place) (chain read_plain_name read_labelled) ts

-- reads references between commas
unfoldable pub read_references : List Lexeme → Out (List Ref)
read_references ts = separated Comma read_reference ts
