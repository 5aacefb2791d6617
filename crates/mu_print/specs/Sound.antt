-- Words that are read back from the bytes that they are spelled with.
use Rattle.std.specs.Prelude.{◌≡◌, ℕ, ◌≤◌, true, List, [], ◌∷◌, length, Some}
use Rattle.std.specs.List.{AllByRecursion, prefix_len}
use Rattle.mu_tree.specs.Names.{is_letter, is_digit, is_name_byte}
use Rattle.mu_grammar.specs.declared.symbol.Word.{Word}
use Rattle.mu_grammar.specs.declared.symbol.Word.TheVariants.{Plain, Meta, Place}
use Rattle.mu_grammar.specs.declared.symbol.Mark.TheVariants.{Wrong}
use Rattle.mu_grammar.specs.declared.symbol.Sort.TheVariants as sort
use Rattle.mu_grammar.specs.Reading.{starts_positive}
use Rattle.mu_grammar.specs.Tokens.{run_length, dots}
use Rattle.mu_grammar.specs.Lexemes.{Lexeme, word, mark, name_sort}
use Rattle.mu_grammar.specs.Ops.{binary}
use Rattle.mu_grammar.specs.Writings.{Writing, Writings, leaf, apply, bind, paren, neg, bin, one, more}

-- a letter, what goes on with a name to the end, and at most two dots; and as a name it is this word
abbrev pub SoundName : Word → List ℕ → Type 0
SoundName w [] = ⊥
SoundName w (byte ∷ bytes) = (is_letter byte ≡ true) × (run_length bytes ≡ length bytes) × (dots bytes ≤ 2) × (name_sort (byte ∷ bytes) ≡ sort.Word w)

-- a letter, and bytes of names to the end
abbrev pub SoundMeta : List ℕ → Type 0
SoundMeta [] = ⊥
SoundMeta (byte ∷ bytes) = (is_letter byte ≡ true) × (prefix_len is_name_byte bytes ≡ length bytes)

-- one to nine digits, the first not 0
abbrev pub SoundPlace : List ℕ → Type 0
SoundPlace text = (starts_positive text ≡ true) × (prefix_len is_digit text ≡ length text) × (length text ≤ 9)

-- the word, spelled and read, is the same word
abbrev pub Sound : Word → List ℕ → Type 0
Sound Meta text = SoundMeta text
Sound Place text = SoundPlace text
Sound w text = SoundName w text

-- the same of a token, where it is a word
abbrev pub SoundLexeme : Lexeme → Type 0
SoundLexeme (word w text) = Sound w text
SoundLexeme (mark m) = Unit {0}

-- the same of each of some tokens
abbrev pub SoundLexemes : List Lexeme → Type 0
SoundLexemes ts = AllByRecursion SoundLexeme ts

-- the token fits something
abbrev pub RightLexeme : Lexeme → Type 0
RightLexeme (mark Wrong) = ⊥
RightLexeme _ = Unit {0}

-- the same of each of some tokens
abbrev pub RightLexemes : List Lexeme → Type 0
RightLexemes ts = AllByRecursion RightLexeme ts

-- each word of the writing is sound, and each operator's token is that of its row
abbrev mutual
  pub Sounds : Writing → Type 0
  Sounds (leaf w text) = Sound w text
  Sounds (apply w text ws) = Sound w text × SoundsAll ws
  Sounds (bind w text v d b) = Sound w text × Sound Plain v × Sounds d × Sounds b
  Sounds (paren w) = Sounds w
  Sounds (neg w) = Sounds w
  Sounds (bin item o a b) = (binary item ≡ Some o) × Sounds a × Sounds b

  pub SoundsAll : Writings → Type 0
  SoundsAll (one w) = Sounds w
  SoundsAll (more w ws) = Sounds w × SoundsAll ws
