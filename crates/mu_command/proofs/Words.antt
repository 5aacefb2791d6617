-- Words in a row are read exactly, where no text goes on behind another one.
use Rattle.std.proofs.Common.{◌≡◌, ℕ, Bool, true, false, List, [], ◌∷◌, ◌++◌, Option, Some, None, refl, ap, sym, ◌∙◌, subst, append_assoc}
use Rattle.std.specs.Prelude.{if◌then◌else◌, ◌&&◌, map}
use Rattle.std.specs.List.{join_with_byte}
use Rattle.std.proofs.lemmas.List.Splits.{join_with_byte-slice_split}
use Rattle.mu_tables.specs.Words.{is_bare, lengthened}
use Rattle.mu_grammar.specs.declared.symbol.Word.TheVariants.{Plain, Dotted, True, Meta, Place}
use Rattle.mu_grammar.specs.Lexemes.{Lexeme, word, mark}
use Rattle.mu_grammar.specs.Parts.{Out, found, stopped, taken, Begins}
use Rattle.mu_text.proofs.Exact.{Exact, Answered}
use Rattle.mu_text.proofs.Simple.{Any as Anything}
use Rattle.mu_command.specs.Words.{read_words}
use Rattle.mu_command.proofs.Bare.{AreBare, cut}

-- plain words without blanks which, behind those before them and with one blank between each two, are a text for the value
pub record SomeWords {A : Type 0} (lookup : List ℕ → Option A) (front : List ℕ) (ts : List Lexeme) (x : A) : Type 0 where
  pub first : List ℕ
  pub others : List (List ℕ)
  pub bare : AreBare (first ∷ others)
  pub are : ts ≡ map (word Plain) (first ∷ others)
  pub text : lookup (front ++ join_with_byte 32 (first ∷ others)) ≡ Some x

-- some text begins so
abbrev pub HasText : {A : Type 0} → (List ℕ → Option A) → List ℕ → Type 0
HasText {A} lookup front = (more : List ℕ) × (x : A) × (lookup (front ++ more) ≡ Some x)

module _ {A : Type 0} (lookup : List ℕ → Option A) (is_front : List ℕ → Bool)
    (begins : (front : List ℕ) → HasText lookup front → is_front front ≡ true)
    (has_text : (front : List ℕ) → is_front front ≡ true → HasText lookup front)
    (ends : (text : List ℕ) (x : A) → lookup text ≡ Some x → is_front (text ++ 32 ∷ []) ≡ false) where
  read : List ℕ → List Lexeme → Out A
  read front ts = read_words lookup is_front front ts

  -- one word more, and a blank, before the others
  assoc : (front text others : List ℕ) → lengthened front text ++ others ≡ front ++ (text ++ 32 ∷ others)
  assoc front text others = append_assoc (front ++ text) (32 ∷ []) others ∙ append_assoc front text (32 ∷ others)

  -- what is read at a word, by whether it is bare, whether some text goes on with it, and what it ends
  at_tests : (front text : List ℕ) (ts : List Lexeme) → Bool → Bool → Option A → Out A
  at_tests front text ts bare goes ended = if bare && goes then read (lengthened front text) ts else taken (if bare then ended else None) (word Plain text ∷ ts) ts

  by_tests : (front text : List ℕ) (ts : List Lexeme) (bare goes : Bool) (ended : Option A) → is_bare text ≡ bare → is_front (lengthened front text) ≡ goes → lookup (front ++ text) ≡ ended
      → read front (word Plain text ∷ ts) ≡ at_tests front text ts bare goes ended
  unfolding read at_tests
  by_tests front text ts bare goes ended e i j =
      ap (λ b. at_tests front text ts b (is_front (lengthened front text)) (lookup (front ++ text))) e
      ∙ (ap (λ g. at_tests front text ts bare g (lookup (front ++ text))) i ∙ ap (at_tests front text ts bare goes) j)

  goes : (front text : List ℕ) (ts : List Lexeme) → is_bare text ≡ true → is_front (lengthened front text) ≡ true → read front (word Plain text ∷ ts) ≡ read (lengthened front text) ts
  unfolding at_tests
  goes front text ts bare e = by_tests front text ts true true (lookup (front ++ text)) bare e refl

  stays : (front text : List ℕ) (ts : List Lexeme) (o : Option A) → is_bare text ≡ true → is_front (lengthened front text) ≡ false → lookup (front ++ text) ≡ o
      → read front (word Plain text ∷ ts) ≡ taken o (word Plain text ∷ ts) ts
  unfolding at_tests
  stays front text ts o bare e i = by_tests front text ts true false o bare e i

  refused : (front text : List ℕ) (ts : List Lexeme) → is_bare text ≡ false → read front (word Plain text ∷ ts) ≡ stopped (word Plain text ∷ ts)
  unfolding at_tests
  refused front text ts bare = by_tests front text ts false (is_front (lengthened front text)) (lookup (front ++ text)) bare refl refl

  full_words : (texts : List (List ℕ)) (front text : List ℕ) (x : A) (rest : List Lexeme) → AreBare (text ∷ texts) → lookup (front ++ join_with_byte 32 (text ∷ texts)) ≡ Some x
      → read front (word Plain text ∷ (map (word Plain) texts ++ rest)) ≡ found x rest
  full_words [] front text x rest bare e = stays front text rest (Some x) bare.0 (ends (front ++ text) x e) e
  full_words (next ∷ texts) front text x rest bare e =
      let same = ap lookup (assoc front text (join_with_byte 32 (next ∷ texts))) ∙ e in
      goes front text (word Plain next ∷ (map (word Plain) texts ++ rest)) bare.0 (begins (lengthened front text) (join_with_byte 32 (next ∷ texts), x, same))
      ∙ full_words texts (lengthened front text) next x rest bare.1 same

  full : (front : List ℕ) (ts : List Lexeme) (x : A) (rest : List Lexeme) → SomeWords lookup front ts x → read front (ts ++ rest) ≡ found x rest
  full front ts x rest g = ap (λ l. read front (l ++ rest)) g.are ∙ full_words g.others front g.first x rest g.bare g.text

  -- the words of all that is left of a text
  begin : (front : List ℕ) → HasText lookup front → Begins (SomeWords lookup front) []
  begin front (more, x, e) =
      let parts = cut more in (
        map (word Plain) (parts.0 ∷ parts.1),
        x,
        record {
          first = parts.0;
          others = parts.1;
          bare = parts.3;
          are = refl;
          text = ap (λ t. lookup (front ++ t)) (ap (join_with_byte 32) (sym parts.2) ∙ join_with_byte-slice_split 32 more) ∙ e;
        },
      )

  one_more : (front text : List ℕ) (ts : List Lexeme) (x : A) → is_bare text ≡ true → SomeWords lookup (lengthened front text) ts x → SomeWords lookup front (word Plain text ∷ ts) x
  one_more front text ts x bare g = record {
    first = text;
    others = g.first ∷ g.others;
    bare = (bare, g.bare);
    are = ap (λ l. word Plain text ∷ l) g.are;
    text = ap lookup (sym (assoc front text (join_with_byte 32 (g.first ∷ g.others)))) ∙ g.text;
  }

  stops : (front : List ℕ) (T : Lexeme) (rest : List Lexeme) → HasText lookup front → ((other : List Lexeme) → read front (T ∷ other) ≡ stopped (T ∷ other))
      → Answered (read front) (SomeWords lookup front) (T ∷ rest) (stopped (T ∷ rest))
  stops front T rest has h = ([], refl, begin front has, λ V s other i. let same : T ≡ V = cc in subst (λ (W : Lexeme). read front (W ∷ other) ≡ stopped (W ∷ other)) same (h other))

  further : (front text : List ℕ) (ts : List Lexeme) (o : Out A) → is_bare text ≡ true → is_front (lengthened front text) ≡ true
      → Answered (read (lengthened front text)) (SomeWords lookup (lengthened front text)) ts o → Answered (read front) (SomeWords lookup front) (word Plain text ∷ ts) o
  further front text ts (found x rest) bare e w = (
    word Plain text ∷ w.0,
    ap (λ l. word Plain text ∷ l) w.1,
    one_more front text w.0 x bare w.2,
    λ V s other i. goes front text (w.0 ++ (V ∷ other)) bare e ∙ w.3 V s other i,
  )
  further front text ts (stopped rest) bare e w = (
    word Plain text ∷ w.0,
    ap (λ l. word Plain text ∷ l) w.1,
    (w.2.0, w.2.1, one_more front text (w.0 ++ w.2.0) w.2.1 bare w.2.2),
    λ V s other i. goes front text (w.0 ++ (V ∷ other)) bare e ∙ w.3 V s other i,
  )

  at_word : (front text : List ℕ) (rest : List Lexeme) → HasText lookup front
      → ((f : List ℕ) → HasText lookup f → Answered (read f) (SomeWords lookup f) rest (read f rest))
      → (bare goes_on : Bool) (o : Option A) → is_bare text ≡ bare → is_front (lengthened front text) ≡ goes_on → lookup (front ++ text) ≡ o
      → Answered (read front) (SomeWords lookup front) (word Plain text ∷ rest) (read front (word Plain text ∷ rest))
  at_word front text rest has next true true o bare e i =
      subst (Answered (read front) (SomeWords lookup front) (word Plain text ∷ rest)) (sym (goes front text rest bare e))
      (further front text rest (read (lengthened front text) rest) bare e (next (lengthened front text) (has_text (lengthened front text) e)))
  at_word front text rest has next true false (Some x) bare e i =
      subst (Answered (read front) (SomeWords lookup front) (word Plain text ∷ rest)) (sym (stays front text rest (Some x) bare e i))
      (word Plain text ∷ [], refl, record { first = text; others = []; bare = (bare, tt); are = refl; text = i }, λ V s other j. stays front text (V ∷ other) (Some x) bare e i)
  at_word front text rest has next true false None bare e i =
      subst (Answered (read front) (SomeWords lookup front) (word Plain text ∷ rest)) (sym (stays front text rest None bare e i))
      (stops front (word Plain text) rest has (λ other. stays front text other None bare e i))
  at_word front text rest has next false goes_on o bare e i =
      subst (Answered (read front) (SomeWords lookup front) (word Plain text ∷ rest)) (sym (refused front text rest bare))
      (stops front (word Plain text) rest has (λ other. refused front text other bare))

  at_token : (T : Lexeme) (front : List ℕ) (rest : List Lexeme) → HasText lookup front
      → ((f : List ℕ) → HasText lookup f → Answered (read f) (SomeWords lookup f) rest (read f rest))
      → Answered (read front) (SomeWords lookup front) (T ∷ rest) (read front (T ∷ rest))
  unfolding read
  at_token (word Plain text) front rest has next = at_word front text rest has next (is_bare text) (is_front (lengthened front text)) (lookup (front ++ text)) refl refl refl
  at_token (word Dotted text) front rest has next = stops front (word Dotted text) rest has (λ other. refl)
  at_token (word True text) front rest has next = stops front (word True text) rest has (λ other. refl)
  at_token (word Meta text) front rest has next = stops front (word Meta text) rest has (λ other. refl)
  at_token (word Place text) front rest has next = stops front (word Place text) rest has (λ other. refl)
  at_token (mark m) front rest has next = stops front (mark m) rest has (λ other. refl)

  answers : (ts : List Lexeme) (front : List ℕ) → HasText lookup front → Answered (read front) (SomeWords lookup front) ts (read front ts)
  unfolding read
  answers [] front has = ([], refl, begin front has, λ T r other i. cc)
  answers (T ∷ rest) front has = at_token T front rest has (λ f h. answers rest f h)

  pub Exact-words : (front : List ℕ) → HasText lookup front → Exact (read_words lookup is_front front) (SomeWords lookup front) Anything
  unfolding read
  Exact-words front has =
      let first = begin front has in
      record {
        full = λ ts x rest g s. full front ts x rest g;
        answers = λ ts. answers ts front has;
        sample = first.0;
        sample_value = first.1;
        sample_ok = first.2;
      }
