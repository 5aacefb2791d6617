-- What holds of each word of a writing holds of each word of the canonical writing of its tree.
use Rattle.std.proofs.Common.{◌≡◌, ℕ, ◌-◌, ◌*◌, Bool, true, false, List, [], ◌∷◌, ◌++◌, Option, Some, None, map, refl, ap, sym, ◌∙◌, subst}
use Rattle.std.specs.Prelude.{if◌then◌else◌, nat_le, codes}
use Rattle.std.specs.List.{AllByRecursion}
use Rattle.std.specs.Str.{bytes_eq}
use Rattle.mu_tree.specs.declared.trees.Tree.{Tree}
use Rattle.mu_tree.specs.declared.trees.Tree.TheVariants as tree
use Rattle.mu_tree.specs.Names.{IsName}
use Rattle.mu_tree.specs.Trees.{depth}
use Rattle.mu_grammar.specs.declared.ops.Op.{Op}
use Rattle.mu_grammar.specs.declared.symbol.Word.{Word}
use Rattle.mu_grammar.specs.declared.symbol.Word.TheVariants.{Plain, Dotted, True, Meta, Place}
use Rattle.mu_grammar.specs.declared.symbol.Mark.{Mark}
use Rattle.mu_grammar.specs.declared.symbol.Mark.TheVariants.{And, Or, Not, Iff, Imp, Eq, Colon, Open, Close, OpenBracket, CloseBracket, OpenBrace, CloseBrace, Comma, Dot}
use Rattle.mu_grammar.specs.declared.symbol.Sort.TheVariants as sort
use Rattle.mu_grammar.specs.Lexemes.{Lexeme, word, mark, name_word, name_sort}
use Rattle.mu_grammar.specs.Ops.{binary, constant_of, is_negation, operator_named, prefix_level}
use Rattle.mu_grammar.specs.Limits.{WithinToken, WithinTokens}
use Rattle.mu_grammar.specs.Writings.{Writing, Writings, leaf, apply, bind, paren, neg, bin, one, more, level, opener, closer, tokens, tokens_of, made, tree_of, trees_of, is_head, is_binder, Fits, FitsAll}
use Rattle.mu_grammar.proofs.Together.{all_parts, all_together}
use Rattle.mu_print.specs.Canonical.{at_least, together, headed, with_one, with_two, applied, canonical}
use Rattle.mu_print.specs.Sound.{SoundName, Sound, SoundLexeme, SoundLexemes, RightLexeme, RightLexemes, Sounds, SoundsAll}
use Rattle.mu_print.proofs.Canon.{canonical-app, canonical-meta, canonical-bind, canonical_fits, name_case}

abbrev mutual
  -- P holds of each word of the writing
  pub HasWords : (Word → List ℕ → Type 0) → Writing → Type 0
  HasWords P (leaf w text) = P w text
  HasWords P (apply w text ws) = P w text × HaveWords P ws
  HasWords P (bind w text v d b) = P w text × P Plain v × HasWords P d × HasWords P b
  HasWords P (paren w) = HasWords P w
  HasWords P (neg w) = HasWords P w
  HasWords P (bin item o a b) = HasWords P a × HasWords P b

  pub HaveWords : (Word → List ℕ → Type 0) → Writings → Type 0
  HaveWords P (one w) = HasWords P w
  HaveWords P (more w ws) = HasWords P w × HaveWords P ws

-- the words of a writing are among its tokens
mutual
  pub words_of : (Q : Lexeme → Type 0) (w : Writing) → AllByRecursion Q (tokens w) → HasWords (λ s x. Q (word s x)) w
  words_of Q (leaf s x) h = h.0
  words_of Q (apply s x ws) h = (h.0, words_of_all Q ws (all_parts Q (tokens_of ws) (closer s ∷ []) h.1.1).0)
  words_of Q (bind s x v d b) h =
      let p = all_parts Q (tokens d) (mark Dot ∷ (tokens b ++ mark CloseBrace ∷ [])) h.1.1.1.1 in
      (h.0, h.1.1.0, words_of Q d p.0, words_of Q b (all_parts Q (tokens b) (mark CloseBrace ∷ []) p.1.1).0)
  words_of Q (paren w) h = words_of Q w (all_parts Q (tokens w) (mark Close ∷ []) h.1).0
  words_of Q (neg w) h = words_of Q w h.1
  words_of Q (bin item o a b) h = let p = all_parts Q (tokens a) (item ∷ tokens b) h in (words_of Q a p.0, words_of Q b p.1.1)

  pub words_of_all : (Q : Lexeme → Type 0) (ws : Writings) → AllByRecursion Q (tokens_of ws) → HaveWords (λ s x. Q (word s x)) ws
  words_of_all Q (one w) h = words_of Q w h
  words_of_all Q (more w ws) h = let p = all_parts Q (tokens w) (mark Comma ∷ tokens_of ws) h in (words_of Q w p.0, words_of_all Q ws p.1.1)

abbrev OfMarks : (Lexeme → Type 0) → Type 0
OfMarks Q = (m : Mark) → RightLexeme (mark m) → Q (mark m)

opener_has : (Q : Lexeme → Type 0) → OfMarks Q → (s : Word) → Q (opener s)
opener_has Q f Meta = f OpenBracket tt
opener_has Q f Place = f Open tt
opener_has Q f Plain = f Open tt
opener_has Q f Dotted = f Open tt
opener_has Q f True = f Open tt

closer_has : (Q : Lexeme → Type 0) → OfMarks Q → (s : Word) → Q (closer s)
closer_has Q f Meta = f CloseBracket tt
closer_has Q f Place = f Close tt
closer_has Q f Plain = f Close tt
closer_has Q f Dotted = f Close tt
closer_has Q f True = f Close tt

operator_has : (Q : Lexeme → Type 0) → OfMarks Q → (item : Lexeme) (o : Op) → binary item ≡ Some o → Q item
operator_has Q f (mark Iff) o e = f Iff tt
operator_has Q f (mark Imp) o e = f Imp tt
operator_has Q f (mark Or) o e = f Or tt
operator_has Q f (mark And) o e = f And tt
operator_has Q f (mark Eq) o e = f Eq tt
operator_has Q f (mark Colon) o e = f Colon tt
operator_has Q f (word s x) o e = absurd (let no : ⊥ = cc in no)
operator_has Q f (mark _) o e = absurd (let no : ⊥ = cc in no)

-- the tokens of a writing that fits are its words and marks
mutual
  pub tokens_have : (Q : Lexeme → Type 0) → OfMarks Q → (n : ℕ) (w : Writing) → Fits n w → HasWords (λ s x. Q (word s x)) w → AllByRecursion Q (tokens w)
  tokens_have Q f n (leaf s x) g h = (h, tt)
  tokens_have Q f n (apply s x ws) g h = (h.0, (opener_has Q f s, all_together Q (tokens_of ws) (closer s ∷ []) (tokens_have_all Q f (n - 1) ws g.2 h.1) (closer_has Q f s, tt)))
  tokens_have Q f n (bind s x v d b) g h = (
    h.0,
    (
      f OpenBrace tt,
      (
        h.1,
        (
          f Colon tt,
          all_together Q (tokens d) (mark Dot ∷ (tokens b ++ mark CloseBrace ∷ [])) (tokens_have Q f (n - 1) d g.2 h.2)
              (f Dot tt, all_together Q (tokens b) (mark CloseBrace ∷ []) (tokens_have Q f (n - 1) b g.3 h.3) (f CloseBrace tt, tt)),
        ),
      ),
    ),
  )
  tokens_have Q f n (paren w) g h = (f Open tt, all_together Q (tokens w) (mark Close ∷ []) (tokens_have Q f (n - 1) w g.1 h) (f Close tt, tt))
  tokens_have Q f n (neg w) g h = (f Not tt, tokens_have Q f (n - 1) w g.2 h)
  tokens_have Q f n (bin item o a b) g h = all_together Q (tokens a) (item ∷ tokens b) (tokens_have Q f n a g.2 h.0) (operator_has Q f item o g.0, tokens_have Q f (n - o.opens) b g.5 h.1)

  pub tokens_have_all : (Q : Lexeme → Type 0) → OfMarks Q → (n : ℕ) (ws : Writings) → FitsAll n ws → HaveWords (λ s x. Q (word s x)) ws → AllByRecursion Q (tokens_of ws)
  tokens_have_all Q f n (one w) g h = tokens_have Q f n w g h
  tokens_have_all Q f n (more w ws) g h = all_together Q (tokens w) (mark Comma ∷ tokens_of ws) (tokens_have Q f n w g.0 h.0) (f Comma tt, tokens_have_all Q f n ws g.1 h.1)

at_least_has : (P : Word → List ℕ → Type 0) (least : ℕ) (w : Writing) → HasWords P w → HasWords P (at_least least w)
at_least_has P least w h = by (nat_le least (level w))
  where
    by : (b : Bool) → HasWords P (if b then w else paren w)
    by true = h
    by false = h

together_has : (P : Word → List ℕ → Type 0) (w : Writing) (ws : List Writing) → HasWords P w → AllByRecursion (HasWords P) ws → HaveWords P (together w ws)
together_has P w [] h i = h
together_has P w (v ∷ vs) h i = (h, together_has P v vs i.0 i.1)

headed_has : (P : Word → List ℕ → Type 0) (s : Word) (x : List ℕ) (ws : List Writing) → P s x → AllByRecursion (HasWords P) ws → HasWords P (headed s x ws)
headed_has P s x [] p h = p
headed_has P s x (w ∷ ws) p h = (p, together_has P w ws h.0 h.1)

one_has : (P : Word → List ℕ → Type 0) (x : List ℕ) (a : Writing) (b : Bool) → P (name_word x) x → HasWords P a → HasWords P (with_one x a b)
one_has P x a true p h = at_least_has P prefix_level a h
one_has P x a false p h = (p, h)

two_has : (P : Word → List ℕ → Type 0) (x : List ℕ) (a b : Writing) (r : Option Op) → P (name_word x) x → HasWords P a → HasWords P b → HasWords P (with_two x a b r)
two_has P x a b None p h i = (p, (h, i))
two_has P x a b (Some o) p h i = (at_least_has P o.left a h, at_least_has P o.right b i)

applied_has : (P : Word → List ℕ → Type 0) (x : List ℕ) (ws : List Writing) → P (name_word x) x → AllByRecursion (HasWords P) ws → HasWords P (applied x ws)
applied_has P x [] p h = p
applied_has P x (a ∷ []) p h = one_has P x a (is_negation x) p h.0
applied_has P x (a ∷ b ∷ []) p h = two_has P x a b (operator_named x) p h.0 h.1.0
applied_has P x (a ∷ b ∷ c ∷ ws) p h = headed_has P (name_word x) x (a ∷ b ∷ c ∷ ws) p h

-- P holds of a name, whichever word it is written as
abbrev OfNames : (Word → List ℕ → Type 0) → Type 0
OfNames P = (s : Word) (x : List ℕ) → is_binder s ≡ true → P s x → P (name_word x) x

made_has : (P : Word → List ℕ → Type 0) → OfNames P → (s : Word) (x : List ℕ) (ts : List Tree) → is_head s ≡ true → P s x → AllByRecursion (HasWords P) (map canonical ts) → HasWords P (canonical (made s x ts))
made_has P f Meta x ts e p h = subst (HasWords P) (sym (canonical-meta x ts)) (headed_has P Meta x (map canonical ts) p h)
made_has P f Place x ts e p h = absurd (let no : ⊥ = cc in no)
made_has P f Plain x ts e p h = subst (HasWords P) (sym (canonical-app x ts)) (applied_has P x (map canonical ts) (f Plain x refl p) h)
made_has P f Dotted x ts e p h = subst (HasWords P) (sym (canonical-app x ts)) (applied_has P x (map canonical ts) (f Dotted x refl p) h)
made_has P f True x ts e p h = subst (HasWords P) (sym (canonical-app x ts)) (applied_has P x (map canonical ts) (f True x refl p) h)

this_named : (x o : Op) → Some x ≡ Some o → operator_named (constant_of x.mark) ≡ Some x → operator_named (constant_of o.mark) ≡ Some o
this_named x o e h = let same : x ≡ o = cc in subst (λ o. operator_named (constant_of o.mark) ≡ Some o) same h

-- the operator that its own constant stands for
pub named_of : (item : Lexeme) (o : Op) → binary item ≡ Some o → operator_named (constant_of o.mark) ≡ Some o
named_of (mark Iff) o e = this_named _ o e refl
named_of (mark Imp) o e = this_named _ o e refl
named_of (mark Or) o e = this_named _ o e refl
named_of (mark And) o e = this_named _ o e refl
named_of (mark Eq) o e = this_named _ o e refl
named_of (mark Colon) o e = this_named _ o e refl
named_of (word s x) o e = cc
named_of (mark _) o e = cc

-- the canonical writing of an operator's tree
pub canonical-bin : (item : Lexeme) (o : Op) (a b : Tree) → binary item ≡ Some o → canonical (tree.App (constant_of o.mark) (a ∷ b ∷ [])) ≡ bin (mark o.mark) o (at_least o.left (canonical a)) (at_least o.right (canonical b))
canonical-bin item o a b e = canonical-app (constant_of o.mark) (a ∷ b ∷ []) ∙ ap (with_two (constant_of o.mark) (canonical a) (canonical b)) (named_of item o e)

pub canonical-neg : (a : Tree) → canonical (tree.App (constant_of Not) (a ∷ [])) ≡ neg (at_least prefix_level (canonical a))
canonical-neg a = canonical-app (constant_of Not) (a ∷ [])

mutual
  pub words_canonical : (P : Word → List ℕ → Type 0) → OfNames P → (n : ℕ) (w : Writing) → Fits n w → HasWords P w → HasWords P (canonical (tree_of w))
  words_canonical P f n (leaf s x) g h = made_has P f s x [] g h tt
  words_canonical P f n (apply s x ws) g h = made_has P f s x (trees_of ws) g.0 h.0 (words_canonical_all P f (n - 1) ws g.2 h.1)
  words_canonical P f n (bind s x v d b) g h =
      subst (HasWords P) (sym (canonical-bind x v (tree_of d) (tree_of b))) (f s x g.0 h.0, h.1, words_canonical P f (n - 1) d g.2 h.2, words_canonical P f (n - 1) b g.3 h.3)
  words_canonical P f n (paren w) g h = words_canonical P f (n - 1) w g.1 h
  words_canonical P f n (neg w) g h = subst (HasWords P) (sym (canonical-neg (tree_of w))) (at_least_has P prefix_level (canonical (tree_of w)) (words_canonical P f (n - 1) w g.2 h))
  words_canonical P f n (bin item o a b) g h =
      subst (HasWords P) (sym (canonical-bin item o (tree_of a) (tree_of b) g.0))
      (at_least_has P o.left (canonical (tree_of a)) (words_canonical P f n a g.2 h.0), at_least_has P o.right (canonical (tree_of b)) (words_canonical P f (n - o.opens) b g.5 h.1))

  words_canonical_all : (P : Word → List ℕ → Type 0) → OfNames P → (n : ℕ) (ws : Writings) → FitsAll n ws → HaveWords P ws → AllByRecursion (HasWords P) (map canonical (trees_of ws))
  words_canonical_all P f n (one w) g h = (words_canonical P f n w g h, tt)
  words_canonical_all P f n (more w ws) g h = (words_canonical P f n w g.0 h.0, words_canonical_all P f n ws g.1 h.1)

-- a sound name is the word that its bytes make it
word_of_sort : (a b c : Bool) (w s : Word) → (if a then sort.Mark And else (if b then sort.Mark Or else (if c then sort.Mark Not else sort.Word w))) ≡ sort.Word s → w ≡ s
word_of_sort true b c w s e = cc
word_of_sort false true c w s e = cc
word_of_sort false false true w s e = cc
word_of_sort false false false w s e = cc

sort_word : (x : List ℕ) (s : Word) → name_sort x ≡ sort.Word s → s ≡ name_word x
sort_word x s e = sym (word_of_sort (bytes_eq x (codes "and")) (bytes_eq x (codes "or")) (bytes_eq x (codes "not")) (name_word x) s e)

sound_word : (s : Word) (x : List ℕ) → SoundName s x → s ≡ name_word x
sound_word s [] h = absurd h
sound_word s (b ∷ bs) h = sort_word (b ∷ bs) s h.3

sound_names : OfNames Sound
sound_names Plain x e h = subst (λ s. Sound s x) (sound_word Plain x h) h
sound_names Dotted x e h = subst (λ s. Sound s x) (sound_word Dotted x h) h
sound_names True x e h = subst (λ s. Sound s x) (sound_word True x h) h
sound_names Meta x e h = absurd (let no : ⊥ = cc in no)
sound_names Place x e h = absurd (let no : ⊥ = cc in no)

within_name : (x : List ℕ) → IsName x → WithinToken (word (name_word x) x)
within_name x h = name_case x (λ s. WithinToken (word s x)) h h h

within_names : OfNames (λ s x. WithinToken (word s x))
within_names Plain x e h = within_name x h
within_names Dotted x e h = within_name x h
within_names True x e h = within_name x h
within_names Meta x e h = within_name x h
within_names Place x e h = absurd (let no : ⊥ = cc in no)

-- a writing that fits is sound where its words are
mutual
  pub sounds_from : (n : ℕ) (w : Writing) → Fits n w → HasWords Sound w → Sounds w
  sounds_from n (leaf s x) g h = h
  sounds_from n (apply s x ws) g h = (h.0, sounds_from_all (n - 1) ws g.2 h.1)
  sounds_from n (bind s x v d b) g h = (h.0, h.1, sounds_from (n - 1) d g.2 h.2, sounds_from (n - 1) b g.3 h.3)
  sounds_from n (paren w) g h = sounds_from (n - 1) w g.1 h
  sounds_from n (neg w) g h = sounds_from (n - 1) w g.2 h
  sounds_from n (bin item o a b) g h = (g.0, sounds_from n a g.2 h.0, sounds_from (n - o.opens) b g.5 h.1)

  sounds_from_all : (n : ℕ) (ws : Writings) → FitsAll n ws → HaveWords Sound ws → SoundsAll ws
  sounds_from_all n (one w) g h = sounds_from n w g h
  sounds_from_all n (more w ws) g h = (sounds_from n w g.0 h.0, sounds_from_all n ws g.1 h.1)

mutual
  any_words : (P : Word → List ℕ → Type 0) → ((s : Word) (x : List ℕ) → P s x) → (w : Writing) → HasWords P w
  any_words P f (leaf s x) = f s x
  any_words P f (apply s x ws) = (f s x, any_words_all P f ws)
  any_words P f (bind s x v d b) = (f s x, f Plain v, any_words P f d, any_words P f b)
  any_words P f (paren w) = any_words P f w
  any_words P f (neg w) = any_words P f w
  any_words P f (bin item o a b) = (any_words P f a, any_words P f b)

  any_words_all : (P : Word → List ℕ → Type 0) → ((s : Word) (x : List ℕ) → P s x) → (ws : Writings) → HaveWords P ws
  any_words_all P f (one w) = any_words P f w
  any_words_all P f (more w ws) = (any_words P f w, any_words_all P f ws)

-- where the words of a writing are sound, those of its tree's canonical writing are
pub sounds_canonical : (n : ℕ) (w : Writing) → Fits n w → SoundLexemes (tokens w) → Sounds (canonical (tree_of w))
sounds_canonical n w g h = sounds_from (2 * depth (tree_of w)) (canonical (tree_of w)) (canonical_fits (tree_of w)) (words_canonical Sound sound_names n w g (words_of SoundLexeme w h))

-- where the names of a writing are within the limit, those of its tree's canonical writing are
pub within_canonical : (n : ℕ) (w : Writing) → Fits n w → WithinTokens (tokens w) → WithinTokens (tokens (canonical (tree_of w)))
within_canonical n w g h =
    tokens_have WithinToken (λ m i. tt) (2 * depth (tree_of w)) (canonical (tree_of w)) (canonical_fits (tree_of w)) (words_canonical (λ s x. WithinToken (word s x)) within_names n w g (words_of WithinToken w h))

-- each token of a writing that fits is something
pub right_tokens : (n : ℕ) (w : Writing) → Fits n w → RightLexemes (tokens w)
right_tokens n w g = tokens_have RightLexeme (λ m i. i) n w g (any_words (λ s x. RightLexeme (word s x)) (λ s x. tt) w)
