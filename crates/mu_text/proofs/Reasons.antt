-- What a line of a proof holds by is read exactly.
use Rattle.std.proofs.Common.{◌≡◌, ℕ, false, List, [], ◌∷◌, ◌++◌, Option, Some, inl, inr, refl, ap, sym, ◌∙◌, subst, append_assoc}
use Rattle.std.specs.Prelude.{codes}
use Rattle.mu_tree.specs.declared.why.Ref.{Ref}
use Rattle.mu_grammar.specs.declared.symbol.Word.TheVariants.{Place, Meta}
use Rattle.mu_grammar.specs.declared.symbol.Mark.TheVariants.{And, Or as Either, Not, Comma, Semicolon, Becomes}
use Rattle.mu_grammar.specs.Lexemes.{Lexeme, word, mark}
use Rattle.mu_grammar.specs.Marks.{is_mark}
use Rattle.mu_grammar.specs.Parts.{Out, Then, chain, Made, mapped, Or, either}
use Rattle.mu_grammar.specs.SimpleParts.{name_of, meta_of, AnyName, PlainName, MetaName, PlaceNumber, GivenWord, GivenMark, has_bytes, is_word, read_meta, read_mark, read_word, read_name, read_plain_name, read_place}
use Rattle.mu_grammar.specs.Groups.{Behind, Optional, Parameters, behind, both, read_parameters}
use Rattle.mu_grammar.specs.Writings.{Writing}
use Rattle.mu_grammar.specs.Trees.{OneTree, read_tree}
use Rattle.mu_grammar.specs.References.{is_place_token, IsReference, SomeReferences, read_reference, read_references}
use Rattle.mu_grammar.specs.Blocks.{SomeTrees, read_trees}
use Rattle.mu_grammar.specs.Reasons.{AbstractionWriting, IsAbstraction, SomeAbstractions, abstracting, read_abstraction, read_abstractions, Reason, by_rule, by_hypothesis, by_definition, by_same, Led, led, citing, read_from, read_with, read_via, read_terms, read_cited, read_by_rule, read_by_hypothesis, read_by_definition, read_by_same, IsReason, read_reason}
use Rattle.mu_text.proofs.Choice.{Passes, Fails, Exact-either}
use Rattle.mu_text.proofs.Complete.{Follows, MayFollow, free_word, plain_follows}
use Rattle.mu_text.proofs.Exact.{Exact, Exact-same, Exact-chain, Exact-mapped, Exact-before}
use Rattle.mu_text.proofs.Blocks.{NoTrees, Exact-trees}
use Rattle.mu_text.proofs.Groups.{NotBegun, NoBracket, Exact-any, Exact-behind, Exact-perhaps, Exact-parameters, behind_passes}
use Rattle.mu_text.proofs.Lists.{Exact-separated}
use Rattle.mu_text.proofs.Simple.{Any, Exact-meta, Exact-mark, Exact-word, Exact-name, Exact-plain_name, Exact-place, is_own_word}
use Rattle.mu_text.proofs.Trees.{NoSemicolon, Exact-tree}
use Rattle.mu_text.proofs.References.{NoPlace, NoReferences, Exact-reference, Exact-references}

abbrev Body : List ℕ → List (List ℕ) → List Lexeme → AbstractionWriting → Type 0
Body meta params = Then (GivenMark Becomes) (λ _. Made (abstracting meta params) OneTree)

abbrev Params : List ℕ → List Lexeme → AbstractionWriting → Type 0
Params meta = Then Parameters (Body meta)

exact_body : (meta : List ℕ) (params : List (List ℕ)) → Exact (chain (read_mark Becomes) (λ _. mapped (abstracting meta params) read_tree)) (Body meta params) Follows
exact_body meta params =
    Exact-chain (read_mark Becomes) (λ _. mapped (abstracting meta params) read_tree) (GivenMark Becomes) (λ _. Made (abstracting meta params) OneTree) Any Follows (Exact-mark Becomes)
    (λ u. Exact-mapped (abstracting meta params) read_tree OneTree Follows Exact-tree) (λ u b y rest g s. tt)

body_is : (meta : List ℕ) (params : List (List ℕ)) (ts : List Lexeme) (x : AbstractionWriting) → Body meta params ts x
    → (b : List Lexeme) × (w : Writing) × (ts ≡ mark Becomes ∷ b) × OneTree b w × (x ≡ abstracting meta params w)
body_is meta params ts x g = (g.2, g.5.0, g.3 ∙ ap (λ l. l ++ g.2) g.4, g.5.1, g.5.2)

link_body : (meta : List ℕ) (params : List (List ℕ)) (ts : List Lexeme) (x : AbstractionWriting) (rest : List Lexeme) → Body meta params ts x → Follows rest → NoBracket (ts ++ rest)
link_body meta params ts x rest g s = subst (λ (l : List Lexeme). NoBracket (l ++ rest)) (sym (body_is meta params ts x g).2) refl

exact_params : (meta : List ℕ) → Exact (chain read_parameters (λ params. chain (read_mark Becomes) (λ _. mapped (abstracting meta params) read_tree))) (Params meta) Follows
exact_params meta =
    Exact-chain read_parameters (λ params. chain (read_mark Becomes) (λ _. mapped (abstracting meta params) read_tree)) Parameters (Body meta) NoBracket Follows Exact-parameters (exact_body meta) (link_body meta)

meta_is : (T : Lexeme) (text : List ℕ) → meta_of T ≡ Some text → T ≡ word Meta text
meta_is (word Meta other) text e = cc
meta_is (word _ other) text e = cc
meta_is (mark m) text e = cc

to_abstraction : (ts : List Lexeme) (x : AbstractionWriting) → Then MetaName Params ts x → IsAbstraction ts x
to_abstraction ts x g =
    let k = g.5 in
    let b = body_is g.0 k.0 k.2 x k.5 in
    let front : g.1 ≡ word Meta g.0 ∷ [] = g.4.1 ∙ ap (λ T. T ∷ []) (meta_is g.4.0 g.0 g.4.2) in
    let back : g.2 ≡ k.1 ++ (mark Becomes ∷ b.0) = k.3 ∙ ap (λ l. k.1 ++ l) b.2 in
    subst (λ (y : AbstractionWriting). IsAbstraction ts y) (sym b.4) (k.1, b.0, g.3 ∙ (ap (λ l. l ++ g.2) front ∙ ap (λ l. word Meta g.0 ∷ l) back), k.4, b.3)

from_abstraction : (ts : List Lexeme) (x : AbstractionWriting) → IsAbstraction ts x → Then MetaName Params ts x
from_abstraction ts x g = (
  x.meta,
  word Meta x.meta ∷ [],
  g.0 ++ (mark Becomes ∷ g.1),
  g.2,
  (word Meta x.meta, refl, refl),
  (x.params, g.0, mark Becomes ∷ g.1, refl, g.3, (tt, mark Becomes ∷ [], g.1, refl, refl, (x.body, g.4, refl))),
)

pub Exact-abstraction : Exact read_abstraction IsAbstraction Follows
unfolding read_abstraction
Exact-abstraction =
    Exact-same read_abstraction (Then MetaName Params) IsAbstraction Follows to_abstraction from_abstraction
    (Exact-chain read_meta (λ meta. chain read_parameters (λ params. chain (read_mark Becomes) (λ _. mapped (abstracting meta params) read_tree))) MetaName Params Any Follows Exact-meta exact_params
    (λ meta b y rest g s. tt))

pub Exact-abstractions : Exact read_abstractions SomeAbstractions NoSemicolon
unfolding read_abstractions
Exact-abstractions = Exact-separated Semicolon read_abstraction IsAbstraction Follows Exact-abstraction (λ rest. plain_follows Semicolon 0 refl refl)

module _ {A : Type 0} (text : List ℕ) (p : List Lexeme → Out (List A)) (G : List Lexeme → List A → Type 0) (S : List Lexeme → Type 0) (P : Exact p G S) (some : (ts : List Lexeme) → G ts [] → ⊥) where
  -- items behind a word, or nothing
  pub Exact-led : Exact (led text p) (Led text G) (NotBegun (is_word text) S)
  Exact-led = Exact-any (is_word text) (behind text p) (Behind text G) S (Exact-behind text p G S P) (λ ts g. some g.1 g.4) (behind_passes text G)

-- references do not go on, and `from` does not follow
abbrev pub NoFrom : List Lexeme → Type 0
NoFrom rest = NotBegun (is_word (codes "from")) NoReferences rest

pub Exact-from : Exact read_from (Led (codes "from") SomeReferences) NoFrom
unfolding read_from
Exact-from = Exact-led (codes "from") read_references SomeReferences NoReferences Exact-references (λ ts g. g)

-- abstractions do not go on, and `with` does not follow
abbrev pub NoWith : List Lexeme → Type 0
NoWith rest = NotBegun (is_word (codes "with")) NoSemicolon rest

pub Exact-with : Exact read_with (Led (codes "with") SomeAbstractions) NoWith
unfolding read_with
Exact-with = Exact-led (codes "with") read_abstractions SomeAbstractions NoSemicolon Exact-abstractions (λ ts g. g)

-- trees do not go on, and `with` does not follow
abbrev pub NoTerms : List Lexeme → Type 0
NoTerms rest = NotBegun (is_word (codes "with")) NoTrees rest

pub Exact-terms : Exact read_terms (Led (codes "with") SomeTrees) NoTerms
unfolding read_terms
Exact-terms = Exact-led (codes "with") read_trees SomeTrees NoTrees Exact-trees (λ ts g. g)

-- `via` does not follow
abbrev pub NoVia : List Lexeme → Type 0
NoVia rest = NotBegun (is_word (codes "via")) Any rest

abbrev Via : List Lexeme → Option (List ℕ) → Type 0
Via = Optional (Behind (codes "via") PlainName)

pub Exact-via : Exact read_via Via NoVia
unfolding read_via
Exact-via = Exact-perhaps (codes "via") read_plain_name PlainName Any Exact-plain_name

-- nothing follows that a reason goes on with
pub record NoReason (rest : List Lexeme) : Type 0 where
  pub tree : Follows rest
  pub place : NoPlace rest
  pub comma : Fails (is_mark Comma) rest
  pub semicolon : Fails (is_mark Semicolon) rest
  pub via_word : Fails (is_word (codes "via")) rest
  pub from_word : Fails (is_word (codes "from")) rest
  pub with_word : Fails (is_word (codes "with")) rest

-- a reason may end the line
pub reason_ends : NoReason []
reason_ends = record { tree = tt; place = tt; comma = tt; semicolon = tt; via_word = tt; from_word = tt; with_word = tt }

-- the first token is the word
abbrev Headed : List ℕ → List Lexeme → Type 0
Headed text ts = (T : Lexeme) × (r : List Lexeme) × (ts ≡ T ∷ r) × (name_of T ≡ Some text)

-- what holds of each list that begins with the word holds of items that the word leads, where it holds of what follows them
led_link : {A : Type 0} (Q : List Lexeme → Type 0) (text : List ℕ) (G : List Lexeme → List A → Type 0) → ((T : Lexeme) (r : List Lexeme) → name_of T ≡ Some text → Q (T ∷ r))
    → (ts : List Lexeme) (xs : List A) (rest : List Lexeme) → Led text G ts xs → Q rest → Q (ts ++ rest)
led_link Q text G headed ts [] rest g q = subst (λ (l : List Lexeme). Q (l ++ rest)) (sym g) q
led_link Q text G headed ts (x ∷ xs) rest g q = subst (λ (l : List Lexeme). Q (l ++ rest)) (sym (g.2 ∙ ap (λ l. l ++ g.1) g.3.1)) (headed g.3.0 (g.1 ++ rest) g.3.2)

-- one word is not another
other_word : (text other : List ℕ) (T : Lexeme) → name_of T ≡ Some text → has_bytes other (Some text) ≡ false → is_word other T ≡ false
other_word text other T e f = ap (has_bytes other) e ∙ f

name_no_comma : (T : Lexeme) (text : List ℕ) → name_of T ≡ Some text → is_mark Comma T ≡ false
name_no_comma (word w other) text e = refl
name_no_comma (mark And) text e = refl
name_no_comma (mark Either) text e = refl
name_no_comma (mark Not) text e = refl
name_no_comma (mark _) text e = cc

name_no_place : (T : Lexeme) (text : List ℕ) → name_of T ≡ Some text → is_place_token T ≡ false
name_no_place (word Place other) text e = cc
name_no_place (word _ other) text e = refl
name_no_place (mark m) text e = refl

from_follows : (T : Lexeme) → name_of T ≡ Some (codes "from") → MayFollow 0 T
from_follows (word w text) e = record { free = free_word w text; operator = λ p g. cc }
from_follows (mark And) e = cc
from_follows (mark Either) e = cc
from_follows (mark Not) e = cc
from_follows (mark _) e = cc

with_no_from : (T : Lexeme) (r : List Lexeme) → name_of T ≡ Some (codes "with") → NoFrom (T ∷ r)
with_no_from T r e = ((name_no_place T (codes "with") e, name_no_comma T (codes "with") e), other_word (codes "with") (codes "from") T e refl)

from_no_terms : (T : Lexeme) (r : List Lexeme) → name_of T ≡ Some (codes "from") → NoTerms (T ∷ r)
from_no_terms T r e = ((from_follows T e, name_no_comma T (codes "from") e), other_word (codes "from") (codes "with") T e refl)

abbrev Cited : List Lexeme → List Ref × List AbstractionWriting → Type 0
Cited = Then (Led (codes "from") SomeReferences) (λ refs. Made (both refs) (Led (codes "with") SomeAbstractions))

pub Exact-cited : Exact read_cited Cited NoReason
unfolding read_cited
Exact-cited =
    Exact-chain read_from (λ refs. mapped (both refs) read_with) (Led (codes "from") SomeReferences) (λ refs. Made (both refs) (Led (codes "with") SomeAbstractions)) NoFrom NoReason Exact-from
    (λ refs. Exact-mapped (both refs) read_with (Led (codes "with") SomeAbstractions) NoReason
    (Exact-before read_with (Led (codes "with") SomeAbstractions) NoWith NoReason (λ rest s. ((s.tree, s.semicolon), s.with_word)) Exact-with))
    (λ refs b y rest g s. led_link NoFrom (codes "with") SomeAbstractions with_no_from b g.0 rest g.1 ((s.place, s.comma), s.from_word))

link_cited : (ts : List Lexeme) (y : List Ref × List AbstractionWriting) (rest : List Lexeme) → Cited ts y → NoReason rest → NoVia (ts ++ rest)
link_cited ts y rest g s =
    let k = g.5 in
    let same : g.1 ++ (g.2 ++ rest) ≡ ts ++ rest = sym (append_assoc g.1 g.2 rest) ∙ ap (λ l. l ++ rest) (sym g.3) in
    subst NoVia same
    (led_link NoVia (codes "from") SomeReferences (λ T r e. (tt, other_word (codes "from") (codes "via") T e refl)) g.1 g.0 (g.2 ++ rest) g.4
    (led_link NoVia (codes "with") SomeAbstractions (λ T r e. (tt, other_word (codes "with") (codes "via") T e refl)) g.2 k.0 rest k.1 (tt, s.via_word)))

abbrev Translated : List ℕ → List Lexeme → Reason → Type 0
Translated name = Then Via (λ via. Made (citing name via) Cited)

abbrev Ruled : List Lexeme → Reason → Type 0
Ruled = Then (GivenWord (codes "rule")) (λ _. Then AnyName Translated)

exact_translated : (name : List ℕ) → Exact (chain read_via (λ via. mapped (citing name via) read_cited)) (Translated name) NoReason
exact_translated name =
    Exact-chain read_via (λ via. mapped (citing name via) read_cited) Via (λ via. Made (citing name via) Cited) NoVia NoReason Exact-via (λ via. Exact-mapped (citing name via) read_cited Cited NoReason Exact-cited)
    (λ via b y rest g s. link_cited b g.0 rest g.1 s)

exact_ruled : Exact read_by_rule Ruled NoReason
unfolding read_by_rule
exact_ruled =
    Exact-chain (read_word (codes "rule")) (λ _. chain read_name (λ name. chain read_via (λ via. mapped (citing name via) read_cited))) (GivenWord (codes "rule")) (λ _. Then AnyName Translated) Any NoReason (Exact-word (codes "rule"))
    (λ u. Exact-chain read_name (λ name. chain read_via (λ via. mapped (citing name via) read_cited)) AnyName Translated Any NoReason Exact-name exact_translated (λ name b y rest g s. tt))
    (λ u b y rest g s. tt)

abbrev Terms : ℕ → List Lexeme → Reason → Type 0
Terms n = Then (Led (codes "with") SomeTrees) (λ terms. Made (by_hypothesis n terms) (Led (codes "from") SomeReferences))

abbrev Assumed : List Lexeme → Reason → Type 0
Assumed = Then (GivenWord (codes "hyp")) (λ _. Then PlaceNumber Terms)

exact_with_terms : (n : ℕ) → Exact (chain read_terms (λ terms. mapped (by_hypothesis n terms) read_from)) (Terms n) NoReason
exact_with_terms n =
    Exact-chain read_terms (λ terms. mapped (by_hypothesis n terms) read_from) (Led (codes "with") SomeTrees) (λ terms. Made (by_hypothesis n terms) (Led (codes "from") SomeReferences)) NoTerms NoReason Exact-terms
    (λ terms. Exact-mapped (by_hypothesis n terms) read_from (Led (codes "from") SomeReferences) NoReason
    (Exact-before read_from (Led (codes "from") SomeReferences) NoFrom NoReason (λ rest s. ((s.place, s.comma), s.from_word)) Exact-from))
    (λ terms b y rest g s. led_link NoTerms (codes "from") SomeReferences from_no_terms b g.0 rest g.1 ((s.tree, s.comma), s.with_word))

exact_assumed : Exact read_by_hypothesis Assumed NoReason
unfolding read_by_hypothesis
exact_assumed =
    Exact-chain (read_word (codes "hyp")) (λ _. chain read_place (λ n. chain read_terms (λ terms. mapped (by_hypothesis n terms) read_from))) (GivenWord (codes "hyp")) (λ _. Then PlaceNumber Terms) Any NoReason (Exact-word (codes "hyp"))
    (λ u. Exact-chain read_place (λ n. chain read_terms (λ terms. mapped (by_hypothesis n terms) read_from)) PlaceNumber Terms Any NoReason Exact-place exact_with_terms (λ n b y rest g s. tt))
    (λ u b y rest g s. tt)

exact_on : (make : Ref → Reason) → Exact (mapped make read_reference) (Made make IsReference) NoReason
exact_on make =
    Exact-before (mapped make read_reference) (Made make IsReference) NoPlace NoReason (λ rest s. s.place) (Exact-mapped make read_reference IsReference NoPlace Exact-reference)

abbrev On : List ℕ → List Lexeme → Reason → Type 0
On constant = Then (GivenWord (codes "on")) (λ _. Made (by_definition constant) IsReference)

abbrev Defined : List Lexeme → Reason → Type 0
Defined = Then (GivenWord (codes "def")) (λ _. Then AnyName On)

exact_defined : Exact read_by_definition Defined NoReason
unfolding read_by_definition
exact_defined =
    Exact-chain (read_word (codes "def")) (λ _. chain read_name (λ constant. chain (read_word (codes "on")) (λ _. mapped (by_definition constant) read_reference))) (GivenWord (codes "def")) (λ _. Then AnyName On) Any NoReason (Exact-word (codes "def"))
    (λ u. Exact-chain read_name (λ constant. chain (read_word (codes "on")) (λ _. mapped (by_definition constant) read_reference)) AnyName On Any NoReason Exact-name
    (λ constant. Exact-chain (read_word (codes "on")) (λ _. mapped (by_definition constant) read_reference) (GivenWord (codes "on")) (λ _. Made (by_definition constant) IsReference) Any NoReason (Exact-word (codes "on"))
    (λ u. exact_on (by_definition constant)) (λ u b y rest g s. tt))
    (λ constant b y rest g s. tt))
    (λ u b y rest g s. tt)

abbrev Repeated : List Lexeme → Reason → Type 0
Repeated = Then (GivenWord (codes "same")) (λ _. Made by_same IsReference)

exact_repeated : Exact read_by_same Repeated NoReason
unfolding read_by_same
exact_repeated =
    Exact-chain (read_word (codes "same")) (λ _. mapped by_same read_reference) (GivenWord (codes "same")) (λ _. Made by_same IsReference) Any NoReason (Exact-word (codes "same")) (λ u. exact_on by_same) (λ u b y rest g s. tt)

module _ {A : Type 0} (text : List ℕ) (H : Unit {0} → List Lexeme → A → Type 0) where
  word_first : (ts : List Lexeme) (y : A) → Then (GivenWord text) H ts y → Headed text ts
  word_first ts y g = (g.4.0, g.2, g.3 ∙ ap (λ l. l ++ g.2) g.4.1, g.4.2)

  word_passes : (ts : List Lexeme) (y : A) → Then (GivenWord text) H ts y → Passes (is_word text) ts
  word_passes ts y g = let first = word_first ts y g in subst (Passes (is_word text)) (sym first.2) (is_own_word text first.0 first.3)

  word_fails : (other : List ℕ) → has_bytes other (Some text) ≡ false → (ts : List Lexeme) (y : A) (rest : List Lexeme) → Then (GivenWord text) H ts y → Fails (is_word other) (ts ++ rest)
  word_fails other f ts y rest g =
      let first = word_first ts y g in subst (λ (l : List Lexeme). Fails (is_word other) (l ++ rest)) (sym first.2) (other_word text other first.0 first.3 f)

abbrev DefinedOrRepeated : List Lexeme → Reason → Type 0
DefinedOrRepeated = Or Defined Repeated

abbrev NotRuled : List Lexeme → Reason → Type 0
NotRuled = Or Assumed DefinedOrRepeated

abbrev read_defined_or_repeated : List Lexeme → Out Reason
read_defined_or_repeated = either (is_word (codes "def")) read_by_definition read_by_same

abbrev read_not_ruled : List Lexeme → Out Reason
read_not_ruled = either (is_word (codes "hyp")) read_by_hypothesis read_defined_or_repeated

exact_defined_or_repeated : Exact read_defined_or_repeated DefinedOrRepeated NoReason
exact_defined_or_repeated =
    Exact-either (is_word (codes "def")) read_by_definition read_by_same Defined Repeated NoReason exact_defined exact_repeated (word_passes (codes "def") (λ _. Then AnyName On))
    (λ ts y rest g s. word_fails (codes "same") (λ _. Made by_same IsReference) (codes "def") refl ts y rest g)

not_assumed : (other : List ℕ) → has_bytes other (Some (codes "def")) ≡ false → has_bytes other (Some (codes "same")) ≡ false
    → (ts : List Lexeme) (y : Reason) (rest : List Lexeme) → DefinedOrRepeated ts y → Fails (is_word other) (ts ++ rest)
not_assumed other d r ts y rest (inl g) = word_fails (codes "def") (λ _. Then AnyName On) other d ts y rest g
not_assumed other d r ts y rest (inr g) = word_fails (codes "same") (λ _. Made by_same IsReference) other r ts y rest g

exact_not_ruled : Exact read_not_ruled NotRuled NoReason
exact_not_ruled =
    Exact-either (is_word (codes "hyp")) read_by_hypothesis read_defined_or_repeated Assumed DefinedOrRepeated NoReason exact_assumed exact_defined_or_repeated (word_passes (codes "hyp") (λ _. Then PlaceNumber Terms))
    (λ ts y rest g s. not_assumed (codes "hyp") refl refl ts y rest g)

not_ruled : (ts : List Lexeme) (y : Reason) (rest : List Lexeme) → NotRuled ts y → Fails (is_word (codes "rule")) (ts ++ rest)
not_ruled ts y rest (inl g) = word_fails (codes "hyp") (λ _. Then PlaceNumber Terms) (codes "rule") refl ts y rest g
not_ruled ts y rest (inr g) = not_assumed (codes "rule") refl refl ts y rest g

to_reason : (ts : List Lexeme) (y : Reason) → Or Ruled NotRuled ts y → IsReason ts y
to_reason ts y (inl g) =
    let n = g.5 in
    let v = n.5 in
    let m = v.5 in
    let c = m.1 in
    let k = c.5 in
    subst (λ (z : Reason). IsReason ts z) (sym (m.2 ∙ ap (citing n.0 v.0) k.2))
    (g.1, n.1, v.1, c.1, c.2, g.3 ∙ ap (λ l. g.1 ++ l) (n.3 ∙ ap (λ l. n.1 ++ l) (v.3 ∙ ap (λ l. v.1 ++ l) c.3)), g.4, n.4, v.4, c.4, k.1)
to_reason ts y (inr (inl g)) =
    let n = g.5 in
    let t = n.5 in
    let m = t.5 in
    subst (λ (z : Reason). IsReason ts z) (sym m.2) (g.1, n.1, t.1, t.2, g.3 ∙ ap (λ l. g.1 ++ l) (n.3 ∙ ap (λ l. n.1 ++ l) t.3), g.4, n.4, t.4, m.1)
to_reason ts y (inr (inr (inl g))) =
    let n = g.5 in
    let o = n.5 in
    let m = o.5 in
    subst (λ (z : Reason). IsReason ts z) (sym m.2) (g.1, n.1, o.1, o.2, g.3 ∙ ap (λ l. g.1 ++ l) (n.3 ∙ ap (λ l. n.1 ++ l) o.3), g.4, n.4, o.4, m.1)
to_reason ts y (inr (inr (inr g))) = subst (λ (z : Reason). IsReason ts z) (sym g.5.2) (g.1, g.2, g.3, g.4, g.5.1)

from_reason : (ts : List Lexeme) (y : Reason) → IsReason ts y → Or Ruled NotRuled ts y
from_reason ts (by_rule name via refs inst) g =
    let (a, b, c, d, e, is, rule, named, translated, from, with_) = g in
    inl (tt, a, b ++ (c ++ (d ++ e)), is, rule, (name, b, c ++ (d ++ e), refl, named, (via, c, d ++ e, refl, translated, ((refs, inst), (refs, d, e, refl, from, (inst, with_, refl)), refl))))
from_reason ts (by_hypothesis n terms refs) g =
    let (a, b, c, d, is, hyp, place, given, from) = g in
    inr (inl (tt, a, b ++ (c ++ d), is, hyp, (n, b, c ++ d, refl, place, (terms, c, d, refl, given, (refs, from, refl)))))
from_reason ts (by_definition constant on) g =
    let (a, b, c, d, is, def, named, on_word, reference) = g in
    inr (inr (inl (tt, a, b ++ (c ++ d), is, def, (constant, b, c ++ d, refl, named, (tt, c, d, refl, on_word, (on, reference, refl))))))
from_reason ts (by_same on) g = inr (inr (inr (tt, g.0, g.1, g.2, g.3, (on, g.4, refl))))

pub Exact-reason : Exact read_reason IsReason NoReason
unfolding read_reason
Exact-reason =
    Exact-same read_reason (Or Ruled NotRuled) IsReason NoReason to_reason from_reason
    (Exact-either (is_word (codes "rule")) read_by_rule read_not_ruled Ruled NotRuled NoReason exact_ruled exact_not_ruled (word_passes (codes "rule") (λ _. Then AnyName Translated)) (λ ts y rest g s. not_ruled ts y rest g))
