-- Claims are read exactly.
use Rattle.std.proofs.Common.{◌≡◌, true, false, List, [], ◌∷◌, ◌++◌, inl, inr, refl, ap, sym, ◌∙◌, subst, append_assoc, append-nil}
use Rattle.mu_grammar.specs.declared.symbol.Mark.{Mark}
use Rattle.mu_grammar.specs.declared.symbol.Mark.TheVariants.{OpenBrace, CloseBrace, Semicolon, Turnstile}
use Rattle.mu_grammar.specs.Lexemes.{Lexeme, word, mark}
use Rattle.mu_grammar.specs.Marks.{is_mark}
use Rattle.mu_grammar.specs.Parts.{Nothing, given_back, Then, chain, Made, mapped, Or, More, read_more}
use Rattle.mu_grammar.specs.SimpleParts.{GivenMark, read_mark}
use Rattle.mu_grammar.specs.Groups.{Enclosed}
use Rattle.mu_grammar.specs.Writings.{Writing}
use Rattle.mu_grammar.specs.Trees.{OneTree, read_tree}
use Rattle.mu_grammar.specs.Blocks.{BlockWriting, IsBlock, begins_tree, read_block}
use Rattle.mu_grammar.specs.Claims.{Hypothesis, plain, sequent, Sentence, IsHypothesis, IsClaim, goes_on, concluding, read_upshot, read_sequent, read_hypothesis, read_hypotheses, read_concluded, read_after, read_claim}
use Rattle.mu_text.proofs.Blocks.{NoBlock, Exact-block, tree_passes}
use Rattle.mu_text.proofs.Choice.{Passes, Fails, Exact-either}
use Rattle.mu_text.proofs.Complete.{Follows, MayFollow, plain_follows}
use Rattle.mu_text.proofs.Exact.{Exact, Exact-same, Exact-chain, Exact-mapped, Exact-pure, Exact-before}
use Rattle.mu_text.proofs.Groups.{Exact-enclosed}
use Rattle.mu_text.proofs.Lists.{Exact-more}
use Rattle.mu_text.proofs.Simple.{Any, Exact-mark}
use Rattle.mu_text.proofs.Trees.{NoSemicolon, Exact-tree}

-- no claim goes on
abbrev pub NoClaim : List Lexeme → Type 0
NoClaim rest = Follows rest × Fails goes_on rest

abbrev Upshot : List Lexeme → Writing → Type 0
Upshot = Enclosed Turnstile CloseBrace OneTree

exact_upshot : Exact read_upshot Upshot Any
unfolding read_upshot
exact_upshot = Exact-enclosed Turnstile CloseBrace read_tree OneTree Follows Exact-tree (λ rest. plain_follows CloseBrace 0 refl refl)

abbrev Sequents : List Lexeme → Hypothesis → Type 0
Sequents = Then (GivenMark OpenBrace) (λ _. Then IsBlock (λ x. Made (sequent x) Upshot))

link_upshot : (x : BlockWriting) (ts : List Lexeme) (h : Hypothesis) (rest : List Lexeme) → Made (sequent x) Upshot ts h → Any rest → NoBlock (ts ++ rest)
link_upshot x ts h rest g s = subst (λ (l : List Lexeme). NoBlock (l ++ rest)) (sym g.1.1) ((plain_follows Turnstile 0 refl refl, refl), refl)

pub Exact-sequent : Exact read_sequent Sequents Any
unfolding read_sequent
Exact-sequent =
    Exact-chain (read_mark OpenBrace) (λ _. chain read_block (λ x. mapped (sequent x) read_upshot)) (GivenMark OpenBrace) (λ _. Then IsBlock (λ x. Made (sequent x) Upshot)) Any Any (Exact-mark OpenBrace)
    (λ u. Exact-chain read_block (λ x. mapped (sequent x) read_upshot) IsBlock (λ x. Made (sequent x) Upshot) NoBlock Any Exact-block (λ x. Exact-mapped (sequent x) read_upshot Upshot Any exact_upshot) link_upshot)
    (λ u b y rest g s. tt)

sequent_is : (ts : List Lexeme) (h : Hypothesis) → Sequents ts h → (x : BlockWriting) × (w : Writing) × IsHypothesis ts (sequent x w) × (h ≡ sequent x w)
sequent_is ts h g =
    let k = g.5 in
    let u = k.5 in
    (k.0, u.0, (k.1, u.1.0, g.3 ∙ (ap (λ l. l ++ g.2) g.4 ∙ ap (λ l. mark OpenBrace ∷ l) (k.3 ∙ ap (λ l. k.1 ++ l) u.1.1)), k.4, u.1.2), u.2)

to_hypothesis : (ts : List Lexeme) (h : Hypothesis) → Or Sequents (Made plain OneTree) ts h → IsHypothesis ts h
to_hypothesis ts h (inl g) = let k = sequent_is ts h g in subst (λ (k : Hypothesis). IsHypothesis ts k) (sym k.3) k.2
to_hypothesis ts h (inr g) = subst (λ (k : Hypothesis). IsHypothesis ts k) (sym g.2) g.1

from_hypothesis : (ts : List Lexeme) (h : Hypothesis) → IsHypothesis ts h → Or Sequents (Made plain OneTree) ts h
from_hypothesis ts (plain w) g = inr (w, g, refl)
from_hypothesis ts (sequent x w) g =
    let inner : List Lexeme = mark Turnstile ∷ (g.1 ++ (mark CloseBrace ∷ [])) in
    inl (tt, mark OpenBrace ∷ [], g.0 ++ inner, g.2, refl, (x, g.0, inner, refl, g.3, (w, (g.1, refl, g.4), refl)))

sequent_passes : (ts : List Lexeme) (h : Hypothesis) → Sequents ts h → Passes (is_mark OpenBrace) ts
sequent_passes ts h g = subst (Passes (is_mark OpenBrace)) (sym (g.3 ∙ ap (λ l. l ++ g.2) g.4)) refl

-- no tree begins with a brace
beginning_fails : (T : Lexeme) → begins_tree T ≡ true → is_mark OpenBrace T ≡ false
beginning_fails (word w text) e = refl
beginning_fails (mark OpenBrace) e = cc
beginning_fails (mark _) e = refl

tree_fails : (ts rest : List Lexeme) → Passes begins_tree ts → Fails (is_mark OpenBrace) (ts ++ rest)
tree_fails [] rest h = absurd h
tree_fails (T ∷ ts) rest h = beginning_fails T h

pub Exact-hypothesis : Exact read_hypothesis IsHypothesis Follows
unfolding read_hypothesis
Exact-hypothesis =
    Exact-same read_hypothesis (Or Sequents (Made plain OneTree)) IsHypothesis Follows to_hypothesis from_hypothesis
    (Exact-either (is_mark OpenBrace) read_sequent (mapped plain read_tree) Sequents (Made plain OneTree) Follows
    (Exact-before read_sequent Sequents Any Follows (λ rest s. tt) Exact-sequent)
    (Exact-mapped plain read_tree OneTree Follows Exact-tree)
    sequent_passes
    (λ ts h rest g s. tree_fails ts rest (tree_passes ts g.0 g.1)))

abbrev Ending : List Hypothesis → List Lexeme → Sentence → Type 0
Ending hs = Then (GivenMark Turnstile) (λ _. Made (concluding hs) OneTree)

abbrev Concluded : Hypothesis → List Lexeme → Sentence → Type 0
Concluded h = Then (Made (λ hs. h ∷ hs) (More Semicolon IsHypothesis)) Ending

exact_ending : (hs : List Hypothesis) → Exact (chain (read_mark Turnstile) (λ _. mapped (concluding hs) read_tree)) (Ending hs) Follows
exact_ending hs =
    Exact-chain (read_mark Turnstile) (λ _. mapped (concluding hs) read_tree) (GivenMark Turnstile) (λ _. Made (concluding hs) OneTree) Any Follows (Exact-mark Turnstile)
    (λ u. Exact-mapped (concluding hs) read_tree OneTree Follows Exact-tree) (λ u b y rest g s. tt)

ending_is : (hs : List Hypothesis) (ts : List Lexeme) (y : Sentence) → Ending hs ts y → (b : List Lexeme) × (w : Writing) × (ts ≡ mark Turnstile ∷ b) × OneTree b w × (y ≡ concluding hs w)
ending_is hs ts y g = (g.2, g.5.0, g.3 ∙ ap (λ l. l ++ g.2) g.4, g.5.1, g.5.2)

link_ending : (hs : List Hypothesis) (ts : List Lexeme) (y : Sentence) (rest : List Lexeme) → Ending hs ts y → Follows rest → NoSemicolon (ts ++ rest)
link_ending hs ts y rest g s = let e = ending_is hs ts y g in subst (λ (l : List Lexeme). NoSemicolon (l ++ rest)) (sym e.2) (plain_follows Turnstile 0 refl refl, refl)

exact_concluded : (h : Hypothesis) → Exact (read_concluded h) (Concluded h) Follows
exact_concluded h =
    Exact-chain (read_hypotheses h) (λ hs. chain (read_mark Turnstile) (λ _. mapped (concluding hs) read_tree)) (Made (λ hs. h ∷ hs) (More Semicolon IsHypothesis)) Ending NoSemicolon Follows
    (Exact-mapped (λ hs. h ∷ hs) (read_more Semicolon read_hypothesis) (More Semicolon IsHypothesis) NoSemicolon
    (Exact-more Semicolon read_hypothesis IsHypothesis Follows Exact-hypothesis (λ rest. plain_follows Semicolon 0 refl refl)))
    exact_ending link_ending

-- what follows the first hypothesis begins with a mark
pub record Marked (ts : List Lexeme) : Type 0 where
  pub sign : Mark
  pub rest : List Lexeme
  pub is : ts ≡ mark sign ∷ rest
  pub free : MayFollow 0 (mark sign)
  pub further : goes_on (mark sign) ≡ true

marked_hypotheses : (ts a b : List Lexeme) (hs : List Hypothesis) → ts ≡ a ++ b → More Semicolon IsHypothesis a hs → (c : List Lexeme) → b ≡ mark Turnstile ∷ c → Marked ts
marked_hypotheses ts a b [] e g c i = record { sign = Turnstile; rest = c; is = e ∙ (ap (λ l. l ++ b) g ∙ i); free = plain_follows Turnstile 0 refl refl; further = refl }
marked_hypotheses ts a b (h ∷ hs) e g c i = record { sign = Semicolon; rest = (g.0 ++ g.1) ++ b; is = e ∙ ap (λ l. l ++ b) g.2; free = plain_follows Semicolon 0 refl refl; further = refl }

marked : (h : Hypothesis) (ts : List Lexeme) (y : Sentence) → Concluded h ts y → Marked ts
marked h ts y g = let e = ending_is g.0 g.2 y g.5 in marked_hypotheses ts g.1 g.2 g.4.0 g.3 g.4.1 e.0 e.2

concluded_passes : (h : Hypothesis) (ts : List Lexeme) (y : Sentence) → Concluded h ts y → Passes goes_on ts
concluded_passes h ts y g = let m : Marked ts = marked h ts y g in subst (Passes goes_on) (sym m.is) m.further

abbrev After : Hypothesis → List Lexeme → Sentence → Type 0
After (plain w) = Or (Concluded (plain w)) (Nothing (concluding [] w))
After (sequent x w) = Concluded (sequent x w)

alone_fails : (y : Sentence) (ts : List Lexeme) (x : Sentence) (rest : List Lexeme) → Nothing y ts x → NoClaim rest → Fails goes_on (ts ++ rest)
alone_fails y ts x rest g s = subst (λ (l : List Lexeme). Fails goes_on (l ++ rest)) (sym g.0) s.1

exact_after : (h : Hypothesis) → Exact (read_after h) (After h) NoClaim
exact_after (plain w) =
    Exact-either goes_on (read_concluded (plain w)) (given_back (concluding [] w)) (Concluded (plain w)) (Nothing (concluding [] w)) NoClaim
    (Exact-before (read_concluded (plain w)) (Concluded (plain w)) Follows NoClaim (λ rest s. s.0) (exact_concluded (plain w)))
    (Exact-pure (concluding [] w) NoClaim) (concluded_passes (plain w)) (alone_fails (concluding [] w))
exact_after (sequent x w) = Exact-before (read_concluded (sequent x w)) (Concluded (sequent x w)) Follows NoClaim (λ rest s. s.0) (exact_concluded (sequent x w))

link_concluded : (h : Hypothesis) (ts : List Lexeme) (y : Sentence) (rest : List Lexeme) → Concluded h ts y → Follows (ts ++ rest)
link_concluded h ts y rest g = let m : Marked ts = marked h ts y g in subst (λ (l : List Lexeme). Follows (l ++ rest)) (sym m.is) m.free

link_after : (h : Hypothesis) (ts : List Lexeme) (y : Sentence) (rest : List Lexeme) → After h ts y → NoClaim rest → Follows (ts ++ rest)
link_after (plain w) ts y rest (inl g) s = link_concluded (plain w) ts y rest g
link_after (sequent x w) ts y rest g s = link_concluded (sequent x w) ts y rest g
link_after (plain w) ts y rest (inr g) s = subst (λ (l : List Lexeme). Follows (l ++ rest)) (sym g.0) s.0

concluded_is : (h : Hypothesis) (ts a b : List Lexeme) (y : Sentence) → ts ≡ a ++ b → IsHypothesis a h → Concluded h b y → IsClaim ts y
concluded_is h ts a b y e g k =
    let i = ending_is k.0 k.2 y k.5 in
    subst (λ (x : Sentence). IsClaim ts x) (sym (i.4 ∙ ap (λ hs. concluding hs i.1) k.4.2))
    (a ++ k.1, i.0, e ∙ (ap (λ l. a ++ l) (k.3 ∙ ap (λ l. k.1 ++ l) i.2) ∙ sym (append_assoc a k.1 (mark Turnstile ∷ i.0))), (a, k.1, refl, g, k.4.1), i.3)

to_claim : (h : Hypothesis) (ts a b : List Lexeme) (y : Sentence) → ts ≡ a ++ b → IsHypothesis a h → After h b y → IsClaim ts y
to_claim (plain w) ts a b y e g (inl k) = concluded_is (plain w) ts a b y e g k
to_claim (sequent x w) ts a b y e g k = concluded_is (sequent x w) ts a b y e g k
to_claim (plain w) ts a b y e g (inr k) =
    subst (λ (x : Sentence). IsClaim ts x) (sym k.1) (subst (λ (l : List Lexeme). OneTree l w) (sym (e ∙ (ap (λ l. a ++ l) k.0 ∙ append-nil a))) g)

concluded_after : (h : Hypothesis) (ts : List Lexeme) (y : Sentence) → Concluded h ts y → After h ts y
concluded_after (plain w) ts y g = inl g
concluded_after (sequent x w) ts y g = g

from_claim : (ts : List Lexeme) (hs : List Hypothesis) (c : Writing) → IsClaim ts (concluding hs c) → Then IsHypothesis After ts (concluding hs c)
from_claim ts [] c g = (plain c, ts, [], sym (append-nil ts), g, inr (refl, refl))
from_claim ts (h ∷ hs) c g =
    let s = g.3 in
    let e : ts ≡ s.0 ++ (s.1 ++ (mark Turnstile ∷ g.1)) = g.2 ∙ (ap (λ l. l ++ (mark Turnstile ∷ g.1)) s.2 ∙ append_assoc s.0 s.1 (mark Turnstile ∷ g.1)) in (
      h,
      s.0,
      s.1 ++ (mark Turnstile ∷ g.1),
      e,
      s.3,
      concluded_after h (s.1 ++ (mark Turnstile ∷ g.1)) (concluding (h ∷ hs) c) (h ∷ hs, s.1, mark Turnstile ∷ g.1, refl, (hs, s.4, refl), (tt, mark Turnstile ∷ [], g.1, refl, refl, (c, g.4, refl))),
    )

pub Exact-claim : Exact read_claim IsClaim NoClaim
unfolding read_claim
Exact-claim =
    Exact-same read_claim (Then IsHypothesis After) IsClaim NoClaim (λ ts y g. to_claim g.0 ts g.1 g.2 y g.3 g.4 g.5) (λ ts y g. from_claim ts y.hyps y.conclusion g)
    (Exact-chain read_hypothesis read_after IsHypothesis After Follows NoClaim Exact-hypothesis exact_after link_after)

-- a claim may end the line
pub claim_ends : NoClaim []
claim_ends = (tt, tt)
