-- Typed variables, lists of trees, and what a sequent or a block begins with are read exactly.
use Rattle.std.proofs.Common.{◌≡◌, ℕ, Bool, true, List, [], ◌∷◌, ◌++◌, Some, refl, ap, sym, ◌∙◌, subst}
use Rattle.mu_grammar.specs.declared.symbol.Word.{Word}
use Rattle.mu_grammar.specs.declared.symbol.Word.TheVariants.{Plain}
use Rattle.mu_grammar.specs.declared.symbol.Mark.{Mark}
use Rattle.mu_grammar.specs.declared.symbol.Mark.TheVariants.{Bar, Colon, Comma}
use Rattle.mu_grammar.specs.Lexemes.{Lexeme, word, mark}
use Rattle.mu_grammar.specs.Marks.{is_mark}
use Rattle.mu_grammar.specs.Parts.{Then, chain, Made, mapped, Separated}
use Rattle.mu_grammar.specs.SimpleParts.{var_of, VarName, GivenMark, read_var, read_mark}
use Rattle.mu_grammar.specs.Groups.{Any}
use Rattle.mu_grammar.specs.Writings.{Writing, leaf, apply, bind, paren, neg, bin, tokens, Fits, is_head}
use Rattle.mu_grammar.specs.Trees.{OneTree, read_tree}
use Rattle.mu_grammar.specs.Blocks.{TypedWriting, BlockWriting, IsTyped, SomeTyped, SomeTrees, IsBlock, is_variable, is_beginning, begins_tree, typing, assuming, read_typed, read_typed_vars, read_trees, read_any_typed, read_any_trees, read_block}
use Rattle.mu_text.proofs.Choice.{Passes, Fails}
use Rattle.mu_text.proofs.Complete.{Follows, plain_follows, binder_head, head_begins}
use Rattle.mu_text.proofs.Exact.{Exact, Exact-same, Exact-chain, Exact-mapped}
use Rattle.mu_text.proofs.Groups.{NotBegun, Exact-any}
use Rattle.mu_text.proofs.Lists.{Exact-separated}
use Rattle.mu_text.proofs.Simple.{Any as Anything, Exact-var, Exact-mark}
use Rattle.mu_text.proofs.Trees.{Exact-tree}

-- what begins a list begins it with anything behind it
pub passes-append : (test : Lexeme → Bool) (a b : List Lexeme) → Passes test a → Passes test (a ++ b)
passes-append test [] b h = absurd h
passes-append test (T ∷ a) b h = h

-- a list begins as its first item does
pub separated_passes : {A : Type 0} (test : Lexeme → Bool) (sign : Mark) (G : List Lexeme → A → Type 0) → ((ts : List Lexeme) (x : A) → G ts x → Passes test ts)
    → (ts : List Lexeme) (xs : List A) → Separated sign G ts xs → Passes test ts
separated_passes test sign G passes ts [] g = absurd g
separated_passes test sign G passes ts (x ∷ xs) g = subst (Passes test) (sym g.2) (passes-append test g.0 g.1 (passes g.0 x g.3))

var_is : (T : Lexeme) (text : List ℕ) → var_of T ≡ Some text → T ≡ word Plain text
var_is (word Plain other) text e = cc
var_is (word _ other) text e = cc
var_is (mark m) text e = cc

abbrev Annotated : List ℕ → List Lexeme → TypedWriting → Type 0
Annotated name = Then (GivenMark Colon) (λ _. Made (typing name) OneTree)

exact_annotated : (name : List ℕ) → Exact (chain (read_mark Colon) (λ _. mapped (typing name) read_tree)) (Annotated name) Follows
exact_annotated name =
    Exact-chain (read_mark Colon) (λ _. mapped (typing name) read_tree) (GivenMark Colon) (λ _. Made (typing name) OneTree) Anything Follows (Exact-mark Colon)
    (λ u. Exact-mapped (typing name) read_tree OneTree Follows Exact-tree) (λ u b y rest g s. tt)

to_typed : (ts : List Lexeme) (x : TypedWriting) → Then VarName Annotated ts x → IsTyped ts x
to_typed ts x g =
    let k = g.5 in
    let front : g.1 ≡ word Plain g.0 ∷ [] = g.4.1 ∙ ap (λ T. T ∷ []) (var_is g.4.0 g.0 g.4.2) in
    let back : g.2 ≡ mark Colon ∷ k.2 = k.3 ∙ ap (λ l. l ++ k.2) k.4 in
    subst (λ (y : TypedWriting). IsTyped ts y) (sym k.5.2) (k.2, g.3 ∙ (ap (λ l. l ++ g.2) front ∙ ap (λ l. word Plain g.0 ∷ l) back), k.5.1)

from_typed : (ts : List Lexeme) (x : TypedWriting) → IsTyped ts x → Then VarName Annotated ts x
from_typed ts x g = (x.name, word Plain x.name ∷ [], mark Colon ∷ g.0, g.1, (word Plain x.name, refl, refl), (tt, mark Colon ∷ [], g.0, refl, refl, (x.type, g.2, refl)))

pub Exact-typed : Exact read_typed IsTyped Follows
unfolding read_typed
Exact-typed =
    Exact-same read_typed (Then VarName Annotated) IsTyped Follows to_typed from_typed
    (Exact-chain read_var (λ name. chain (read_mark Colon) (λ _. mapped (typing name) read_tree)) VarName Annotated Anything Follows Exact-var exact_annotated (λ name b y rest g s. tt))

-- no tree goes on, nor a list between commas
abbrev pub NoTrees : List Lexeme → Type 0
NoTrees rest = Follows rest × Fails (is_mark Comma) rest

pub Exact-typed_vars : Exact read_typed_vars SomeTyped NoTrees
unfolding read_typed_vars
Exact-typed_vars = Exact-separated Comma read_typed IsTyped Follows Exact-typed (λ rest. plain_follows Comma 0 refl refl)

pub Exact-trees : Exact read_trees SomeTrees NoTrees
unfolding read_trees
Exact-trees = Exact-separated Comma read_tree OneTree Follows Exact-tree (λ rest. plain_follows Comma 0 refl refl)

head_begins_tree : (head : Word) (name : List ℕ) → is_head head ≡ true → begins_tree (word head name) ≡ true
head_begins_tree head name e = ap is_beginning (head_begins head name e)

tokens_begin : (w : Writing) (n : ℕ) → Fits n w → Passes begins_tree (tokens w)
tokens_begin (leaf head name) n f = head_begins_tree head name f
tokens_begin (apply head name ws) n f = head_begins_tree head name f.0
tokens_begin (bind head name v d b) n f = head_begins_tree head name (binder_head head f.0)
tokens_begin (paren w) n f = refl
tokens_begin (neg w) n f = refl
tokens_begin (bin item o a b) n f = passes-append begins_tree (tokens a) (item ∷ tokens b) (tokens_begin a n f.2)

-- a tree begins with a token with which one may begin
pub tree_passes : (ts : List Lexeme) (w : Writing) → OneTree ts w → Passes begins_tree ts
tree_passes ts w g = subst (Passes begins_tree) g.1 (tokens_begin w 400 g.0)

typed_passes : (ts : List Lexeme) (x : TypedWriting) → IsTyped ts x → Passes is_variable ts
typed_passes ts x g = subst (Passes is_variable) (sym g.1) refl

-- no typed variable begins here, nor does one go on
abbrev pub NoTyped : List Lexeme → Type 0
NoTyped rest = NotBegun is_variable NoTrees rest

pub Exact-any_typed : Exact read_any_typed (Any SomeTyped) NoTyped
unfolding read_any_typed
Exact-any_typed = Exact-any is_variable read_typed_vars SomeTyped NoTrees Exact-typed_vars (λ ts g. g) (separated_passes is_variable Comma IsTyped typed_passes)

-- no tree begins here, nor does one go on
abbrev pub NoBlock : List Lexeme → Type 0
NoBlock rest = NotBegun begins_tree NoTrees rest

pub Exact-any_trees : Exact read_any_trees (Any SomeTrees) NoBlock
unfolding read_any_trees
Exact-any_trees = Exact-any begins_tree read_trees SomeTrees NoTrees Exact-trees (λ ts g. g) (separated_passes begins_tree Comma OneTree tree_passes)

abbrev Assuming : List TypedWriting → List Lexeme → BlockWriting → Type 0
Assuming vars = Then (GivenMark Bar) (λ _. Made (assuming vars) (Any SomeTrees))

exact_assuming : (vars : List TypedWriting) → Exact (chain (read_mark Bar) (λ _. mapped (assuming vars) read_any_trees)) (Assuming vars) NoBlock
exact_assuming vars =
    Exact-chain (read_mark Bar) (λ _. mapped (assuming vars) read_any_trees) (GivenMark Bar) (λ _. Made (assuming vars) (Any SomeTrees)) Anything NoBlock (Exact-mark Bar)
    (λ u. Exact-mapped (assuming vars) read_any_trees (Any SomeTrees) NoBlock Exact-any_trees) (λ u b y rest g s. tt)

assuming_is : (vars : List TypedWriting) (ts : List Lexeme) (x : BlockWriting) → Assuming vars ts x → (b : List Lexeme) × (ws : List Writing) × (ts ≡ mark Bar ∷ b) × Any SomeTrees b ws × (x ≡ assuming vars ws)
assuming_is vars ts x g = (g.2, g.5.0, g.3 ∙ ap (λ l. l ++ g.2) g.4, g.5.1, g.5.2)

link_assuming : (vars : List TypedWriting) (ts : List Lexeme) (x : BlockWriting) (rest : List Lexeme) → Assuming vars ts x → NoBlock rest → NoTyped (ts ++ rest)
link_assuming vars ts x rest g s = subst (λ (l : List Lexeme). NoTyped (l ++ rest)) (sym (assuming_is vars ts x g).2) ((plain_follows Bar 0 refl refl, refl), refl)

to_block : (ts : List Lexeme) (x : BlockWriting) → Then (Any SomeTyped) Assuming ts x → IsBlock ts x
to_block ts x g =
    let k = assuming_is g.0 g.2 x g.5 in
    subst (λ (y : BlockWriting). IsBlock ts y) (sym k.4) (g.1, k.0, g.3 ∙ ap (λ l. g.1 ++ l) k.2, g.4, k.3)

from_block : (ts : List Lexeme) (x : BlockWriting) → IsBlock ts x → Then (Any SomeTyped) Assuming ts x
from_block ts x g = (x.vars, g.0, mark Bar ∷ g.1, g.2, g.3, (tt, mark Bar ∷ [], g.1, refl, refl, (x.assumptions, g.4, refl)))

pub Exact-block : Exact read_block IsBlock NoBlock
unfolding read_block
Exact-block =
    Exact-same read_block (Then (Any SomeTyped) Assuming) IsBlock NoBlock to_block from_block
    (Exact-chain read_any_typed (λ vars. chain (read_mark Bar) (λ _. mapped (assuming vars) read_any_trees)) (Any SomeTyped) Assuming NoTyped NoBlock Exact-any_typed exact_assuming link_assuming)

-- a block may end the line
pub block_ends : NoBlock []
block_ends = ((tt, tt), tt)
