-- The canonical text of a tree, by its top.
use Rattle.std.proofs.Common.{◌≡◌, ◌≢◌, ℕ, ◌<◌, ◌≤◌, length, get_or, Bool, true, false, List, [], ◌∷◌, ◌++◌, Option, Some, None, map, refl, ap, sym, ◌∙◌, append_assoc, append-nil, arith}
use Rattle.std.specs.Prelude.{if◌then◌else◌, nat_le, codes, ◌==◌, count_by}
use Rattle.std.specs.List.{flat_map}
use Rattle.std.specs.Bool.{nat_eq}
use Rattle.std.specs.Cmp.Lexicographic.{pointwise}
use Rattle.std.proofs.lemmas.Bool.Decides.{nat_tests}
use Rattle.mu_tree.specs.declared.trees.Tree.{Tree}
use Rattle.mu_tree.specs.declared.trees.Tree.TheOpen.{App, Meta, Bind}
use Rattle.mu_tree.specs.declared.trees.Tree.TheFolds.{fold-Tree, fold-roll-Tree}
use Rattle.mu_tree.specs.declared.trees.Tree.TheVariants as tree
use Rattle.mu_grammar.specs.declared.ops.Op.{Op}
use Rattle.mu_grammar.specs.declared.symbol.Word.{Word}
use Rattle.mu_grammar.specs.declared.symbol.Word.TheVariants as head
use Rattle.mu_grammar.specs.Lexemes.{name_word}
use Rattle.mu_grammar.specs.Ops.{is_negation, operator_named}
use Rattle.mu_grammar.specs.Spellings.{mark_text, word_text, lexeme_text}
use Rattle.mu_grammar.specs.Writings.{Writing, bind, paren, level, opener, closer}
use Rattle.mu_print.specs.Canonical.{together, headed, with_one, with_two, applied, canonical_step, canonical, text_of, texts_of, tree_text}
use Rattle.mu_print.specs.Operands.{level_of, operand_text}
use Rattle.mu_print.specs.Texts.{behind, between, surrounded}

canonical-App : (name : List ℕ) (ts : List Tree) → canonical (tree.App name ts) ≡ applied name (map canonical ts)
unfolding canonical
canonical-App name ts = ap (fold-Tree Writing canonical_step) (sym (tree.rolls-App name ts)) ∙ fold-roll-Tree Writing canonical_step (App name ts)

canonical-Meta : (name : List ℕ) (ts : List Tree) → canonical (tree.Meta name ts) ≡ headed head.Meta name (map canonical ts)
unfolding canonical
canonical-Meta name ts = ap (fold-Tree Writing canonical_step) (sym (tree.rolls-Meta name ts)) ∙ fold-roll-Tree Writing canonical_step (Meta name ts)

canonical-Bind : (binder var : List ℕ) (dom body : Tree) → canonical (tree.Bind binder var dom body) ≡ bind (name_word binder) binder var (canonical dom) (canonical body)
unfolding canonical
canonical-Bind binder var dom body = ap (fold-Tree Writing canonical_step) (sym (tree.rolls-Bind binder var dom body)) ∙ fold-roll-Tree Writing canonical_step (Bind binder var dom body)

-- the word of a name is none of those with a first byte of their own
name_case : (name : List ℕ) (P : Word → Type 0) → P head.True → P head.Plain → P head.Dotted → P (name_word name)
name_case name P = by (pointwise nat_eq name (codes "true")) (count_by (λ byte. byte == 46) name == 0)
  where
    by : (b d : Bool) → P head.True → P head.Plain → P head.Dotted → P (if b then head.True else (if d then head.Plain else head.Dotted))
    by true d t p q = t
    by false true t p q = p
    by false false t p q = q

name_text : (name : List ℕ) → word_text (name_word name) name ≡ name
name_text name = name_case name (λ w. word_text w name ≡ name) refl refl refl

name_opener : (name : List ℕ) → lexeme_text (opener (name_word name)) ≡ codes "("
name_opener name = name_case name (λ w. lexeme_text (opener w) ≡ codes "(") refl refl refl

name_closer : (name : List ℕ) → lexeme_text (closer (name_word name)) ≡ codes ")"
name_closer name = name_case name (λ w. lexeme_text (closer w) ≡ codes ")") refl refl refl

texts-together : (t : Tree) (ts : List Tree) → texts_of (together (canonical t) (map canonical ts)) ≡ tree_text t ++ flat_map (behind (codes ", ")) (map tree_text ts)
unfolding tree_text
texts-together t [] = sym (append-nil (text_of (canonical t)))
texts-together t (u ∷ us) = ap (λ l. text_of (canonical t) ++ (codes ", " ++ l)) (texts-together u us)

-- a head with its arguments in brackets, where it has any
text-headed : (w : Word) (name : List ℕ) (ts : List Tree)
    → text_of (headed w name (map canonical ts)) ≡ word_text w name ++ surrounded (lexeme_text (opener w)) (codes ", ") (lexeme_text (closer w)) (map tree_text ts)
unfolding between
text-headed w name [] = sym (append-nil (word_text w name))
text-headed w name (t ∷ ts) = ap (λ l. word_text w name ++ (lexeme_text (opener w) ++ (l ++ lexeme_text (closer w)))) (texts-together t ts)

text-called : (name : List ℕ) (ts : List Tree) → text_of (headed (name_word name) name (map canonical ts)) ≡ name ++ surrounded (codes "(") (codes ", ") (codes ")") (map tree_text ts)
text-called name ts =
    text-headed (name_word name) name ts
    ∙ (ap (λ l. l ++ surrounded (lexeme_text (opener (name_word name))) (codes ", ") (lexeme_text (closer (name_word name))) (map tree_text ts)) (name_text name)
    ∙ (ap (λ l. name ++ surrounded l (codes ", ") (lexeme_text (closer (name_word name))) (map tree_text ts)) (name_opener name)
    ∙ ap (λ l. name ++ surrounded (codes "(") (codes ", ") l (map tree_text ts)) (name_closer name)))

level-headed : (w : Word) (name : List ℕ) (ws : List Writing) → level (headed w name ws) ≡ 7
level-headed w name [] = refl
level-headed w name (v ∷ vs) = refl

-- an application that is written as a call
canonical-call_one : (name : List ℕ) (t : Tree) → is_negation name ≡ false → canonical (tree.App name (t ∷ [])) ≡ headed (name_word name) name (map canonical (t ∷ []))
canonical-call_one name t is = canonical-App name (t ∷ []) ∙ ap (with_one name (canonical t)) is

canonical-call_two : (name : List ℕ) (t u : Tree) → operator_named name ≡ None → canonical (tree.App name (t ∷ u ∷ [])) ≡ headed (name_word name) name (map canonical (t ∷ u ∷ []))
canonical-call_two name t u is = canonical-App name (t ∷ u ∷ []) ∙ ap (with_two name (canonical t) (canonical u)) is

canonical-call : (name : List ℕ) (ts : List Tree) → length ts ≢ 1 → length ts ≢ 2 → canonical (tree.App name ts) ≡ headed (name_word name) name (map canonical ts)
canonical-call name [] no_one no_two = canonical-App name []
canonical-call name (t ∷ []) no_one no_two = absurd (no_one refl)
canonical-call name (t ∷ u ∷ []) no_one no_two = absurd (no_two refl)
canonical-call name (t ∷ u ∷ v ∷ ts) no_one no_two = canonical-App name (t ∷ u ∷ v ∷ ts)

pub text-call_one : (name : List ℕ) (ts : List Tree) → 1 ≤ length ts → length ts < 2 → is_negation name ≡ false → tree_text (tree.App name ts) ≡ name ++ surrounded (codes "(") (codes ", ") (codes ")") (map tree_text ts)
unfolding tree_text
text-call_one name [] some below is = absurd (omega arith)
text-call_one name (t ∷ []) some below is = ap text_of (canonical-call_one name t is) ∙ text-called name (t ∷ [])
text-call_one name (t ∷ u ∷ ts) some below is = absurd (omega arith)

pub text-call_two : (name : List ℕ) (ts : List Tree) → 2 ≤ length ts → length ts < 3 → operator_named name ≡ None → tree_text (tree.App name ts) ≡ name ++ surrounded (codes "(") (codes ", ") (codes ")") (map tree_text ts)
unfolding tree_text
text-call_two name [] some below is = absurd (omega arith)
text-call_two name (t ∷ []) some below is = absurd (omega arith)
text-call_two name (t ∷ u ∷ []) some below is = ap text_of (canonical-call_two name t u is) ∙ text-called name (t ∷ u ∷ [])
text-call_two name (t ∷ u ∷ v ∷ ts) some below is = absurd (omega arith)

pub text-call : (name : List ℕ) (ts : List Tree) → length ts ≢ 1 → length ts ≢ 2 → tree_text (tree.App name ts) ≡ name ++ surrounded (codes "(") (codes ", ") (codes ")") (map tree_text ts)
unfolding tree_text
text-call name ts no_one no_two = ap text_of (canonical-call name ts no_one no_two) ∙ text-called name ts

pub text-negation : (name : List ℕ) (ts : List Tree) (t : Tree) → 1 ≤ length ts → length ts < 2 → t ≡ get_or ts 0 t → is_negation name ≡ true → tree_text (tree.App name ts) ≡ codes "not " ++ operand_text 5 t
unfolding tree_text operand_text
text-negation name [] t some below at is = absurd (omega arith)
text-negation name (v ∷ []) t some below at is =
    ap text_of (canonical-App name (v ∷ []) ∙ ap (with_one name (canonical v)) is) ∙ ap (λ u. codes "not " ++ operand_text 5 u) (sym at)
text-negation name (v ∷ w ∷ ts) t some below at is = absurd (omega arith)

pub text-operation : (name : List ℕ) (ts : List Tree) (t u : Tree) (o : Op) → 2 ≤ length ts → length ts < 3 → t ≡ get_or ts 0 t → u ≡ get_or ts 1 u → operator_named name ≡ Some o
    → tree_text (tree.App name ts) ≡ operand_text o.left t ++ (codes " " ++ (mark_text o.mark ++ (codes " " ++ operand_text o.right u)))
unfolding tree_text operand_text
text-operation name [] t u o some below first second is = absurd (omega arith)
text-operation name (v ∷ []) t u o some below first second is = absurd (omega arith)
text-operation name (v ∷ w ∷ []) t u o some below first second is =
    ap text_of (canonical-App name (v ∷ w ∷ []) ∙ ap (with_two name (canonical v) (canonical w)) is)
    ∙ (ap (λ x. operand_text o.left x ++ (codes " " ++ (mark_text o.mark ++ (codes " " ++ operand_text o.right w)))) (sym first)
    ∙ ap (λ x. operand_text o.left t ++ (codes " " ++ (mark_text o.mark ++ (codes " " ++ operand_text o.right x)))) (sym second))
text-operation name (v ∷ w ∷ x ∷ ts) t u o some below first second is = absurd (omega arith)

pub text-Meta : (name : List ℕ) (ts : List Tree) → tree_text (tree.Meta name ts) ≡ codes "?" ++ (name ++ surrounded (codes "[") (codes ", ") (codes "]") (map tree_text ts))
unfolding tree_text
text-Meta name ts = ap text_of (canonical-Meta name ts) ∙ text-headed head.Meta name ts

pub text-Bind : (binder var : List ℕ) (dom body : Tree)
    → tree_text (tree.Bind binder var dom body) ≡ (binder ++ (codes "{" ++ (var ++ codes ":"))) ++ (tree_text dom ++ (codes ". " ++ (tree_text body ++ codes "}")))
unfolding tree_text
text-Bind binder var dom body =
    let rest : List ℕ = text_of (canonical dom) ++ (codes ". " ++ (text_of (canonical body) ++ codes "}")) in
    ap text_of (canonical-Bind binder var dom body)
    ∙ (ap (λ l. l ++ (codes "{" ++ (var ++ (codes ":" ++ rest)))) (name_text binder)
    ∙ sym (append_assoc binder (codes "{" ++ (var ++ codes ":")) rest ∙ ap (λ l. binder ++ (codes "{" ++ l)) (append_assoc var (codes ":") rest)))

pub operand-bare : (least : ℕ) (t : Tree) → least ≤ level_of t → operand_text least t ≡ tree_text t
unfolding operand_text tree_text level_of
operand-bare least t fits =
    let enough : nat_le least (level (canonical t)) ≡ true = grind (arith, nat_tests) in
    ap (λ b. text_of (if b then canonical t else paren (canonical t))) enough

pub operand-wrapped : (least : ℕ) (t : Tree) → level_of t < least → operand_text least t ≡ codes "(" ++ (tree_text t ++ codes ")")
unfolding operand_text tree_text level_of
operand-wrapped least t looser =
    let less : nat_le least (level (canonical t)) ≡ false = grind (arith, nat_tests) in
    ap (λ b. text_of (if b then canonical t else paren (canonical t))) less

pub level-call_one : (name : List ℕ) (ts : List Tree) → 1 ≤ length ts → length ts < 2 → is_negation name ≡ false → level_of (tree.App name ts) ≡ 7
unfolding level_of
level-call_one name [] some below is = absurd (omega arith)
level-call_one name (t ∷ []) some below is = ap level (canonical-call_one name t is)
level-call_one name (t ∷ u ∷ ts) some below is = absurd (omega arith)

pub level-call_two : (name : List ℕ) (ts : List Tree) → 2 ≤ length ts → length ts < 3 → operator_named name ≡ None → level_of (tree.App name ts) ≡ 7
unfolding level_of
level-call_two name [] some below is = absurd (omega arith)
level-call_two name (t ∷ []) some below is = absurd (omega arith)
level-call_two name (t ∷ u ∷ []) some below is = ap level (canonical-call_two name t u is)
level-call_two name (t ∷ u ∷ v ∷ ts) some below is = absurd (omega arith)

pub level-call : (name : List ℕ) (ts : List Tree) → length ts ≢ 1 → length ts ≢ 2 → level_of (tree.App name ts) ≡ 7
unfolding level_of
level-call name ts no_one no_two = ap level (canonical-call name ts no_one no_two) ∙ level-headed (name_word name) name (map canonical ts)

pub level-negation : (name : List ℕ) (ts : List Tree) → 1 ≤ length ts → length ts < 2 → is_negation name ≡ true → level_of (tree.App name ts) ≡ 5
unfolding level_of
level-negation name [] some below is = absurd (omega arith)
level-negation name (t ∷ []) some below is = ap level (canonical-App name (t ∷ []) ∙ ap (with_one name (canonical t)) is)
level-negation name (t ∷ u ∷ ts) some below is = absurd (omega arith)

pub level-operation : (name : List ℕ) (ts : List Tree) (o : Op) → 2 ≤ length ts → length ts < 3 → operator_named name ≡ Some o → level_of (tree.App name ts) ≡ o.level
unfolding level_of
level-operation name [] o some below is = absurd (omega arith)
level-operation name (t ∷ []) o some below is = absurd (omega arith)
level-operation name (t ∷ u ∷ []) o some below is = ap level (canonical-App name (t ∷ u ∷ []) ∙ ap (with_two name (canonical t) (canonical u)) is)
level-operation name (t ∷ u ∷ v ∷ ts) o some below is = absurd (omega arith)

pub level-Meta : (name : List ℕ) (ts : List Tree) → level_of (tree.Meta name ts) ≡ 7
unfolding level_of
level-Meta name ts = ap level (canonical-Meta name ts) ∙ level-headed head.Meta name (map canonical ts)

pub level-Bind : (binder var : List ℕ) (dom body : Tree) → level_of (tree.Bind binder var dom body) ≡ 7
unfolding level_of
level-Bind binder var dom body = ap level (canonical-Bind binder var dom body)

-- the level of a tree
pub ruleset levels_by_top = (level-call_one, level-call_two, level-call, level-negation, level-operation, level-Meta, level-Bind)

-- an operand as it is, or in parentheses
pub ruleset operands = (operand-bare, operand-wrapped, append_assoc)

-- the text of a tree that is no application
pub ruleset texts_by_top = (text-Meta, text-Bind, append_assoc)

-- the text of an application
pub ruleset application_texts = (text-call_one, text-call_two, text-call, text-negation, text-operation, append_assoc)
