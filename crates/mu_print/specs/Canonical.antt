-- The canonical writing of a tree: operators where they can stand, and parentheses where the levels need them.
use Rattle.std.specs.Prelude.{ℕ, Bool, true, false, List, [], ◌∷◌, ◌++◌, Option, Some, None, if◌then◌else◌, nat_le, codes}
use Rattle.mu_tree.specs.declared.trees.Tree.{Tree}
use Rattle.mu_tree.specs.declared.trees.Tree.TheOpen.{Tree-F, App, Meta, Bind}
use Rattle.mu_tree.specs.declared.trees.Tree.TheFolds.{fold-Tree}
use Rattle.mu_grammar.specs.declared.ops.Op.{Op}
use Rattle.mu_grammar.specs.declared.symbol.Word.{Word}
use Rattle.mu_grammar.specs.declared.symbol.Word.TheVariants as head
use Rattle.mu_grammar.specs.Lexemes.{mark, name_word}
use Rattle.mu_grammar.specs.Ops.{is_negation, operator_named, prefix_level}
use Rattle.mu_grammar.specs.Spellings.{word_text, lexeme_text}
use Rattle.mu_grammar.specs.Writings.{Writing, Writings, leaf, apply, bind, paren, neg, bin, one, more, level, opener, closer}

-- the writing where one of at least this level is wanted: in parentheses where its own is less
abbrev pub at_least : ℕ → Writing → Writing
at_least least w = if nat_le least (level w) then w else paren w

-- one writing or more
abbrev pub together : Writing → List Writing → Writings
together w [] = one w
together w (next ∷ ws) = more w (together next ws)

-- a head alone, or with its arguments in brackets
abbrev pub headed : Word → List ℕ → List Writing → Writing
headed w text [] = leaf w text
headed w text (argument ∷ arguments) = apply w text (together argument arguments)

-- a constant with one argument: `not`, or an application
abbrev pub with_one : List ℕ → Writing → Bool → Writing
with_one name operand true = neg (at_least prefix_level operand)
with_one name operand false = headed (name_word name) name (operand ∷ [])

-- a constant with two arguments: an operator between them, or an application
abbrev pub with_two : List ℕ → Writing → Writing → Option Op → Writing
with_two name left right (Some o) = bin (mark o.mark) o (at_least o.left left) (at_least o.right right)
with_two name left right None = headed (name_word name) name (left ∷ right ∷ [])

-- an application, by the writings of its arguments
abbrev pub applied : List ℕ → List Writing → Writing
applied name (operand ∷ []) = with_one name operand (is_negation name)
applied name (left ∷ right ∷ []) = with_two name left right (operator_named name)
applied name arguments = headed (name_word name) name arguments

-- the writing of a node, by the writings of its children
abbrev pub canonical_step : Tree-F Writing → Writing
canonical_step (App name arguments) = applied name arguments
canonical_step (Meta name arguments) = headed head.Meta name arguments
canonical_step (Bind binder var domain body) = bind (name_word binder) binder var domain body

-- the canonical writing of a tree
unfoldable pub canonical : Tree → Writing
canonical tree = fold-Tree Writing canonical_step tree

-- the text of a writing: one blank on each side of an operator, behind `not`, behind a comma and behind the dot of a binder, and no other
abbrev mutual
  pub text_of : Writing → List ℕ
  text_of (leaf w text) = word_text w text
  text_of (apply w text ws) = word_text w text ++ (lexeme_text (opener w) ++ (texts_of ws ++ lexeme_text (closer w)))
  text_of (bind w text v d b) = word_text w text ++ (codes "{" ++ (v ++ (codes ":" ++ (text_of d ++ (codes ". " ++ (text_of b ++ codes "}"))))))
  text_of (paren w) = codes "(" ++ (text_of w ++ codes ")")
  text_of (neg w) = codes "not " ++ text_of w
  text_of (bin item o a b) = text_of a ++ (codes " " ++ (lexeme_text item ++ (codes " " ++ text_of b)))

  pub texts_of : Writings → List ℕ
  texts_of (one w) = text_of w
  texts_of (more w ws) = text_of w ++ (codes ", " ++ texts_of ws)

-- the canonical text of a tree
unfoldable pub tree_text : Tree → List ℕ
tree_text tree = text_of (canonical tree)
