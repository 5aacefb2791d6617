-- The canonical text of a tree as an operand.
use Rattle.std.specs.Prelude.{ℕ, List}
use Rattle.mu_tree.specs.declared.trees.Tree.{Tree}
use Rattle.mu_grammar.specs.Writings.{level}
use Rattle.mu_print.specs.Canonical.{at_least, canonical, text_of}

-- the level of a tree's canonical writing
unfoldable pub level_of : Tree → ℕ
level_of tree = level (canonical tree)

-- the text of a tree where one of at least this level is wanted
unfoldable pub operand_text : ℕ → Tree → List ℕ
operand_text least tree = text_of (at_least least (canonical tree))
