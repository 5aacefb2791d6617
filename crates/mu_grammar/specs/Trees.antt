-- A tree as a part of a line.
use Rattle.std.specs.Prelude.{List}
use Rattle.mu_grammar.specs.Lexemes.{Lexeme}
use Rattle.mu_grammar.specs.Parts.{Out}
use Rattle.mu_grammar.specs.Writings.{Writing, IsTree}
use Rattle.mu_grammar.specs.Machine.{top, want, run}

-- a tree in which at most 400 levels are open at once, as it is written
abbrev pub OneTree : List Lexeme → Writing → Type 0
OneTree ts w = IsTree 400 ts w

-- reads a tree
unfoldable pub read_tree : List Lexeme → Out Writing
read_tree ts = run (want 400 0 top) ts
