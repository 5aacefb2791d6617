-- The trees of the language: how a tree may be written, and which tokens are such a writing.
use Rattle.std.specs.Prelude.{◌≡◌, ℕ, ◌+◌, ◌-◌, ◌<◌, ◌≤◌, max, Bool, true, false, List, [], ◌∷◌, ◌++◌, Some}
use Rattle.mu_tree.specs.Names.{IsName}
use Rattle.mu_tree.specs.declared.trees.Tree.{Tree}
use Rattle.mu_tree.specs.declared.trees.Tree.TheVariants as tree
use Rattle.mu_grammar.specs.declared.ops.Op.{Op}
use Rattle.mu_grammar.specs.declared.symbol.Word.{Word}
use Rattle.mu_grammar.specs.declared.symbol.Word.TheVariants.{Plain, Meta, Place}
use Rattle.mu_grammar.specs.declared.symbol.Mark.TheVariants.{Not, Open, Close, OpenBracket, CloseBracket, OpenBrace, CloseBrace, Comma, Colon, Dot}
use Rattle.mu_grammar.specs.Lexemes.{Lexeme, word, mark}
use Rattle.mu_grammar.specs.Ops.{binary, constant_of, prefix_level, atom_level}

-- a way to write a tree: a name or a metavariable alone, or with arguments in brackets, of which there is at least one; a binder with its variable, domain and body;
-- a tree in parentheses; `not` and its operand; or an operator's token, its row, and its operands
mutual
  pub data Writing : Type 0 where
    leaf : Word → List ℕ → Writing
    apply : Word → List ℕ → Writings → Writing
    bind : Word → List ℕ → List ℕ → Writing → Writing → Writing
    paren : Writing → Writing
    neg : Writing → Writing
    bin : Lexeme → Op → Writing → Writing → Writing

  pub data Writings : Type 0 where
    one : Writing → Writings
    more : Writing → Writings → Writings

-- its level: an atom's, that of `not`, or the operator's
abbrev pub level : Writing → ℕ
level (leaf head name) = atom_level
level (apply head name ws) = atom_level
level (bind head name v d b) = atom_level
level (paren w) = atom_level
level (neg w) = prefix_level
level (bin item o a b) = o.level

-- the bracket that opens the arguments of a head
abbrev pub opener : Word → Lexeme
opener Meta = mark OpenBracket
opener _ = mark Open

-- the bracket that closes them
abbrev pub closer : Word → Lexeme
closer Meta = mark CloseBracket
closer _ = mark Close

-- its tokens; commas stand between arguments
abbrev mutual
  pub tokens : Writing → List Lexeme
  tokens (leaf head name) = word head name ∷ []
  tokens (apply head name ws) = word head name ∷ opener head ∷ (tokens_of ws ++ closer head ∷ [])
  tokens (bind head name v d b) = word head name ∷ mark OpenBrace ∷ word Plain v ∷ mark Colon ∷ (tokens d ++ (mark Dot ∷ (tokens b ++ mark CloseBrace ∷ [])))
  tokens (paren w) = mark Open ∷ (tokens w ++ mark Close ∷ [])
  tokens (neg w) = mark Not ∷ tokens w
  tokens (bin item o a b) = tokens a ++ (item ∷ tokens b)

  pub tokens_of : Writings → List Lexeme
  tokens_of (one w) = tokens w
  tokens_of (more w ws) = tokens w ++ (mark Comma ∷ tokens_of ws)

-- the tree of a head and its arguments
abbrev pub made : Word → List ℕ → List Tree → Tree
made Meta name trees = tree.Meta name trees
made _ name trees = tree.App name trees

-- the tree that it stands for
abbrev mutual
  pub tree_of : Writing → Tree
  tree_of (leaf head name) = made head name []
  tree_of (apply head name ws) = made head name (trees_of ws)
  tree_of (bind head name v d b) = tree.Bind name v (tree_of d) (tree_of b)
  tree_of (paren w) = tree_of w
  tree_of (neg w) = tree.App (constant_of Not) (tree_of w ∷ [])
  tree_of (bin item o a b) = tree.App (constant_of o.mark) (tree_of a ∷ tree_of b ∷ [])

  pub trees_of : Writings → List Tree
  trees_of (one w) = tree_of w ∷ []
  trees_of (more w ws) = tree_of w ∷ trees_of ws

-- a name or a metavariable heads a tree, and a place does not
abbrev pub is_head : Word → Bool
is_head Place = false
is_head _ = true

-- a name is a binder
abbrev pub is_binder : Word → Bool
is_binder Place = false
is_binder Meta = false
is_binder _ = true

-- its heads may stand where they do, its operands have the levels that their operators ask for, and at most n levels are open in it at once
abbrev mutual
  pub Fits : ℕ → Writing → Type 0
  Fits n (leaf head name) = is_head head ≡ true
  Fits n (apply head name ws) = (is_head head ≡ true) × (0 < n) × FitsAll (n - 1) ws
  Fits n (bind head name v d b) = (is_binder head ≡ true) × (0 < n) × Fits (n - 1) d × Fits (n - 1) b
  Fits n (paren w) = (0 < n) × Fits (n - 1) w
  Fits n (neg w) = (0 < n) × (prefix_level ≤ level w) × Fits (n - 1) w
  Fits n (bin item o a b) = (binary item ≡ Some o) × (o.left ≤ level a) × Fits n a × (o.opens ≤ n) × (o.right ≤ level b) × Fits (n - o.opens) b

  pub FitsAll : ℕ → Writings → Type 0
  FitsAll n (one w) = Fits n w
  FitsAll n (more w ws) = Fits n w × FitsAll n ws

-- how many nodes its tree has: one for each application, metavariable and binder
abbrev mutual
  pub nodes : Writing → ℕ
  nodes (leaf head name) = 1
  nodes (apply head name ws) = nodes_of ws + 1
  nodes (bind head name v d b) = nodes d + nodes b + 1
  nodes (paren w) = nodes w
  nodes (neg w) = nodes w + 1
  nodes (bin item o a b) = nodes a + nodes b + 1

  pub nodes_of : Writings → ℕ
  nodes_of (one w) = nodes w
  nodes_of (more w ws) = nodes w + nodes_of ws

-- how many nodes the longest way down its tree has
abbrev mutual
  pub deep : Writing → ℕ
  deep (leaf head name) = 1
  deep (apply head name ws) = deep_of ws + 1
  deep (bind head name v d b) = max (deep d) (deep b) + 1
  deep (paren w) = deep w
  deep (neg w) = deep w + 1
  deep (bin item o a b) = max (deep a) (deep b) + 1

  pub deep_of : Writings → ℕ
  deep_of (one w) = deep w
  deep_of (more w ws) = max (deep w) (deep_of ws)

-- each of its names is one that can be kept, with no segment too long
abbrev mutual
  pub Short : Writing → Type 0
  Short (leaf head name) = IsName name
  Short (apply head name ws) = IsName name × ShortAll ws
  Short (bind head name v d b) = IsName name × IsName v × Short d × Short b
  Short (paren w) = Short w
  Short (neg w) = Short w
  Short (bin item o a b) = Short a × Short b

  pub ShortAll : Writings → Type 0
  ShortAll (one w) = Short w
  ShortAll (more w ws) = Short w × ShortAll ws

-- within the limits on names, nodes and depth
abbrev pub Kept : Writing → Type 0
Kept w = Short w × (nodes w ≤ 4096) × (deep w ≤ 200)

-- the same of several, together
abbrev pub KeptAll : Writings → Type 0
KeptAll ws = ShortAll ws × (nodes_of ws ≤ 4096) × (deep_of ws ≤ 200)

-- the tokens are this writing's, and it opens at most n levels
abbrev pub IsTree : ℕ → List Lexeme → Writing → Type 0
IsTree n ts w = Fits n w × (tokens w ≡ ts)
