-- What a reader's call did, in terms of the machine, whatever waits for the tree.
use Rattle.std.specs.Prelude.{◌≡◌, ℕ, ◌+◌, ◌-◌, ◌≤◌, min, max, List, [], ◌∷◌, ◌++◌, Option, Some, None, Result, Ok, Err}
use Rattle.mu_tree.specs.Names.{IsName}
use Rattle.mu_tree.specs.declared.trees.Tree.{Tree}
use Rattle.mu_grammar.specs.declared.symbol.Word.{Word}
use Rattle.mu_grammar.specs.declared.symbol.Word.TheVariants.{Plain}
use Rattle.mu_grammar.specs.declared.symbol.Mark.{Mark}
use Rattle.mu_grammar.specs.declared.ops.Op.{Op}
use Rattle.mu_grammar.specs.declared.fault.PartFault.{PartFault}
use Rattle.mu_grammar.specs.declared.fault.PartFault.TheVariants.{Mismatch, NoMemory}
use Rattle.mu_text.specs.declared.operand.Operand.{Operand}
use Rattle.mu_text.specs.declared.operand.Several.{Several}
use Rattle.mu_grammar.specs.Lexemes.{Lexeme, word, mark, first_sort}
use Rattle.mu_grammar.specs.Parts.{stopped}
use Rattle.mu_grammar.specs.Ops.{operator_of}
use Rattle.mu_grammar.specs.Writings.{Writing, Writings, apply, level, tree_of, trees_of, nodes, nodes_of, deep, deep_of, Kept, KeptAll}
use Rattle.mu_grammar.specs.Machine.{Stack, Mode, want, named, binding, have, given, run}

-- counts are kept up to here, past every limit
abbrev pub capped : ℕ → ℕ
capped n = min n 5000

-- what is known of a writing's tree; a tree past the limits is not kept
pub record Stands (w : Writing) (o : Operand) : Type 0 where
  pub level_is : level w ≡ o.level
  pub size_is : o.size ≡ capped (nodes w)
  pub depth_is : o.depth ≡ capped (deep w)
  pub tree_is : Kept w → tree_of w ≡ o.tree

-- the same of several, together
pub record StandsAll (ws : Writings) (o : Several) : Type 0 where
  pub size_is : o.size ≡ capped (nodes_of ws)
  pub depth_is : o.depth ≡ capped (deep_of ws)
  pub trees_are : KeptAll ws → trees_of ws ≡ o.trees

-- an operand made of smaller ones: this tree, if it is within the limits
pub record Built (t : Tree) (l size depth : ℕ) (o : Operand) : Type 0 where
  pub level_is : o.level ≡ l
  pub size_is : o.size ≡ capped size
  pub depth_is : o.depth ≡ capped depth
  pub tree_is : size ≤ 4096 → depth ≤ 200 → o.tree ≡ t

-- the same tree, in parentheses
pub record Enclosing (o p : Operand) : Type 0 where
  pub level_is : p.level ≡ 7
  pub size_is : p.size ≡ o.size
  pub depth_is : p.depth ≡ o.depth
  pub tree_is : p.tree ≡ o.tree

-- one more, if their nodes are within the limit
pub record Added (before : Several) (o : Operand) (now : Several) : Type 0 where
  pub size_is : now.size ≡ capped (before.size + o.size)
  pub depth_is : now.depth ≡ capped (max before.depth o.depth)
  pub trees_are : before.size + o.size ≤ 4096 → now.trees ≡ before.trees ++ (o.tree ∷ [])

-- reading goes from one mode to having read a writing, for whatever waits
pub record Goes (from : Stack → Mode) (to : Writing → Stack → Mode) (old new : List Lexeme) (o : Operand) : Type 0 where
  pub writing : Writing
  pub stands : Stands writing o
  pub goes : (k : Stack) → run (from k) old ≡ run (to writing k) new

-- reading stops where the first token that is left fits nothing; of want of memory nothing is said
abbrev pub Stops : (Stack → Mode) → List Lexeme → List Lexeme → PartFault → Type 0
Stops from old new NoMemory = Unit {0}
Stops from old new Mismatch = (k : Stack) → run (from k) old ≡ stopped new

-- either of the two, by what was answered
abbrev pub Reads : (Stack → Mode) → (Writing → Stack → Mode) → List Lexeme → Result Operand PartFault → List Lexeme → Type 0
Reads from to old (Ok o) new = Goes from to old new o
Reads from to old (Err e) new = Stops from old new e

-- no operator follows that may take what has level l where the least level is m
abbrev pub Ends : ℕ → ℕ → List Lexeme → Type 0
Ends m l ts = (p : Op) → operator_of (first_sort ts) ≡ Some p → m ≤ p.level → p.left ≤ l → ⊥

-- a tree is read that is no operator's
abbrev pub ReadsOperand : ℕ → ℕ → List Lexeme → Result Operand PartFault → List Lexeme → Type 0
ReadsOperand n m old r new = Reads (want n m) (have n m) old r new

-- where a tree was read, no operator follows that may take it
abbrev pub EndsOk : ℕ → List Lexeme → Result Operand PartFault → Type 0
EndsOk m new (Ok o) = Ends m o.level new
EndsOk m new (Err e) = Unit {0}

-- a tree is read
abbrev pub ReadsTree : ℕ → ℕ → List Lexeme → Result Operand PartFault → List Lexeme → Type 0
ReadsTree n m old r new = ReadsOperand n m old r new × EndsOk m new r

-- the operator comes first
abbrev pub OperatorFirst : List Lexeme → Op → Type 0
OperatorFirst ts p = operator_of (first_sort ts) ≡ Some p

-- the operator that comes first, if it may take what has level l where the least level is m
abbrev pub Offers : List Lexeme → ℕ → ℕ → Option Op → Type 0
Offers ts m l None = Ends m l ts
Offers ts m l (Some p) = OperatorFirst ts p × (m ≤ p.level) × (p.left ≤ l)

-- what a call made of the operand w: a longer one, of which w is the left part
abbrev pub GrowsTo : ℕ → ℕ → Writing → List Lexeme → Result Operand PartFault → List Lexeme → Type 0
GrowsTo n m w old r new = Reads (have n m w) (have n m) old r new

-- a tree is read of which the head is read already
abbrev pub ReadsNamed : Word → List ℕ → ℕ → ℕ → List Lexeme → Result Operand PartFault → List Lexeme → Type 0
ReadsNamed s x n m old r new = Reads (named s x n m) (have n m) old r new

-- a binder is read, up to its brace already
abbrev pub ReadsBinder : Word → List ℕ → ℕ → ℕ → List Lexeme → Result Operand PartFault → List Lexeme → Type 0
ReadsBinder s x n m old r new = Reads (binding s x n m) (have n m) old r new

-- the arguments of a head are read, and the bracket that closes them
pub record Gives (s : Word) (x : List ℕ) (n m : ℕ) (old new : List Lexeme) (o : Several) : Type 0 where
  pub writings : Writings
  pub stands : StandsAll writings o
  pub goes : (k : Stack) → run (want (n - 1) 0 (given s x [] n m k)) old ≡ run (have n m (apply s x writings) k) new

-- the arguments of a head are read, or reading stops in them
abbrev pub ReadsArguments : Word → List ℕ → ℕ → ℕ → List Lexeme → Result Several PartFault → List Lexeme → Type 0
ReadsArguments s x n m old (Ok o) new = Gives s x n m old new o
ReadsArguments s x n m old (Err e) new = Stops (λ k. want (n - 1) 0 (given s x [] n m k)) old new e

-- the mark comes first, and new is what follows; or it does not
abbrev pub Expects : Mark → List Lexeme → Result (Unit {0}) PartFault → List Lexeme → Type 0
Expects m old (Ok x) new = old ≡ mark m ∷ new
Expects m old (Err Mismatch) new = (new ≡ old) × ((r : List Lexeme) → old ≡ mark m ∷ r → ⊥)
Expects m old (Err NoMemory) new = ⊥

-- a variable comes first
abbrev pub ExpectsVar : List Lexeme → Result (List ℕ) PartFault → List Lexeme → Type 0
ExpectsVar old (Ok x) new = (v : List ℕ) × (old ≡ word Plain v ∷ new) × (IsName v → x ≡ v)
ExpectsVar old (Err Mismatch) new = (new ≡ old) × ((v : List ℕ) (r : List Lexeme) → old ≡ word Plain v ∷ r → ⊥)
ExpectsVar old (Err NoMemory) new = Unit {0}
