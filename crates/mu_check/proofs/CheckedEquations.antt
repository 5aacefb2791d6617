-- What a line and a block are when they are checked.
use Rattle.std.proofs.Common.{◌≡◌, ℕ, ◌-◌, List, map, length, ap, refl, sym, ◌∙◌, subst}
use Rattle.std.specs.Prelude.{Option, Some, None, option_and_then, slice_get}
use Rattle.std.specs.Option.{option_map}
use Rattle.std.proofs.lemmas.List.{length-map}
use Rattle.std.proofs.lemmas.Option.{slice_get-map}
use Rattle.mu_tree.specs.declared.trees.Tree.{Tree}
use Rattle.mu_tree.specs.declared.claim.TypedVar.{TypedVar}
use Rattle.mu_tree.specs.declared.why.Why.{Why}
use Rattle.mu_decl.specs.Contexts.{World}
use Rattle.mu_proof.specs.declared.items.Item.{Item}
use Rattle.mu_proof.specs.declared.items.Item.TheOpen.{Item-F, Line, Block}
use Rattle.mu_proof.specs.declared.items.Item.TheFolds.{fold-roll-Item, ind-Item}
use Rattle.mu_proof.specs.declared.items.Item.TheViews.{roll-Item}
use Rattle.mu_proof.specs.declared.items.Item.TheVariants as item
use Rattle.mu_check.specs.declared.allowed.Allowed.{Allowed}
use Rattle.mu_check.specs.declared.environments.Environment.{Environment}
use Rattle.mu_check.specs.Facts.{plain_fact}
use Rattle.mu_check.specs.Environments.{with_item}
use Rattle.mu_check.specs.Justifications.{line_cause}
use Rattle.mu_check.specs.Verdicts.{Checked, checked, checked_step, ends, labelled, with_block, block_fault, line_tree, tree_step, last_line}

checked-line : (w : World) (a : Allowed) (l : List ℕ) (t : Tree) (y : Option Why) → checked w a (item.Line l t y) ≡ checked_step w a (Line l t y)
unfolding checked
checked-line w a l t y = ap (checked w a) (sym (item.rolls-Line l t y)) ∙ fold-roll-Item Checked (checked_step w a) (Line l t y)

checked-block : (w : World) (a : Allowed) (l : List ℕ) (vars : List TypedVar) (trees : List Tree) (items : List Item) → checked w a (item.Block l vars trees items) ≡ checked_step w a (Block l vars trees (map (checked w a) items))
unfolding checked
checked-block w a l vars trees items = ap (checked w a) (sym (item.rolls-Block l vars trees items)) ∙ fold-roll-Item Checked (checked_step w a) (Block l vars trees items)

pub line-fault : (w : World) (a : Allowed) (l : List ℕ) (t : Tree) (y : Option Why) (env : Environment) → (checked w a (item.Line l t y)).fault env ≡ labelled l (line_cause w a env t y)
line-fault w a l t y env = ap (λ x. x.fault env) (checked-line w a l t y)

pub line-after : (w : World) (a : Allowed) (l : List ℕ) (t : Tree) (y : Option Why) (env : Environment) → (checked w a (item.Line l t y)).after env ≡ with_item l (plain_fact env.scope t) env
line-after w a l t y env = ap (λ x. x.after env) (checked-line w a l t y)

pub block-fault : (w : World) (a : Allowed) (l : List ℕ) (vars : List TypedVar) (trees : List Tree) (items : List Item) (env : Environment) → (checked w a (item.Block l vars trees items)).fault env ≡ block_fault w a l vars trees (map (checked w a) items) env
block-fault w a l vars trees items env = ap (λ x. x.fault env) (checked-block w a l vars trees items)

pub block-after : (w : World) (a : Allowed) (l : List ℕ) (vars : List TypedVar) (trees : List Tree) (items : List Item) (env : Environment) → (checked w a (item.Block l vars trees items)).after env ≡ with_block l vars trees (ends (map (checked w a) items)) env
block-after w a l vars trees items env = ap (λ x. x.after env) (checked-block w a l vars trees items)

pub ruleset checked_equations = (line-fault, line-after, block-fault, block-after)

pub tree-line : (l : List ℕ) (t : Tree) (y : Option Why) → line_tree (item.Line l t y) ≡ Some t
unfolding line_tree
tree-line l t y = ap line_tree (sym (item.rolls-Line l t y)) ∙ fold-roll-Item (Option Tree) tree_step (Line l t y)

pub tree-block : (l : List ℕ) (vars : List TypedVar) (trees : List Tree) (items : List Item) → line_tree (item.Block l vars trees items) ≡ None
unfolding line_tree
tree-block l vars trees items = ap line_tree (sym (item.rolls-Block l vars trees items)) ∙ fold-roll-Item (Option Tree) tree_step (Block l vars trees items)

pub ruleset tree_equations = (tree-line, tree-block)

module _ (w : World) (a : Allowed) where
  abbrev SameTree : Item → Type 0
  SameTree i = (checked w a i).tree ≡ line_tree i

  plain_layer : Item-F ((i : Item) × SameTree i) → Item-F Item
  plain_layer (Line l t y) = Line l t y
  plain_layer (Block l vars trees es) = Block l vars trees (map (λ e. e.0) es)

  same_layer : (y : Item-F ((i : Item) × SameTree i)) → SameTree (roll-Item (plain_layer y))
  unfolding checked line_tree plain_layer
  same_layer (Line l t y) = ap (λ x. x.tree) (fold-roll-Item Checked (checked_step w a) (Line l t y)) ∙ sym (fold-roll-Item (Option Tree) tree_step (Line l t y))
  same_layer (Block l vars trees es) = ap (λ x. x.tree) (fold-roll-Item Checked (checked_step w a) (Block l vars trees (map (λ e. e.0) es))) ∙ sym (fold-roll-Item (Option Tree) tree_step (Block l vars trees (map (λ e. e.0) es)))

-- the tree of an item doesn't depend on what is declared
same_tree : (w : World) (a : Allowed) (i : Item) → (checked w a i).tree ≡ line_tree i
unfolding plain_layer
same_tree w a = ind-Item (SameTree w a) (λ x y is. subst (λ z. SameTree w a (roll-Item z)) is (same_layer w a y))

last_tree : (w : World) (a : Allowed) (o : Option Item) → option_and_then (λ i. i.tree) (option_map (checked w a) o) ≡ option_and_then line_tree o
last_tree w a None = refl
last_tree w a (Some i) = same_tree w a i

-- nor does that of the last of some items
pub ending : (w : World) (a : Allowed) (items : List Item) → ends (map (checked w a) items) ≡ last_line items
ending w a items =
    let same : slice_get (map (checked w a) items) (length (map (checked w a) items) - 1) ≡ option_map (checked w a) (slice_get items (length items - 1)) = rw (length-map items (checked w a)) (slice_get-map (checked w a) items (length items - 1)) in
    ap (option_and_then (λ i. i.tree)) same ∙ last_tree w a (slice_get items (length items - 1))
