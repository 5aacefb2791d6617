-- The parts of a proof: what commands put into its items.
use Rattle.std.specs.Prelude.{◌≡◌, ℕ, List, [], ◌∷◌, Option, Some, None}
use Rattle.std.specs.List.{flat_map}
use Rattle.mu_tree.specs.declared.claim.TypedVar.{TypedVar}
use Rattle.mu_tree.specs.declared.trees.Tree.{Tree}
use Rattle.mu_tree.specs.declared.why.Why.{Why}
use Rattle.mu_proof.specs.declared.items.Item.{Item}
use Rattle.mu_proof.specs.declared.items.Item.TheOpen.{Item-F, Line, Block}
use Rattle.mu_proof.specs.declared.items.Item.TheFolds.{fold-Item}
use Rattle.mu_command.specs.declared.command.Command.{Command}
use Rattle.mu_command.specs.declared.command.Command.TheVariants as command
use Rattle.mu_command.specs.Language.{IsCommand}
use Rattle.mu_edit.specs.Distinct.{repeated_in_reason, repeated_variable}

-- the label of an item, the expression of a line, what a line holds by, or the variables and assumptions of a box
pub data Part : Type 0 where
  Label : List ℕ → Part
  Expression : Tree → Part
  Reason : Why → Part
  Head : List TypedVar → List Tree → Part

-- what a line holds by, where that is said
abbrev pub reason_parts : Option Why → List Part
reason_parts None = []
reason_parts (Some why) = Reason why ∷ []

-- the parts at the top of an item, and then those of the items in it
abbrev pub part_step : Item-F (List Part) → List Part
part_step (Line label tree why) = Label label ∷ (Expression tree ∷ reason_parts why)
part_step (Block label vars assumptions inner) = Label label ∷ (Head vars assumptions ∷ flat_map (λ each. each) inner)

-- the parts of an item
unfoldable pub item_parts : Item → List Part
item_parts = fold-Item (List Part) part_step

-- the parts of some items
abbrev pub parts : List Item → List Part
parts items = flat_map item_parts items

-- the part stands in the command, as one that the command puts into a proof
abbrev pub StandsIn : Part → Command → Type 0
StandsIn (Label l) (command.Line rule proof label block before tree) = label ≡ l
StandsIn (Label l) (command.Box rule proof label block before vars assumptions) = label ≡ l
StandsIn (Expression t) (command.Line rule proof label block before tree) = tree ≡ t
StandsIn (Expression t) (command.AlterLine rule proof label tree) = tree ≡ t
StandsIn (Reason w) (command.Cite rule proof label why) = why ≡ w
StandsIn (Head v a) (command.Box rule proof label block before vars assumptions) = (vars ≡ v) × (assumptions ≡ a)
StandsIn (Head v a) (command.AlterBox rule proof label vars assumptions) = (vars ≡ v) × (assumptions ≡ a)
StandsIn _ _ = ⊥

-- no name stands twice in the part where it may stand once
abbrev pub RepeatsNone : Part → Type 0
RepeatsNone (Reason why) = repeated_in_reason why ≡ None
RepeatsNone (Head vars assumptions) = repeated_variable vars ≡ None
RepeatsNone _ = Unit {0}

-- the part stands in a command of the language, and repeats no name
abbrev pub IsSpoken : Part → Type 0
IsSpoken part = RepeatsNone part × ((c : Command) × IsCommand c × StandsIn part c)
