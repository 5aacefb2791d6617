-- The verdict of a proof: its first fault in the order of its items.
use Rattle.std.specs.Prelude.{ℕ, List, [], ◌∷◌, map, Option, Some, None, option_and_then, slice_get, length, ◌-◌}
use Rattle.std.specs.Option.{is_some, option_map, option_or}
use Rattle.std.specs.FinMap as finite
use Rattle.mu_tree.specs.declared.trees.Tree.{Tree}
use Rattle.mu_tree.specs.declared.claim.TypedVar.{TypedVar}
use Rattle.mu_tree.specs.declared.claim.Claim.{Claim}
use Rattle.mu_decl.specs.Contexts.{World}
use Rattle.mu_decl.specs.declared.declaration.Statement.{Statement}
use Rattle.mu_decl.specs.Claims.{claim_occurrences}
use Rattle.mu_proof.specs.declared.items.Item.{Item}
use Rattle.mu_proof.specs.declared.items.Item.TheOpen.{Item-F, Line, Block}
use Rattle.mu_proof.specs.declared.items.Item.TheFolds.{fold-Item}
use Rattle.mu_proof.specs.Proofs.{root}
use Rattle.mu_check.specs.declared.cause.Cause.{Cause}
use Rattle.mu_check.specs.declared.cause.Cause.TheVariants.{NoRule, Unfinished, ConclusionDiffers}
use Rattle.mu_check.specs.declared.cause.Fault.{Fault}
use Rattle.mu_check.specs.declared.allowed.Allowed.{Allowed}
use Rattle.mu_check.specs.declared.environments.Environment.{Environment}
use Rattle.mu_check.specs.Same.{equal_facts}
use Rattle.mu_check.specs.Facts.{plain_fact, closed}
use Rattle.mu_check.specs.Environments.{start, with_item, within}
use Rattle.mu_check.specs.Causes.{test}
use Rattle.mu_check.specs.Justifications.{line_cause}
use Rattle.mu_check.specs.Blocks.{block_cause}

-- what an item is to the items around it: the tree of a line, what may be cited after it, and its first fault, its own or of an item in it
pub record Checked : Type 0 where
  pub tree : Option Tree
  pub after : Environment → Environment
  pub fault : Environment → Option Fault

-- a cause with the label of its item
abbrev pub labelled : List ℕ → Option Cause → Option Fault
labelled l cause = option_map (λ c. record { label = l; cause = c }) cause

-- the first fault of some items, each of which may cite those before it
abbrev pub in_order : List Checked → Environment → Option Fault
in_order [] env = None
in_order (i ∷ items) env = option_or (i.fault env) (in_order items (i.after env))

-- the tree of the last item, where that is a line
abbrev pub ends : List Checked → Option Tree
ends items = option_and_then (λ i. i.tree) (slice_get items (length items - 1))

-- the tree at the top of an item
abbrev pub tree_step : Item-F (Option Tree) → Option Tree
tree_step (Line l t why) = Some t
tree_step (Block l vars trees items) = None

-- the tree of an item, where that is a line
unfoldable pub line_tree : Item → Option Tree
line_tree = fold-Item (Option Tree) tree_step

-- the tree of the last item, where that is a line
abbrev pub last_line : List Item → Option Tree
last_line items = option_and_then line_tree (slice_get items (length items - 1))

-- a block, after its items: it ends with a line
abbrev pub ending_cause : Option Tree → Option Cause
ending_cause last = test (is_some last) Unfinished None

-- after a block whose last line has this tree: what it gives is a sequent
abbrev pub with_block : List ℕ → List TypedVar → List Tree → Option Tree → Environment → Environment
with_block l vars trees None env = env
with_block l vars trees (Some t) env = with_item l (closed env.scope vars trees t) env

-- the first fault of a block: its own before its items, theirs, its own after them
abbrev pub block_fault : World → Allowed → List ℕ → List TypedVar → List Tree → List Checked → Environment → Option Fault
block_fault w allowed l vars trees items env =
    option_or (labelled l (block_cause w allowed env.scope vars trees))
    (option_or (in_order items (within l vars trees env))
    (labelled l (ending_cause (ends items))))

-- one item, with what the items in it are
abbrev pub checked_step : World → Allowed → Item-F Checked → Checked
checked_step w allowed (Line l t why) = record {
  tree = Some t;
  after = λ env. with_item l (plain_fact env.scope t) env;
  fault = λ env. labelled l (line_cause w allowed env t why);
}
checked_step w allowed (Block l vars trees items) = record {
  tree = None;
  after = with_block l vars trees (ends items);
  fault = block_fault w allowed l vars trees items;
}

-- an item, checked
unfoldable pub checked : World → Allowed → Item → Checked
checked w allowed = fold-Item Checked (checked_step w allowed)

-- the whole proof, after its items: it ends with a line, which is the conclusion
abbrev pub root_cause : Tree → Option Tree → Option Cause
root_cause conclusion None = Some Unfinished
root_cause conclusion (Some t) = test (equal_facts (plain_fact [] t) (plain_fact [] conclusion)) ConclusionDiffers None

-- the first fault of a proof of this claim
abbrev pub claim_fault : World → Allowed → Claim → List Item → Option Fault
claim_fault w allowed claim items =
    option_or (in_order (map (checked w allowed) items) (start claim))
    (labelled root (root_cause claim.conclusion (ends (map (checked w allowed) items))))

-- what the proofs of a rule may speak of: what is seen from its unit, and the metavariables of its claim
abbrev pub allowed_by : World → Statement → Allowed
allowed_by w s = record { seen = w.seen s.theory; metas = claim_occurrences w s.claim }

-- the first fault of a proof of a rule, if that is there
abbrev pub verdict_by : World → List Item → Option Statement → Option Fault
verdict_by w items None = labelled root (Some NoRule)
verdict_by w items (Some s) = claim_fault w (allowed_by w s) s.claim items

-- the first fault of a proof of the rule of this name, none where the proof is right
abbrev pub verdict : World → List ℕ → List Item → Option Fault
verdict w r items = verdict_by w items (finite.get w.rules r)
