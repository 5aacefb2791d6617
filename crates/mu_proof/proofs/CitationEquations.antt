-- What a line and a block cite.
use Rattle.std.proofs.Common.{◌≡◌, ℕ, List, [], ◌++◌, ◌∷◌, map, ap, refl, sym, ◌∙◌}
use Rattle.std.specs.Prelude.{Option}
use Rattle.std.specs.List.{flat_map}
use Rattle.mu_tree.specs.declared.trees.Tree.{Tree}
use Rattle.mu_tree.specs.declared.claim.TypedVar.{TypedVar}
use Rattle.mu_tree.specs.declared.why.Why.{Why}
use Rattle.mu_proof.specs.declared.items.Item.{Item}
use Rattle.mu_proof.specs.declared.items.Item.TheOpen.{Line, Block}
use Rattle.mu_proof.specs.declared.items.Item.TheFolds.{fold-roll-Item}
use Rattle.mu_proof.specs.declared.items.Item.TheVariants as item
use Rattle.mu_proof.specs.declared.citations.Cited.{Cited}
use Rattle.mu_proof.specs.Citations.{cited_by, cites_step, item_cites, cites}

pub cites-line : (l : List ℕ) (t : Tree) (y : Option Why) → item_cites (item.Line l t y) ≡ cited_by y
unfolding item_cites
cites-line l t y = ap item_cites (sym (item.rolls-Line l t y)) ∙ fold-roll-Item (List Cited) cites_step (Line l t y)

joined : (items : List Item) → flat_map (λ each. each) (map item_cites items) ≡ cites items
joined [] = refl
joined (i ∷ items) = ap (λ rest. item_cites i ++ rest) (joined items)

pub cites-block : (l : List ℕ) (vars : List TypedVar) (trees : List Tree) (items : List Item) → item_cites (item.Block l vars trees items) ≡ cites items
unfolding item_cites
cites-block l vars trees items = ap item_cites (sym (item.rolls-Block l vars trees items)) ∙ fold-roll-Item (List Cited) cites_step (Block l vars trees items) ∙ joined items

pub ruleset citation_equations = (cites-line, cites-block)
