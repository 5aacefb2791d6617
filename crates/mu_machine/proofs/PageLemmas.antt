-- The lines of a rule's proofs, one after another, and the items of a proof.
use Rattle.std.proofs.Common.{◌≡◌, ℕ, ◌∙◌, ◌++◌, List, [], ◌∷◌, map, refl, sym, ap, append-nil, append_assoc}
use Rattle.std.specs.Prelude.{Option, codes}
use Rattle.std.specs.List.{flat_map}
use Rattle.std.proofs.lemmas.Grind.{flat_map-append}
use Rattle.mu_tree.specs.declared.trees.Tree.{Tree}
use Rattle.mu_tree.specs.declared.claim.TypedVar.{TypedVar}
use Rattle.mu_tree.specs.declared.why.Why.{Why}
use Rattle.mu_proof.specs.declared.items.Item.{Item}
use Rattle.mu_proof.specs.declared.items.Item.TheOpen.{Line, Block}
use Rattle.mu_proof.specs.declared.items.Item.TheFolds.{fold-roll-Item}
use Rattle.mu_proof.specs.declared.items.Item.TheVariants as item
use Rattle.mu_print.specs.Canonical.{tree_text}
use Rattle.mu_print.specs.Texts.{block_text}
use Rattle.mu_flat.specs.Entries.{Entries}
use Rattle.mu_machine.specs.Pages.{item_step, item_text, proof_line, why_text}

-- one proof more is one line more
pub lines_more : (e : Entries) (rule : List ℕ) (entries : List (List ℕ × List Item)) (entry : List ℕ × List Item)
    → flat_map (proof_line e rule) (entries ++ entry ∷ []) ≡ flat_map (proof_line e rule) entries ++ proof_line e rule entry
lines_more e rule entries entry =
    flat_map-append (proof_line e rule) entries (entry ∷ []) ∙ ap (λ rest. flat_map (proof_line e rule) entries ++ rest) (append-nil (proof_line e rule entry))

pub line_told : (l : List ℕ) (t : Tree) (w : Option Why) (blanks : List ℕ) → item_text (item.Line l t w) blanks ≡ blanks ++ (l ++ (codes " : " ++ (tree_text t ++ (codes " by " ++ (why_text w ++ codes "\n")))))
unfolding item_text
line_told l t w blanks = ap (λ f. f blanks) (ap item_text (sym (item.rolls-Line l t w)) ∙ fold-roll-Item (List ℕ → List ℕ) item_step (Line l t w))

told_deeper : (items : List Item) (n : List ℕ) → flat_map (λ (each : List ℕ → List ℕ). each n) (map item_text items) ≡ flat_map (λ each. item_text each n) items
told_deeper [] n = refl
told_deeper (i ∷ items) n = ap (λ rest. item_text i n ++ rest) (told_deeper items n)

pub box_told : (l : List ℕ) (vars : List TypedVar) (trees : List Tree) (items : List Item) (blanks : List ℕ)
    → item_text (item.Block l vars trees items) blanks ≡ (blanks ++ (codes "box " ++ (l ++ (codes " : " ++ (block_text vars trees ++ codes "\n"))))) ++ flat_map (λ each. item_text each (blanks ++ codes "  ")) items
unfolding item_text
box_told l vars trees items blanks =
    ap (λ f. f blanks) (ap item_text (sym (item.rolls-Block l vars trees items)) ∙ fold-roll-Item (List ℕ → List ℕ) item_step (Block l vars trees items))
    ∙ ap (λ rest. (blanks ++ (codes "box " ++ (l ++ (codes " : " ++ (block_text vars trees ++ codes "\n"))))) ++ rest) (told_deeper items (blanks ++ codes "  "))

-- a page to which the head of a box is added, and then its items, two blanks deeper, ends with the box
pub box_behind : (first page after l : List ℕ) (vars : List TypedVar) (trees : List Tree) (items told : List Item) (blanks deep : List ℕ)
    → page ≡ first ++ (blanks ++ (codes "box " ++ (l ++ (codes " : " ++ (block_text vars trees ++ codes "\n")))))
    → deep ≡ blanks ++ codes "  " → told ≡ items → after ≡ page ++ flat_map (λ each. item_text each deep) told
    → after ≡ first ++ item_text (item.Block l vars trees items) blanks
box_behind first page after l vars trees items told blanks deep head two all is =
    let top = blanks ++ (codes "box " ++ (l ++ (codes " : " ++ (block_text vars trees ++ codes "\n")))) in
    let inner = flat_map (λ each. item_text each (blanks ++ codes "  ")) items in
    is
    ∙ ap (λ (list : List Item). page ++ flat_map (λ each. item_text each deep) list) all
    ∙ ap (λ (more : List ℕ). page ++ flat_map (λ each. item_text each more) items) two
    ∙ ap (λ (text : List ℕ). text ++ inner) head
    ∙ append_assoc first top inner
    ∙ ap (λ (text : List ℕ). first ++ text) (sym (box_told l vars trees items blanks))

pub ruleset item_equations = (line_told, box_told)
