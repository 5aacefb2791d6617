-- The walk over a proof comes to each item with what may be cited at its place.
use Rattle.std.proofs.Common.{arith, ◌≡◌, ◌≤◌, ◌+◌, refl, sym, ap, subst, ◌∙◌, ℕ, List, [], ◌∷◌, ◌++◌, map}
use Rattle.std.specs.Prelude.{Option, Some, None}
use Rattle.std.specs.Bool.{nat_eq}
use Rattle.std.specs.Option.{option_or}
use Rattle.std.specs.List.{AllByRecursion, IsDistinct, flat_map}
use Rattle.std.specs.Cmp.Lexicographic.{pointwise}
use Rattle.std.proofs.lemmas.List.{append_assoc, append-nil}
use Rattle.std.proofs.lemmas.Grind.{flat_map-append}
use Rattle.mu_tree.specs.declared.trees.Tree.{Tree}
use Rattle.mu_tree.specs.declared.claim.TypedVar.{TypedVar}
use Rattle.mu_decl.specs.Contexts.{World}
use Rattle.mu_decl.specs.Claims.{names_of}
use Rattle.mu_decl.specs.declared.declaration.Statement.{Statement}
use Rattle.mu_proof.specs.declared.items.Item.{Item}
use Rattle.mu_proof.specs.declared.items.Item.TheVariants as item
use Rattle.mu_proof.specs.Items.{labels_in}
use Rattle.mu_check.specs.declared.allowed.Allowed.{Allowed}
use Rattle.mu_check.specs.Facts.{hypothesis_fact}
use Rattle.mu_check.specs.Environments.{within}
use Rattle.mu_check.specs.Blocks.{block_cause}
use Rattle.mu_check.specs.Verdicts.{checked, in_order, ends, labelled, ending_cause}
use Rattle.mu_check.specs.Places.{Place, outermost, inside, scope_at, IsAt, in_proof, in_block, HasDistinctLabels}
use Rattle.mu_check.proofs.CheckedEquations.{block-fault}
use Rattle.mu_check.proofs.Counting.{count, count-append, is_called, named_once}
use Rattle.mu_check.specs.Tests.{known, items_at, blocks_at, environment_at}
use Rattle.mu_check.proofs.Citing.{after-known, labels_before, labels-block, labels_of_all}

-- ---- the labels before a place are some of the proof's
module _ (l : List ℕ) where
  split_labels : (items : List Item) (i : Item) (later : List Item) → count (is_called l) (flat_map labels_in (items ++ i ∷ later)) ≡ count (is_called l) (flat_map labels_in items) + (count (is_called l) (labels_in i) + count (is_called l) (flat_map labels_in later))
  split_labels items i later =
      ap (count (is_called l)) (flat_map-append labels_in items (i ∷ later))
      ∙ count-append (is_called l) (flat_map labels_in items) (labels_in i ++ flat_map labels_in later)
      ∙ ap (λ n. count (is_called l) (flat_map labels_in items) + n) (count-append (is_called l) (labels_in i) (flat_map labels_in later))

  labels_at : (proof : List Item) (place : Place) (i : Item) → IsAt proof place i → count (is_called l) (labels_before place) + count (is_called l) (labels_in i) ≤ count (is_called l) (flat_map labels_in proof)
  labels_at proof place i (in_proof items j later e) = subst (λ ps. count (is_called l) (flat_map labels_in items) + count (is_called l) (labels_in j) ≤ count (is_called l) (flat_map labels_in ps)) (sym e) (omega (arith, split_labels items j later))
  labels_at proof place i (in_block around m vars trees items j later at) =
      omega (arith, labels_at proof around (item.Block m vars trees (items ++ j ∷ later)) at, ap (count (is_called l)) (labels-block m vars trees (items ++ j ∷ later)), split_labels items j later, count-append (is_called l) (labels_before around) (m ∷ flat_map labels_in items))

pub labels_once : (proof : List Item) → HasDistinctLabels proof → (place : Place) (i : Item) → IsAt proof place i → (l : List ℕ) → count (is_called l) (labels_before place) ≤ 1
labels_once proof d place i at l = omega (arith, labels_at l proof place i at, named_once l (flat_map labels_in proof) (subst (IsDistinct (pointwise nat_eq)) (labels_of_all proof) d))

-- ---- the walk
pub or_none : {A : Type 0} (o p : Option A) → option_or o p ≡ None → (o ≡ None) × (p ≡ None)
or_none None p e = (refl, e)
or_none (Some x) p e = absurd (cc)

module _ (w : World) (a : Allowed) (s : Statement) where
  pub next_outermost : (items : List Item) (i : Item) → (checked w a i).after (environment_at s (outermost items)) ≡ environment_at s (outermost (items ++ i ∷ []))
  next_outermost items i =
      after-known w a i (environment_at s (outermost items))
      ∙ ap (λ ks. record { scope = []; hyps = map hypothesis_fact s.claim.hyps; blocks = []; items = ks })
      (ap (λ ks. flat_map (known []) items ++ ks) (sym (append-nil (known [] i))) ∙ sym (flat_map-append (known []) items (i ∷ [])))

  pub next_inside : (around : Place) (l : List ℕ) (vars : List TypedVar) (trees : List Tree) (items : List Item) (i : Item) → (checked w a i).after (environment_at s (inside around l vars trees items)) ≡ environment_at s (inside around l vars trees (items ++ i ∷ []))
  next_inside around l vars trees items i =
      let scope : List (List ℕ) = scope_at around ++ names_of vars in
      after-known w a i (environment_at s (inside around l vars trees items))
      ∙ ap (λ ks. record { scope = scope; hyps = map hypothesis_fact s.claim.hyps; blocks = blocks_at (inside around l vars trees items); items = ks })
      (append_assoc (items_at around) (flat_map (known scope) items) (known scope i)
      ∙ ap (λ ks. items_at around ++ ks) (ap (λ ks. flat_map (known scope) items ++ ks) (sym (append-nil (known scope i))) ∙ sym (flat_map-append (known scope) items (i ∷ []))))

  pub entered_at : (around : Place) (l : List ℕ) (vars : List TypedVar) (trees : List Tree) → within l vars trees (environment_at s around) ≡ environment_at s (inside around l vars trees [])
  entered_at around l vars trees = ap (λ ks. record { scope = scope_at around ++ names_of vars; hyps = map hypothesis_fact s.claim.hyps; blocks = blocks_at (inside around l vars trees []); items = ks }) (sym (append-nil (items_at around)))

  -- items that follow one another directly in a block or in the proof
  module _ (frame : List Item → Place) (next : (items : List Item) (i : Item) → (checked w a i).after (environment_at s (frame items)) ≡ environment_at s (frame (items ++ i ∷ []))) where
    reached : (earlier items : List Item) (i : Item) (later : List Item) → in_order (map (checked w a) (items ++ i ∷ later)) (environment_at s (frame earlier)) ≡ None → (checked w a i).fault (environment_at s (frame (earlier ++ items))) ≡ None
    reached earlier [] i later e =
        subst (λ xs. (checked w a i).fault (environment_at s (frame xs)) ≡ None) (sym (append-nil earlier)) (or_none ((checked w a i).fault (environment_at s (frame earlier))) _ e).0
    reached earlier (j ∷ items) i later e =
        let rest : in_order (map (checked w a) (items ++ i ∷ later)) ((checked w a j).after (environment_at s (frame earlier))) ≡ None = (or_none ((checked w a j).fault (environment_at s (frame earlier))) _ e).1 in
        subst (λ xs. (checked w a i).fault (environment_at s (frame xs)) ≡ None) (append_assoc earlier (j ∷ []) items) (reached (earlier ++ j ∷ []) items i later (subst (λ env. in_order (map (checked w a) (items ++ i ∷ later)) env ≡ None) (next earlier j) rest))

    pub all_pass : (whole : List Item) (fine : Item → Type 0) → ((items : List Item) (i : Item) (later : List Item) → whole ≡ items ++ i ∷ later → fine i → (checked w a i).fault (environment_at s (frame items)) ≡ None) → (earlier rest : List Item) → whole ≡ earlier ++ rest → AllByRecursion fine rest → in_order (map (checked w a) rest) (environment_at s (frame earlier)) ≡ None
    all_pass whole fine pass earlier [] e all = refl
    all_pass whole fine pass earlier (i ∷ rest) e (here, all) =
        ap (λ o. option_or o (in_order (map (checked w a) rest) ((checked w a i).after (environment_at s (frame earlier))))) (pass earlier i rest e here)
        ∙ ap (in_order (map (checked w a) rest)) (next earlier i)
        ∙ all_pass whole fine pass (earlier ++ i ∷ []) rest (e ∙ sym (append_assoc earlier (i ∷ []) rest)) all

  -- what a block passes: its own tests before its items, theirs, and its own after them
  pub block_passes : (place : Place) (l : List ℕ) (vars : List TypedVar) (trees : List Tree) (items : List Item) → (checked w a (item.Block l vars trees items)).fault (environment_at s place) ≡ None
      → (labelled l (block_cause w a (scope_at place) vars trees) ≡ None) × (in_order (map (checked w a) items) (environment_at s (inside place l vars trees [])) ≡ None) × (labelled l (ending_cause (ends (map (checked w a) items))) ≡ None)
  block_passes place l vars trees items e =
      let own = or_none (labelled l (block_cause w a (scope_at place) vars trees)) _ (sym (block-fault w a l vars trees items (environment_at s place)) ∙ e) in
      let rest = or_none (in_order (map (checked w a) items) (within l vars trees (environment_at s place))) _ own.1 in
      (own.0, subst (λ env. in_order (map (checked w a) items) env ≡ None) (entered_at place l vars trees) rest.0, rest.1)

  -- where the walk finds no fault, it finds none at any item
  pub none_at : (proof : List Item) → in_order (map (checked w a) proof) (environment_at s (outermost [])) ≡ None → (place : Place) (i : Item) → IsAt proof place i → (checked w a i).fault (environment_at s place) ≡ None
  none_at proof e place i (in_proof items j later whole) = reached outermost next_outermost [] items j later (subst (λ ps. in_order (map (checked w a) ps) (environment_at s (outermost [])) ≡ None) whole e)
  none_at proof e place i (in_block around l vars trees items j later at) =
      reached (inside around l vars trees) (next_inside around l vars trees) [] items j later (block_passes around l vars trees (items ++ j ∷ later) (none_at proof e around (item.Block l vars trees (items ++ j ∷ later)) at)).1

  -- where a block's own tests and those of its items pass, it has no fault
  pub block_none : (place : Place) (l : List ℕ) (vars : List TypedVar) (trees : List Tree) (items : List Item) → labelled l (block_cause w a (scope_at place) vars trees) ≡ None → in_order (map (checked w a) items) (environment_at s (inside place l vars trees [])) ≡ None → labelled l (ending_cause (ends (map (checked w a) items))) ≡ None → (checked w a (item.Block l vars trees items)).fault (environment_at s place) ≡ None
  block_none place l vars trees items own inner ending =
      block-fault w a l vars trees items (environment_at s place)
      ∙ ap (λ o. option_or o (option_or (in_order (map (checked w a) items) (within l vars trees (environment_at s place))) (labelled l (ending_cause (ends (map (checked w a) items)))))) own
      ∙ ap (λ env. option_or (in_order (map (checked w a) items) env) (labelled l (ending_cause (ends (map (checked w a) items))))) (entered_at place l vars trees)
      ∙ ap (λ o. option_or o (labelled l (ending_cause (ends (map (checked w a) items))))) inner
      ∙ ending
