-- What may be cited at a place is what the walk over a proof knows there.
use Rattle.std.proofs.Common.{arith, ◌≡◌, ◌≤◌, refl, sym, ap, subst, ◌∙◌, ℕ, zero, suc, Bool, true, false, cond, List, [], ◌∷◌, ◌++◌, map, inl, inr}
use Rattle.std.specs.Prelude.{◌⊎◌, Option, Some, None, find}
use Rattle.std.specs.Bool.{nat_eq}
use Rattle.std.specs.Option.{option_map, option_or}
use Rattle.std.specs.List.{Contains, flat_map}
use Rattle.std.specs.Cmp.Lexicographic.{pointwise, same_text, nat_list_eq_equiv}
use Rattle.std.proofs.lemmas.List.{append_assoc, append-nil, map-append}
use Rattle.std.proofs.lemmas.List.Folds.{find-append}
use Rattle.std.proofs.lemmas.List.Elements.{Contains-append_left, Contains-append_right, Contains-push}
use Rattle.std.proofs.lemmas.Grind.{flat_map-append}
use Rattle.std.proofs.lemmas.Option.{slice_get-map}
use Rattle.mu_tree.specs.declared.trees.Tree.{Tree}
use Rattle.mu_tree.specs.declared.claim.TypedVar.{TypedVar}
use Rattle.mu_tree.specs.declared.why.Why.{Why}
use Rattle.mu_tree.specs.declared.why.Ref.{Ref}
use Rattle.mu_tree.specs.declared.why.Ref.TheVariants as reference
use Rattle.mu_decl.specs.Contexts.{World}
use Rattle.mu_decl.specs.Claims.{names_of}
use Rattle.mu_decl.specs.declared.declaration.Statement.{Statement}
use Rattle.mu_proof.specs.declared.items.Item.{Item}
use Rattle.mu_proof.specs.declared.items.Item.TheVariants as item
use Rattle.mu_proof.specs.Items.{label_of, all_in, all_items, labels_in}
use Rattle.mu_proof.proofs.ItemEquations.{label_of-line, all_in-line, label_of-block, all_in-block}
use Rattle.mu_proof.specs.declared.items.Item.TheOpen.{Line, Block}
use Rattle.mu_proof.specs.declared.items.Item.TheViews.{out-roll-Item}
use Rattle.mu_check.specs.declared.allowed.Allowed.{Allowed}
use Rattle.mu_check.specs.declared.fact.Fact.{Fact}
use Rattle.mu_check.specs.declared.environments.KnownItem.{KnownItem}
use Rattle.mu_check.specs.declared.environments.KnownBlock.{KnownBlock}
use Rattle.mu_check.specs.declared.environments.Environment.{Environment}
use Rattle.mu_check.specs.Facts.{plain_fact, closed, hypothesis_fact, assumptions_of}
use Rattle.mu_check.specs.Environments.{nth, block_of, assumed, gives}
use Rattle.mu_check.specs.Labels.{item_of}
use Rattle.mu_check.specs.Verdicts.{checked, last_line, with_block}
use Rattle.mu_check.specs.Places.{Place, outermost, inside, before, scope_at, Establishes, line, block, MayCite, hypothesis, assumption, earlier, outer}
use Rattle.mu_check.specs.Tests.{known_block, known_step, known, items_at, blocks_at, environment_at}
use Rattle.mu_check.proofs.CheckedEquations.{line-after, block-after, ending}
use Rattle.mu_check.proofs.Counting.{count, count-append, find_once, is_called, contains_split}
use Rattle.mu_check.proofs.Endings.{ends_with_last, last_of_ending}
use Rattle.mu_proof.proofs.ItemInduction.{item_cases}

-- ---- what one item makes known
pub known-line : (scope : List (List ℕ)) (l : List ℕ) (t : Tree) (y : Option Why) → known scope (item.Line l t y) ≡ record { label = l; gives = plain_fact scope t } ∷ []
unfolding known
known-line scope l t y = ap (known scope) (sym (item.rolls-Line l t y)) ∙ ap (known_step scope) (out-roll-Item (Line l t y))

pub known-block : (scope : List (List ℕ)) (l : List ℕ) (vars : List TypedVar) (trees : List Tree) (items : List Item) → known scope (item.Block l vars trees items) ≡ known_block scope l vars trees (last_line items)
unfolding known
known-block scope l vars trees items = ap (known scope) (sym (item.rolls-Block l vars trees items)) ∙ ap (known_step scope) (out-roll-Item (Block l vars trees items))

module _ (w : World) (a : Allowed) where
  abbrev and_items : Environment → List KnownItem → Environment
  and_items env more = record { scope = env.scope; hyps = env.hyps; blocks = env.blocks; items = env.items ++ more }

  with_known : (l : List ℕ) (vars : List TypedVar) (trees : List Tree) (o : Option Tree) (env : Environment) → with_block l vars trees o env ≡ and_items env (known_block env.scope l vars trees o)
  with_known l vars trees None env = ap (λ xs. record { scope = env.scope; hyps = env.hyps; blocks = env.blocks; items = xs }) (sym (append-nil env.items))
  with_known l vars trees (Some t) env = refl

  block_after : (l : List ℕ) (vars : List TypedVar) (trees : List Tree) (items : List Item) (env : Environment) → (checked w a (item.Block l vars trees items)).after env ≡ and_items env (known_block env.scope l vars trees (last_line items))
  block_after l vars trees items env = block-after w a l vars trees items env ∙ ap (λ o. with_block l vars trees o env) (ending w a items) ∙ with_known l vars trees (last_line items) env

  -- after an item its facts are known, and all else is as before
  pub after-known : (i : Item) (env : Environment) → (checked w a i).after env ≡ and_items env (known env.scope i)
  after-known = item_cases (λ i. (env : Environment) → (checked w a i).after env ≡ and_items env (known env.scope i))
      (λ l t y env. line-after w a l t y env ∙ ap (and_items env) (sym (known-line env.scope l t y)))
      (λ l vars trees items env. block_after l vars trees items env ∙ ap (and_items env) (sym (known-block env.scope l vars trees items)))

-- ---- what is found
or_some : {A : Type 0} (o p : Option A) (x : A) → option_or o p ≡ Some x → (o ≡ Some x) ⊎ (p ≡ Some x)
or_some None p x e = inr e
or_some (Some y) p x e = inl e

some_mapped : {A B : Type 0} (g : A → B) (o : Option A) (y : B) → option_map g o ≡ Some y → (x : A) × (o ≡ Some x) × (g x ≡ y)
some_mapped g None y e = absurd (cc)
some_mapped g (Some x) y e = (x, refl, cc)

mapped_or : {A B : Type 0} (g : A → B) (o p : Option A) → option_map g (option_or o p) ≡ option_or (option_map g o) (option_map g p)
mapped_or g None p = refl
mapped_or g (Some x) p = refl

item_of-append : (l : List ℕ) (xs ys : List KnownItem) → item_of (xs ++ ys) l ≡ option_or (item_of xs l) (item_of ys l)
item_of-append l xs ys = ap (option_map (λ i. i.gives)) (find-append (λ i. pointwise nat_eq i.label l) xs ys) ∙ mapped_or (λ i. i.gives) (find (λ i. pointwise nat_eq i.label l) xs) (find (λ i. pointwise nat_eq i.label l) ys)

found_alone : (l : List ℕ) (k : KnownItem) (f : Fact) (b : Bool) → pointwise nat_eq k.label l ≡ b → option_map (λ i. i.gives) (cond b (Some k) None) ≡ Some f → (k.label ≡ l) × (k.gives ≡ f)
found_alone l k f true e h = (same_text k.label l (sym e), cc)
found_alone l k f false e h = absurd (cc)

one_known : (scope : List (List ℕ)) (i : Item) (l : List ℕ) (f : Fact) (k : KnownItem) → Establishes scope i k.label k.gives → item_of (k ∷ []) l ≡ Some f → Establishes scope i l f
one_known scope i l f k h e =
    let found = found_alone l k f (pointwise nat_eq k.label l) refl e in
    subst (λ n. Establishes scope i n f) found.0 (subst (λ g. Establishes scope i k.label g) found.1 h)

nth-map : {A B : Type 0} (g : A → B) (xs : List A) (n : ℕ) → nth (map g xs) n ≡ option_map g (nth xs n)
nth-map g xs zero = refl
nth-map g xs (suc n) = slice_get-map g xs n

found_block : (l : List ℕ) (k : ℕ) (f : Fact) (b : KnownBlock) (t : Bool) → pointwise nat_eq b.label l ≡ t → assumed (cond t (Some b) None) k ≡ Some f → (b.label ≡ l) × (nth b.assumptions k ≡ Some f)
found_block l k f b true e h = (same_text b.label l (sym e), h)
found_block l k f b false e h = absurd (cc)

either_block : (o p : Option KnownBlock) (k : ℕ) (f : Fact) → assumed (option_or o p) k ≡ Some f → (assumed o k ≡ Some f) ⊎ (assumed p k ≡ Some f)
either_block None p k f e = inr e
either_block (Some b) p k f e = inl e

last_block : (l : List ℕ) (k : ℕ) (f : Fact) (bs : List KnownBlock) (b : KnownBlock) → assumed (block_of (bs ++ b ∷ []) l) k ≡ Some f → (assumed (block_of bs l) k ≡ Some f) ⊎ ((b.label ≡ l) × (nth b.assumptions k ≡ Some f))
last_block l k f bs b e =
    elim (either_block (block_of bs l) (block_of (b ∷ []) l) k f (ap (λ o. assumed o k) (sym (find-append (λ c. pointwise nat_eq c.label l) bs (b ∷ []))) ∙ e)) [
      | inl here ↦ inl here
      | inr new ↦ inr (found_block l k f b (pointwise nat_eq b.label l) refl new)
    ]

module _ (scope : List (List ℕ)) where
  from_block : (l : List ℕ) (vars : List TypedVar) (trees : List Tree) (items : List Item) (m : List ℕ) (f : Fact) (o : Option Tree) → last_line items ≡ o → item_of (known_block scope l vars trees o) m ≡ Some f → Establishes scope (item.Block l vars trees items) m f
  from_block l vars trees items m f None e h = absurd (cc)
  from_block l vars trees items m f (Some t) e h = one_known scope (item.Block l vars trees items) m f (record { label = l; gives = closed scope vars trees t }) (block l vars trees items t (ends_with_last items t e)) h

  established : (i : Item) (l : List ℕ) (f : Fact) → item_of (known scope i) l ≡ Some f → Establishes scope i l f
  established = item_cases (λ i. (l : List ℕ) (f : Fact) → item_of (known scope i) l ≡ Some f → Establishes scope i l f)
      (λ l t y m f e. one_known scope (item.Line l t y) m f (record { label = l; gives = plain_fact scope t }) (line l t y) (ap (λ ks. item_of ks m) (sym (known-line scope l t y)) ∙ e))
      (λ l vars trees items m f e. from_block l vars trees items m f (last_line items) refl (ap (λ ks. item_of ks m) (sym (known-block scope l vars trees items)) ∙ e))

  -- what is found behind some items is established by one of them
  found_behind : (items : List Item) (l : List ℕ) (f : Fact) → item_of (flat_map (known scope) items) l ≡ Some f → (i : Item) × Contains items i × Establishes scope i l f
  found_behind [] l f e = absurd (cc)
  found_behind (i ∷ items) l f e = elim (or_some (item_of (known scope i) l) (item_of (flat_map (known scope) items) l) f (sym (item_of-append l (known scope i) (flat_map (known scope) items)) ∙ e)) [
    | inl here ↦ (i, Contains-append_left (i ∷ []) items i (Contains-push [] i), established i l f here)
    | inr there ↦ let later = found_behind items l f there in (later.0, Contains-append_right (i ∷ []) items later.0 later.1, later.2)
  ]

-- ---- what is known at a place
module _ (s : Statement) where
  -- what is found may be cited
  pub found_cited : (place : Place) (x : Ref) (f : Fact) → gives (environment_at s place) x ≡ Some f → MayCite s place x f
  found_cited (outermost items) (reference.Item l) f e = let found = found_behind [] items l f e in earlier (outermost items) found.0 l f found.1 found.2
  found_cited (outermost items) (reference.Assumption b k) f e = absurd (cc)
  found_cited (outermost items) (reference.Hypothesis n) f e =
      let h = some_mapped hypothesis_fact (nth s.claim.hyps n) f (sym (nth-map hypothesis_fact s.claim.hyps n) ∙ e) in
      subst (λ g. MayCite s (outermost items) (reference.Hypothesis n) g) h.2 (hypothesis items n h.0 h.1)
  found_cited (inside around l vars trees items) (reference.Item m) f e = elim (or_some (item_of (items_at around) m) (item_of (flat_map (known (scope_at around ++ names_of vars)) items) m) f (sym (item_of-append m (items_at around) (flat_map (known (scope_at around ++ names_of vars)) items)) ∙ e)) [
    | inl far ↦ outer around l vars trees items (reference.Item m) f (found_cited around (reference.Item m) f far)
    | inr near ↦ let found = found_behind (scope_at around ++ names_of vars) items m f near in earlier (inside around l vars trees items) found.0 m f found.1 found.2
  ]
  found_cited (inside around l vars trees items) (reference.Assumption b k) f e = elim (last_block b k f (blocks_at around) (record { label = l; assumptions = assumptions_of (scope_at around) vars trees }) e) [
    | inl far ↦ outer around l vars trees items (reference.Assumption b k) f (found_cited around (reference.Assumption b k) f far)
    | inr near ↦ subst (λ m. MayCite s (inside around l vars trees items) (reference.Assumption m k) f) near.0 (assumption around l vars trees items k f near.1)
  ]
  found_cited (inside around l vars trees items) (reference.Hypothesis n) f e = outer around l vars trees items (reference.Hypothesis n) f (found_cited around (reference.Hypothesis n) f e)

  -- ---- what may be cited is found, where no label stands twice
  abbrev entry : List ℕ → Fact → KnownItem
  entry l f = record { label = l; gives = f }

  abbrev IsKnown : Place → Ref → Fact → Type 0
  IsKnown place (reference.Item l) f = (front : List KnownItem) × (back : List KnownItem) × (items_at place ≡ front ++ entry l f ∷ back)
  IsKnown place (reference.Assumption b k) f = (fs : List Fact) × (nth fs k ≡ Some f) × (front : List KnownBlock) × (back : List KnownBlock) × (blocks_at place ≡ front ++ record { label = b; assumptions = fs } ∷ back)
  IsKnown place (reference.Hypothesis n) f = nth (map hypothesis_fact s.claim.hyps) n ≡ Some f

  known_alone : (scope : List (List ℕ)) (i : Item) (l : List ℕ) (f : Fact) → Establishes scope i l f → known scope i ≡ entry l f ∷ []
  known_alone scope i l f (line m t y) = known-line scope m t y
  known_alone scope i l f (block m vars trees items t e) = known-block scope m vars trees items ∙ ap (known_block scope m vars trees) (last_of_ending items t e)

  known_among : (scope : List (List ℕ)) (items : List Item) (i : Item) (l : List ℕ) (f : Fact) → Contains items i → Establishes scope i l f → (front : List KnownItem) × (back : List KnownItem) × (flat_map (known scope) items ≡ front ++ entry l f ∷ back)
  known_among scope items i l f c e =
      let split = contains_split items i c in (
        flat_map (known scope) split.0,
        flat_map (known scope) split.1,
        ap (flat_map (known scope)) split.2 ∙ flat_map-append (known scope) split.0 (i ∷ split.1) ∙ ap (λ ks. flat_map (known scope) split.0 ++ (ks ++ flat_map (known scope) split.1)) (known_alone scope i l f e),
      )

  known_here : (place : Place) (i : Item) (l : List ℕ) (f : Fact) → Contains (before place) i → Establishes (scope_at place) i l f → IsKnown place (reference.Item l) f
  known_here (outermost items) i l f c e = known_among [] items i l f c e
  known_here (inside around m vars trees items) i l f c e =
      let near = known_among (scope_at around ++ names_of vars) items i l f c e in
      (items_at around ++ near.0, near.1, ap (λ ks. items_at around ++ ks) near.2 ∙ sym (append_assoc (items_at around) near.0 (entry l f ∷ near.1)))

  known_inside : (around : Place) (l : List ℕ) (vars : List TypedVar) (trees : List Tree) (items : List Item) (x : Ref) (f : Fact) → IsKnown around x f → IsKnown (inside around l vars trees items) x f
  known_inside around l vars trees items (reference.Item m) f (front, back, e) =
      let more : List KnownItem = flat_map (known (scope_at around ++ names_of vars)) items in
      (front, back ++ more, ap (λ ks. ks ++ more) e ∙ append_assoc front (entry m f ∷ back) more)
  known_inside around l vars trees items (reference.Assumption b k) f (fs, h, front, back, e) =
      let more : List KnownBlock = record { label = l; assumptions = assumptions_of (scope_at around) vars trees } ∷ [] in
      (fs, h, front, back ++ more, ap (λ bs. bs ++ more) e ∙ append_assoc front (record { label = b; assumptions = fs } ∷ back) more)
  known_inside around l vars trees items (reference.Hypothesis n) f h = h

  known_by : (place : Place) (x : Ref) (f : Fact) → MayCite s place x f → IsKnown place x f
  known_by place x f (hypothesis items n h e) = nth-map hypothesis_fact s.claim.hyps n ∙ ap (option_map hypothesis_fact) e
  known_by place x f (assumption around l vars trees items k g e) = (assumptions_of (scope_at around) vars trees, e, blocks_at around, [], refl)
  known_by place x f (earlier here i l g c e) = known_here here i l g c e
  known_by place x f (outer around l vars trees items y g c) = known_inside around l vars trees items y g (known_by around y g c)

-- ---- labels
-- the labels before a place, and of the blocks around it
abbrev pub labels_before : Place → List (List ℕ)
labels_before (outermost items) = flat_map labels_in items
labels_before (inside around l vars trees items) = labels_before around ++ l ∷ flat_map labels_in items

pub labels-line : (l : List ℕ) (t : Tree) (y : Option Why) → labels_in (item.Line l t y) ≡ l ∷ []
labels-line l t y = ap (map label_of) (all_in-line l t y) ∙ ap (λ n. n ∷ []) (label_of-line l t y)

pub labels_of_all : (items : List Item) → map label_of (all_items items) ≡ flat_map labels_in items
labels_of_all [] = refl
labels_of_all (i ∷ items) = map-append label_of (all_in i) (all_items items) ∙ ap (λ rest. labels_in i ++ rest) (labels_of_all items)

pub labels-block : (l : List ℕ) (vars : List TypedVar) (trees : List Tree) (items : List Item) → labels_in (item.Block l vars trees items) ≡ l ∷ flat_map labels_in items
labels-block l vars trees items = ap (map label_of) (all_in-block l vars trees items) ∙ ap (λ n. n ∷ map label_of (all_items items)) (label_of-block l vars trees items) ∙ ap (λ rest. l ∷ rest) (labels_of_all items)

module _ (l : List ℕ) where
  abbrev of_label : List KnownItem → ℕ
  of_label = count (λ i. pointwise nat_eq i.label l)

  few_of_block : (scope : List (List ℕ)) (m : List ℕ) (vars : List TypedVar) (trees : List Tree) (items : List Item) (o : Option Tree) → of_label (known_block scope m vars trees o) ≤ count (is_called l) (m ∷ flat_map labels_in items)
  few_of_block scope m vars trees items None = omega arith
  few_of_block scope m vars trees items (Some t) = omega arith

  few_of_item : (scope : List (List ℕ)) (i : Item) → of_label (known scope i) ≤ count (is_called l) (labels_in i)
  few_of_item scope = item_cases (λ i. of_label (known scope i) ≤ count (is_called l) (labels_in i))
      (λ m t y. rw (known-line scope m t y, labels-line m t y) (omega arith))
      (λ m vars trees items. rw (known-block scope m vars trees items, labels-block m vars trees items) (few_of_block scope m vars trees items (last_line items)))

  few_of_items : (scope : List (List ℕ)) (items : List Item) → of_label (flat_map (known scope) items) ≤ count (is_called l) (flat_map labels_in items)
  few_of_items scope [] = omega arith
  few_of_items scope (i ∷ items) = omega (arith, few_of_item scope i, few_of_items scope items, count-append (λ i. pointwise nat_eq i.label l) (known scope i) (flat_map (known scope) items), count-append (is_called l) (labels_in i) (flat_map labels_in items))

  few_items_at : (place : Place) → of_label (items_at place) ≤ count (is_called l) (labels_before place)
  few_items_at (outermost items) = few_of_items [] items
  few_items_at (inside around m vars trees items) = omega (arith, few_items_at around, few_of_items (scope_at around ++ names_of vars) items, count-append (λ i. pointwise nat_eq i.label l) (items_at around) (flat_map (known (scope_at around ++ names_of vars)) items), count-append (is_called l) (labels_before around) (m ∷ flat_map labels_in items))

  few_blocks_at : (place : Place) → count (λ b. pointwise nat_eq b.label l) (blocks_at place) ≤ count (is_called l) (labels_before place)
  few_blocks_at (outermost items) = omega arith
  few_blocks_at (inside around m vars trees items) = omega (arith, few_blocks_at around, count-append (λ (b : KnownBlock). pointwise nat_eq b.label l) (blocks_at around) (record { label = m; assumptions = assumptions_of (scope_at around) vars trees } ∷ []), count-append (is_called l) (labels_before around) (m ∷ flat_map labels_in items))

module _ (s : Statement) (place : Place) (once : (l : List ℕ) → count (is_called l) (labels_before place) ≤ 1) where
  found_known : (x : Ref) (f : Fact) → IsKnown s place x f → gives (environment_at s place) x ≡ Some f
  found_known (reference.Item l) f (front, back, e) =
      let few : count (λ i. pointwise nat_eq i.label l) (front ++ record { label = l; gives = f } ∷ back) ≤ 1 = subst (λ ks. count (λ i. pointwise nat_eq i.label l) ks ≤ 1) e (omega (arith, few_items_at l place, once l)) in
      ap (λ ks. item_of ks l) e ∙ ap (option_map (λ i. i.gives)) (find_once (λ i. pointwise nat_eq i.label l) front (record { label = l; gives = f }) back (nat_list_eq_equiv.refl l) few)
  found_known (reference.Assumption b k) f (fs, h, front, back, e) =
      let few : count (λ c. pointwise nat_eq c.label b) (front ++ record { label = b; assumptions = fs } ∷ back) ≤ 1 = subst (λ bs. count (λ c. pointwise nat_eq c.label b) bs ≤ 1) e (omega (arith, few_blocks_at b place, once b)) in
      ap (λ bs. assumed (block_of bs b) k) e ∙ ap (λ o. assumed o k) (find_once (λ c. pointwise nat_eq c.label b) front (record { label = b; assumptions = fs }) back (nat_list_eq_equiv.refl b) few) ∙ h
  found_known (reference.Hypothesis n) f h = h

  -- what may be cited is found
  pub cited_found : (x : Ref) (f : Fact) → MayCite s place x f → gives (environment_at s place) x ≡ Some f
  cited_found x f c = found_known x f (known_by s place x f c)
