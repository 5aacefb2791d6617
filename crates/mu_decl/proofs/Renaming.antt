-- A bound variable renamed to a name that doesn't occur.
use Rattle.std.proofs.Common.{◌≡◌, ℕ, ◌+◌, Bool, true, false, ◌||◌, cond, nat_eq, List, [], ◌∷◌, ◌++◌, map, length, Option, Some, None, refl, ap, sym, ◌∙◌, rules}
use Rattle.std.specs.List.{AllByRecursion}
use Rattle.std.specs.Cmp.Lexicographic.{pointwise, same_text}
use Rattle.std.proofs.lemmas.Simd.{map-map}
use Rattle.std.proofs.lemmas.List.{append_assoc}
use Rattle.std.proofs.lemmas.List.Folds.{list_any-append}
use Rattle.mu_tree.specs.Names.{is_among}
use Rattle.mu_tree.specs.Trees.{occurrences, occurrences_step, joined}
use Rattle.mu_tree.specs.declared.trees.Tree.{Tree}
use Rattle.mu_tree.specs.declared.trees.Tree.TheOpen.{Tree-F, App, Meta, Bind}
use Rattle.mu_tree.specs.declared.trees.Tree.TheFolds.{fold-Tree, fold-roll-Tree}
use Rattle.mu_tree.specs.declared.trees.Tree.TheVariants as tree
use Rattle.mu_decl.specs.Nameless.{place, leaf_at, leaf, applied, nameless}
use Rattle.mu_decl.proofs.EnteringEquations.{nameless-app, nameless-meta, nameless-bind}
use Rattle.mu_decl.specs.Laws.{renamed_name, renamed_application, renamed_step, renamed, RenamingIsFree}
use Rattle.mu_tree.proofs.TreeInduction.{tree_ind}
use Rattle.mu_decl.proofs.Places.{onto, place-is, place-append, is_among_none, is_among_some}

-- a fold into functions of the inner names: its equations by the steps
module _ {A : Type 0} (step : Tree-F (List (List ℕ) → A) → List (List ℕ) → A) (inner : List (List ℕ)) where
  abbrev under : Tree → List (List ℕ) → A
  under = fold-Tree (List (List ℕ) → A) step

  abbrev at : (List (List ℕ) → A) → A
  at f = f inner

  at-app : (n : List ℕ) (parts : List Tree) → under (tree.App n parts) inner ≡ step (App n (map under parts)) inner
  at-app n parts = ap (λ t. under t inner) (sym (tree.rolls-App n parts)) ∙ ap at (fold-roll-Tree (List (List ℕ) → A) step (App n parts))

  at-meta : (m : List ℕ) (parts : List Tree) → under (tree.Meta m parts) inner ≡ step (Meta m (map under parts)) inner
  at-meta m parts = ap (λ t. under t inner) (sym (tree.rolls-Meta m parts)) ∙ ap at (fold-roll-Tree (List (List ℕ) → A) step (Meta m parts))

  at-bind : (b v : List ℕ) (domain body : Tree) → under (tree.Bind b v domain body) inner ≡ step (Bind b v (under domain) (under body)) inner
  at-bind b v domain body = ap (λ t. under t inner) (sym (tree.rolls-Bind b v domain body)) ∙ ap at (fold-roll-Tree (List (List ℕ) → A) step (Bind b v domain body))

  at_all : (parts : List Tree) → map at (map under parts) ≡ map (λ t. under t inner) parts
  at_all parts = map-map at under parts

module _ (v w : List ℕ) where
  renamed-app : (inner : List (List ℕ)) (n : List ℕ) (ts : List Tree) → renamed v w inner (tree.App n ts) ≡ renamed_application v w inner n (map (renamed v w inner) ts)
  unfolding renamed
  renamed-app inner n ts = at-app (renamed_step v w) inner n ts ∙ ap (renamed_application v w inner n) (at_all (renamed_step v w) inner ts)

  renamed-meta : (inner : List (List ℕ)) (m : List ℕ) (ts : List Tree) → renamed v w inner (tree.Meta m ts) ≡ tree.Meta m (map (renamed v w inner) ts)
  unfolding renamed
  renamed-meta inner m ts = at-meta (renamed_step v w) inner m ts ∙ ap (tree.Meta m) (at_all (renamed_step v w) inner ts)

  renamed-bind : (inner : List (List ℕ)) (b u : List ℕ) (domain body : Tree) → renamed v w inner (tree.Bind b u domain body) ≡ tree.Bind b u (renamed v w inner domain) (renamed v w (inner ++ u ∷ []) body)
  unfolding renamed
  renamed-bind inner b u domain body = at-bind (renamed_step v w) inner b u domain body

occurrences-app : (n : List ℕ) (ts : List Tree) → occurrences (tree.App n ts) ≡ n ∷ joined (map occurrences ts)
occurrences-app n ts = ap occurrences (sym (tree.rolls-App n ts)) ∙ fold-roll-Tree (List (List ℕ)) occurrences_step (App n ts)

occurrences-meta : (m : List ℕ) (ts : List Tree) → occurrences (tree.Meta m ts) ≡ joined (map occurrences ts)
occurrences-meta m ts = ap occurrences (sym (tree.rolls-Meta m ts)) ∙ fold-roll-Tree (List (List ℕ)) occurrences_step (Meta m ts)

occurrences-bind : (b u : List ℕ) (domain body : Tree) → occurrences (tree.Bind b u domain body) ≡ b ∷ u ∷ (occurrences domain ++ occurrences body)
occurrences-bind b u domain body = ap occurrences (sym (tree.rolls-Bind b u domain body)) ∙ fold-roll-Tree (List (List ℕ)) occurrences_step (Bind b u domain body)

or_none : (a b : Bool) → (a || b) ≡ false → (a ≡ false) × (b ≡ false)
or_none true b e = cc
or_none false b e = (refl, e)

or_both : (a b : Bool) → a ≡ false → b ≡ false → (a || (b || false)) ≡ false
or_both a b e f = cc

-- a test that fails fails the other way round
other_way_step : (n w : List ℕ) (b : Bool) → pointwise nat_eq w n ≡ b → pointwise nat_eq n w ≡ false → b ≡ false
other_way_step n w false t e = refl
other_way_step n w true t e = let s : w ≡ n = same_text w n (sym t) in cc

other_way : (n w : List ℕ) → pointwise nat_eq n w ≡ false → pointwise nat_eq w n ≡ false
other_way n w e = other_way_step n w (pointwise nat_eq w n) refl e

place-one : (x n : List ℕ) → place (x ∷ []) n ≡ cond (pointwise nat_eq x n) (Some 0) None
place-one x n = place-is (x ∷ []) n

module _ (scope bound : List (List ℕ)) (v w : List ℕ) where
  abbrev new : List (List ℕ) → List (List ℕ)
  new inner = (bound ++ w ∷ []) ++ inner

  abbrev old : List (List ℕ) → List (List ℕ)
  old inner = (bound ++ v ∷ []) ++ inner

  abbrev Fresh : Tree → Type 0
  Fresh t = is_among (occurrences t) w ≡ false

  none_step : (inner : List (List ℕ)) (a : Option ℕ) → place inner w ≡ a → is_among inner w ≡ false → a ≡ None
  none_step inner None e f = refl
  none_step inner (Some i) e f = let t = is_among_some inner w i e in cc

  leaf_other : (inner : List (List ℕ)) (n : List ℕ) (b : Bool) → pointwise nat_eq v n ≡ b → place inner n ≡ None → pointwise nat_eq n w ≡ false → is_among inner w ≡ false → pointwise nat_eq w w ≡ true → leaf scope (new inner) (renamed_name v w inner n) ≡ leaf scope (old inner) n
  leaf_other inner n true t e f g r =
      let one : place (w ∷ []) w ≡ Some 0 = cc (place-one w w, r) in
      let two : place (v ∷ []) n ≡ Some 0 = cc (place-one v n, t) in
      let first : place (new inner) w ≡ Some (length inner + 0) = place-append (bound ++ w ∷ []) inner w ∙ ap (λ o. onto (length inner) o (place (bound ++ w ∷ []) w)) (none_step inner (place inner w) refl g) ∙ ap (onto (length inner) None) (place-append bound (w ∷ []) w ∙ ap (λ o. onto 1 o (place bound w)) one) in
      let second : place (old inner) n ≡ Some (length inner + 0) = place-append (bound ++ v ∷ []) inner n ∙ ap (λ o. onto (length inner) o (place (bound ++ v ∷ []) n)) e ∙ ap (onto (length inner) None) (place-append bound (v ∷ []) n ∙ ap (λ o. onto 1 o (place bound n)) two) in
      let name : renamed_name v w inner n ≡ w = cc (t, is_among_none inner n e) in
      ap (leaf scope (new inner)) name ∙ ap (leaf_at scope w) first ∙ sym (ap (leaf_at scope n) second)
  leaf_other inner n false t e f g r =
      cc (t, other_way n w f, is_among_none inner n e, place-append (bound ++ w ∷ []) inner n, place-append (bound ++ v ∷ []) inner n, place-append bound (w ∷ []) n, place-append bound (v ∷ []) n, place-one w n, place-one v n)

  leaf_case : (inner : List (List ℕ)) (n : List ℕ) (a : Option ℕ) → place inner n ≡ a → pointwise nat_eq n w ≡ false → is_among inner w ≡ false → pointwise nat_eq w w ≡ true → leaf scope (new inner) (renamed_name v w inner n) ≡ leaf scope (old inner) n
  leaf_case inner n (Some i) e f g r = cc (e, is_among_some inner n i e, place-append (bound ++ w ∷ []) inner n, place-append (bound ++ v ∷ []) inner n)
  leaf_case inner n None e f g r = leaf_other inner n (pointwise nat_eq v n) refl e f g r

  abbrev Alike : Tree → Type 0
  Alike t = (inner : List (List ℕ)) → Fresh t → is_among inner w ≡ false → pointwise nat_eq w w ≡ true → nameless scope (new inner) (renamed v w inner t) ≡ nameless scope (old inner) t

  alike_all : (inner : List (List ℕ)) (ts : List Tree) → AllByRecursion Alike ts → is_among (joined (map occurrences ts)) w ≡ false → is_among inner w ≡ false → pointwise nat_eq w w ≡ true → map (nameless scope (new inner)) (map (renamed v w inner) ts) ≡ map (nameless scope (old inner)) ts
  alike_all inner [] c f g r = refl
  alike_all inner (t ∷ ts) c f g r =
      let parts = or_none (is_among (occurrences t) w) (is_among (joined (map occurrences ts)) w) (sym (list_any-append _ (occurrences t) (joined (map occurrences ts))) ∙ f) in
      let head = c.0 inner parts.0 g r in
      let tail = alike_all inner ts c.1 parts.1 g r in
      cc

  alike_applied : (inner : List (List ℕ)) (n : List ℕ) (ts : List Tree) → pointwise nat_eq n w ≡ false → is_among inner w ≡ false → pointwise nat_eq w w ≡ true → map (nameless scope (new inner)) (map (renamed v w inner) ts) ≡ map (nameless scope (old inner)) ts → nameless scope (new inner) (renamed_application v w inner n (map (renamed v w inner) ts)) ≡ applied scope (old inner) n (map (nameless scope (old inner)) ts)
  alike_applied inner n [] f g r e = nameless-app scope (new inner) (renamed_name v w inner n) [] ∙ leaf_case inner n (place inner n) refl f g r
  alike_applied inner n (t ∷ ts) f g r e = nameless-app scope (new inner) n (map (renamed v w inner) (t ∷ ts)) ∙ ap (applied scope (new inner) n) e

  alike : (t : Tree) → Alike t
  alike = tree_ind Alike app meta bind
    where
      app : (n : List ℕ) (ts : List Tree) → AllByRecursion Alike ts → Alike (tree.App n ts)
      app n ts c inner f g r =
          let k : is_among (n ∷ joined (map occurrences ts)) w ≡ false = cc (occurrences-app n ts, f) in
          let parts = or_none (pointwise nat_eq n w) (is_among (joined (map occurrences ts)) w) k in
          ap (nameless scope (new inner)) (renamed-app v w inner n ts) ∙ alike_applied inner n ts parts.0 g r (alike_all inner ts c parts.1 g r) ∙ sym (nameless-app scope (old inner) n ts)

      meta : (m : List ℕ) (ts : List Tree) → AllByRecursion Alike ts → Alike (tree.Meta m ts)
      meta m ts c inner f g r =
          let k : is_among (joined (map occurrences ts)) w ≡ false = cc (occurrences-meta m ts, f) in
          cc (renamed-meta v w inner m ts, nameless-meta scope (new inner) m (map (renamed v w inner) ts), nameless-meta scope (old inner) m ts, alike_all inner ts c k g r)

      bind : (b u : List ℕ) (domain body : Tree) → Alike domain → Alike body → Alike (tree.Bind b u domain body)
      bind b u domain body c d inner f g r =
          let k : is_among (b ∷ u ∷ (occurrences domain ++ occurrences body)) w ≡ false = cc (occurrences-bind b u domain body, f) in
          let k1 = or_none (pointwise nat_eq b w) (is_among (u ∷ (occurrences domain ++ occurrences body)) w) k in
          let k2 = or_none (pointwise nat_eq u w) (is_among (occurrences domain ++ occurrences body) w) k1.1 in
          let k3 = or_none (is_among (occurrences domain) w) (is_among (occurrences body) w) (sym (list_any-append _ (occurrences domain) (occurrences body)) ∙ k2.1) in
          let deeper : is_among (inner ++ u ∷ []) w ≡ false = list_any-append _ inner (u ∷ []) ∙ or_both (is_among inner w) (pointwise nat_eq u w) g k2.0 in
          cc (renamed-bind v w inner b u domain body, nameless-bind scope (new inner) b u (renamed v w inner domain) (renamed v w (inner ++ u ∷ []) body), nameless-bind scope (old inner) b u domain body, append_assoc (bound ++ w ∷ []) inner (u ∷ []), append_assoc (bound ++ v ∷ []) inner (u ∷ []), c inner k3.0 g r, d (inner ++ u ∷ []) k3.1 deeper r)

append_none : (xs : List (List ℕ)) → xs ++ [] ≡ xs
append_none [] = refl
append_none (x ∷ xs) = ap (λ ys. x ∷ ys) (append_none xs)

same_self : (w : List ℕ) → pointwise nat_eq w w ≡ true
same_self w = search rules

pub renaming_is_free : RenamingIsFree
unfolding RenamingIsFree
renaming_is_free scope bound b v w domain body f = cc (nameless-bind scope bound b w domain (renamed v w [] body), nameless-bind scope bound b v domain body, alike scope bound v w body [] f refl (same_self w), append_none (bound ++ w ∷ []), append_none (bound ++ v ∷ []))
