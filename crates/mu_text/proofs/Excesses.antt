-- The limits that were raised, put together of parts.
use Rattle.std.proofs.Common.{◌≡◌, ℕ, ◌<◌, ◌≤◌, Bool, true, false, List, [], ◌∷◌, ◌++◌, refl, ap, sym, ◌∙◌, subst, append-nil, arith}
use Rattle.std.specs.Prelude.{nat_lt, ◌||◌}
use Rattle.std.specs.List.{list_any}
use Rattle.std.proofs.lemmas.Bool.Decides.{nat_tests}
use Rattle.mu_text.specs.declared.operand.Operand.{Operand}
use Rattle.mu_grammar.specs.declared.excess.Excess.{Excess}
use Rattle.mu_grammar.specs.Lexemes.{Lexeme}
use Rattle.mu_grammar.specs.Parts.{Out, Read, StandsEach}
use Rattle.mu_grammar.specs.Writings.{Writing, nodes, deep, Short, Kept}
use Rattle.mu_text.specs.Reads.{capped, Stands}
use Rattle.mu_text.proofs.Turns.{each_more}
pub use Rattle.mu_grammar.proofs.Together.{all_parts, neither, same_excess, none_together}
use Rattle.mu_grammar.specs.Excesses.{is_large, is_deep, excess_of, no_excess, raised, in_each, one_tree, Raising, StandsTree}

or_assoc : (a b c : Bool) → ((a || b) || c) ≡ (a || (b || c))
or_assoc true b c = refl
or_assoc false b c = refl

-- trees one behind the other
pub raised-append : (ws vs : List Writing) (e : Excess) → raised (ws ++ vs) e ≡ raised vs (raised ws e)
raised-append [] vs e = refl
raised-append (w ∷ ws) vs e = raised-append ws vs (record { nodes = e.nodes || is_large w; depth = e.depth || is_deep w })

-- the limits that were raised by some trees and then by others
pub raised_both : (ws vs : List Writing) (start mid now : Excess) → mid ≡ raised ws start → now ≡ raised vs mid → now ≡ raised (ws ++ vs) start
raised_both ws vs start mid now i j = j ∙ (ap (raised vs) i ∙ sym (raised-append ws vs start))

raised_is : (ws : List Writing) (e : Excess) → raised ws e ≡ record { nodes = e.nodes || list_any is_large ws; depth = e.depth || list_any is_deep ws }
raised_is [] e = same_excess e (record { nodes = e.nodes || false; depth = e.depth || false }) (or_false e.nodes) (or_false e.depth)
  where
    or_false : (b : Bool) → b ≡ (b || false)
    or_false true = refl
    or_false false = refl
raised_is (w ∷ ws) e =
    raised_is ws (record { nodes = e.nodes || is_large w; depth = e.depth || is_deep w })
    ∙ same_excess _ _ (or_assoc e.nodes (is_large w) (list_any is_large ws)) (or_assoc e.depth (is_deep w) (list_any is_deep ws))

-- from the beginning on, the limits that are raised are those that the trees pass
pub raised-none : (ws : List Writing) → raised ws no_excess ≡ excess_of ws
raised-none ws = raised_is ws no_excess

above : (n m limit : ℕ) → limit < 5000 → m ≡ capped n → nat_lt limit m ≡ nat_lt limit n
above n m limit h e = rw e (grind (arith, nat_tests))

within : (n limit : ℕ) → nat_lt limit n ≡ false → n ≤ limit
within n limit e = grind (arith, nat_tests)

-- a tree alone
pub tree_raised : (w : Writing) (o : Operand) (before now : Excess) → Stands w o → now.nodes ≡ (before.nodes || nat_lt 4096 o.size) → now.depth ≡ (before.depth || nat_lt 200 o.depth)
    → Raising StandsTree one_tree before now w o.tree
tree_raised w o before now s i j = (
  λ k. sym (s.tree_is k),
  same_excess now (raised (w ∷ []) before)
      (i ∙ ap (λ b. before.nodes || b) (above (nodes w) o.size 4096 (omega arith) s.size_is))
      (j ∙ ap (λ b. before.depth || b) (above (deep w) o.depth 200 (omega arith) s.depth_is)),
)

-- where a tree passes no limit and its names are within theirs, it is kept
pub tree_kept : (w : Writing) → Short w → excess_of (one_tree w) ≡ no_excess → Kept w
tree_kept w short e =
    let large = neither (is_large w) false (ap (λ x. x.nodes) e) in
    let far = neither (is_deep w) false (ap (λ x. x.depth) e) in
    (short, within (nodes w) 4096 large.0, within (deep w) 200 far.0)

module _ {A B : Type 0} (S : A → B → Type 0) (trees : A → List Writing) where
  -- several values that stand for the spelled ones, with the limits that their trees pass
  abbrev pub RaisingEach : Excess → List A → Excess × List B → Type 0
  RaisingEach start xs c = Raising (StandsEach S) (in_each trees) start c.0 xs c.1

  in_each-more : (xs : List A) (x : A) (e : Excess) → raised (in_each trees (xs ++ (x ∷ []))) e ≡ raised (trees x) (raised (in_each trees xs) e)
  in_each-more [] x e = ap (λ l. raised l e) (append-nil (trees x))
  in_each-more (y ∷ xs) x e =
      raised-append (trees y) (in_each trees (xs ++ (x ∷ []))) e
      ∙ (in_each-more xs x (raised (trees y) e) ∙ ap (raised (trees x)) (sym (raised-append (trees y) (in_each trees xs) e)))

  -- the first of several
  pub first_raised : (start now : Excess) (x : A) (y : B) (none ys : List B) → Raising S trees start now x y → none ≡ [] → ys ≡ none ++ (y ∷ []) → RaisingEach start (x ∷ []) (now, ys)
  first_raised start now x y none ys r n i =
      let one : ys ≡ y ∷ [] = i ∙ ap (λ l. l ++ (y ∷ [])) n in
      (subst (λ (l : List B). StandsEach S (x ∷ []) l) (sym one) (r.0, tt), r.1 ∙ sym (in_each-more [] x start))

  -- one more of several
  pub next_raised : (start mid now : Excess) (xs : List A) (ys zs : List B) (x : A) (y : B) → RaisingEach start xs (mid, ys) → Raising S trees mid now x y → zs ≡ ys ++ (y ∷ [])
      → RaisingEach start (xs ++ (x ∷ [])) (now, zs)
  next_raised start mid now xs ys zs x y all r i = (
    subst (λ (l : List B). StandsEach S (xs ++ (x ∷ [])) l) (sym i) (each_more S xs ys x y all.0 r.0),
    r.1 ∙ (ap (raised (trees x)) all.1 ∙ sym (in_each-more xs x start)),
  )

  -- all of them, in a list of its own
  pub all_raised : (start now : Excess) (out : Out (List A)) (ys zs : List B) (rest : List Lexeme) → Read (RaisingEach start) out (now, ys) rest → zs ≡ ys → Read (Raising (StandsEach S) (in_each trees) start now) out zs rest
  all_raised start now out ys zs rest r e = record {
    value = r.value;
    is = r.is;
    stands = (subst (λ (l : List B). StandsEach S r.value l) (sym e) r.stands.0, r.stands.1);
  }
