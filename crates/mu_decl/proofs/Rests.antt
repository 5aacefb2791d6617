-- Loops over two lists at once: what is left to do.
use Rattle.std.proofs.Common.{◌≡◌, ℕ, zero, suc, ◌+◌, ◌<◌, Bool, true, false, List, [], ◌∷◌, ◌++◌, ◌&&◌, length, map, drop, get_or, ap, sym, ◌∙◌, arith, add-one}
use Rattle.std.proofs.lemmas.List.{append_assoc}
use Rattle.std.specs.Cmp.Lexicographic.{pointwise}
use Rattle.mu_tree.specs.declared.trees.Tree.{Tree}
use Rattle.mu_tree.specs.declared.claim.Kind.{Kind}
use Rattle.mu_tree.specs.declared.claim.Kind.TheVariants.{E}
use Rattle.mu_decl.specs.declared.occurring.Occurrence.{Occurrence}
use Rattle.mu_decl.specs.Formation.{spread, kind_at}

spread_none : (f : Tree → Kind → List Occurrence) (trees : List Tree) (i : ℕ) (t : Tree) → i < length trees → get_or trees i t ≡ t → spread [] (map f (drop i trees)) ≡ f t E ++ spread [] (map f (drop (suc i) trees))
spread_none f [] i t h e = absurd (omega arith)
spread_none f (x ∷ trees) zero t h e = ap (λ y. f y E ++ spread [] (map f trees)) e
spread_none f (x ∷ trees) (suc i) t h e = spread_none f trees i t (omega arith) e

spread_suc : (f : Tree → Kind → List Occurrence) (kinds : List Kind) (trees : List Tree) (i : ℕ) (t : Tree) → i < length trees → get_or trees i t ≡ t → spread (drop i kinds) (map f (drop i trees)) ≡ f t (kind_at kinds i) ++ spread (drop (suc i) kinds) (map f (drop (suc i) trees))
spread_suc f kinds [] i t h e = absurd (omega arith)
spread_suc f [] (x ∷ trees) zero t h e = ap (λ y. f y E ++ spread [] (map f trees)) e
spread_suc f (k ∷ kinds) (x ∷ trees) zero t h e = ap (λ y. f y k ++ spread kinds (map f trees)) e
spread_suc f [] (x ∷ trees) (suc i) t h e = spread_none f trees i t (omega arith) e
spread_suc f (k ∷ kinds) (x ∷ trees) (suc i) t h e = spread_suc f kinds trees i t (omega arith) e

pub spread_rest : (f : Tree → Kind → List Occurrence) (kinds : List Kind) (trees : List Tree) (i : ℕ) (t : Tree) → i < length trees → t ≡ get_or trees i t → spread (drop i kinds) (map f (drop i trees)) ≡ f t (kind_at kinds i) ++ spread (drop (i + 1) kinds) (map f (drop (i + 1) trees))
spread_rest f kinds trees i t h e = rw (add-one) (spread_suc f kinds trees i t h (sym e))

pointwise_suc : (f : Kind → Tree → Bool) (kinds : List Kind) (trees : List Tree) (i : ℕ) (t : Tree) → i < length kinds → i < length trees → get_or trees i t ≡ t → pointwise f (drop i kinds) (drop i trees) ≡ (f (kind_at kinds i) t && pointwise f (drop (suc i) kinds) (drop (suc i) trees))
pointwise_suc f [] trees i t k h e = absurd (omega arith)
pointwise_suc f (k ∷ kinds) [] i t l h e = absurd (omega arith)
pointwise_suc f (k ∷ kinds) (x ∷ trees) zero t l h e = ap (λ y. f k y && pointwise f kinds trees) e
pointwise_suc f (k ∷ kinds) (x ∷ trees) (suc i) t l h e = pointwise_suc f kinds trees i t (omega arith) (omega arith) e

pub pointwise_rest : (f : Kind → Tree → Bool) (kinds : List Kind) (trees : List Tree) (i : ℕ) (t : Tree) → i < length kinds → i < length trees → t ≡ get_or trees i t → pointwise f (drop i kinds) (drop i trees) ≡ (f (kind_at kinds i) t && pointwise f (drop (i + 1) kinds) (drop (i + 1) trees))
pointwise_rest f kinds trees i t l h e = rw (add-one) (pointwise_suc f kinds trees i t l h (sym e))

and_false : (a b : Bool) → a ≡ false → (a && b) ≡ false
and_false a b e = ap (λ x. x && b) e

and_true : (a b : Bool) → a ≡ true → (a && b) ≡ b
and_true a b e = ap (λ x. x && b) e

pub pointwise_stop : (f : Kind → Tree → Bool) (kinds : List Kind) (trees : List Tree) (i : ℕ) (t : Tree) → i < length kinds → i < length trees → t ≡ get_or trees i t → f (kind_at kinds i) t ≡ false → pointwise f (drop i kinds) (drop i trees) ≡ false
pointwise_stop f kinds trees i t l h e u = pointwise_rest f kinds trees i t l h e ∙ and_false (f (kind_at kinds i) t) (pointwise f (drop (i + 1) kinds) (drop (i + 1) trees)) u

pub pointwise_go : (f : Kind → Tree → Bool) (kinds : List Kind) (trees : List Tree) (i : ℕ) (t : Tree) → i < length kinds → i < length trees → t ≡ get_or trees i t → f (kind_at kinds i) t ≡ true → pointwise f (drop i kinds) (drop i trees) ≡ pointwise f (drop (i + 1) kinds) (drop (i + 1) trees)
pointwise_go f kinds trees i t l h e u = pointwise_rest f kinds trees i t l h e ∙ and_true (f (kind_at kinds i) t) (pointwise f (drop (i + 1) kinds) (drop (i + 1) trees)) u

pub added : (a b c : List Occurrence) → (a ++ b) ++ c ≡ a ++ (b ++ c)
added a b c = append_assoc a b c
