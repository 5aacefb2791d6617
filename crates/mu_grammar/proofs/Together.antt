-- What holds of the parts of a list holds of the whole, and back.
use Rattle.std.proofs.Common.{◌≡◌, Bool, true, false, List, [], ◌∷◌, ◌++◌, refl, ap, sym, ◌∙◌}
use Rattle.std.specs.Prelude.{◌||◌}
use Rattle.std.specs.List.{list_any, AllByRecursion}
use Rattle.std.proofs.lemmas.List.Folds.{list_any-append}
use Rattle.mu_grammar.specs.declared.excess.Excess.{Excess}
use Rattle.mu_grammar.specs.Writings.{Writing}
use Rattle.mu_grammar.specs.Excesses.{is_large, is_deep, excess_of, no_excess}

pub all_parts : {A : Type 0} (P : A → Type 0) (xs ys : List A) → AllByRecursion P (xs ++ ys) → AllByRecursion P xs × AllByRecursion P ys
all_parts P [] ys h = (tt, h)
all_parts P (x ∷ xs) ys h = let rest = all_parts P xs ys h.1 in ((h.0, rest.0), rest.1)

pub all_together : {A : Type 0} (P : A → Type 0) (xs ys : List A) → AllByRecursion P xs → AllByRecursion P ys → AllByRecursion P (xs ++ ys)
all_together P [] ys h i = i
all_together P (x ∷ xs) ys h i = (h.0, all_together P xs ys h.1 i)

pub neither : (a b : Bool) → (a || b) ≡ false → (a ≡ false) × (b ≡ false)
neither true b e = cc
neither false b e = (refl, e)

both_false : (a b : Bool) → a ≡ false → b ≡ false → (a || b) ≡ false
both_false true b e i = cc
both_false false b e i = i

pub same_excess : (e f : Excess) → e.nodes ≡ f.nodes → e.depth ≡ f.depth → e ≡ f
same_excess e f i j = ap (λ b. record { nodes = b; depth = e.depth }) i ∙ ap (λ b. record { nodes = f.nodes; depth = b }) j

pub none_together : (ws vs : List Writing) → excess_of (ws ++ vs) ≡ no_excess → (excess_of ws ≡ no_excess) × (excess_of vs ≡ no_excess)
none_together ws vs e =
    let large = neither (list_any is_large ws) (list_any is_large vs) (sym (list_any-append is_large ws vs) ∙ ap (λ x. x.nodes) e) in
    let deep = neither (list_any is_deep ws) (list_any is_deep vs) (sym (list_any-append is_deep ws vs) ∙ ap (λ x. x.depth) e) in
    (same_excess (excess_of ws) no_excess large.0 deep.0, same_excess (excess_of vs) no_excess large.1 deep.1)

-- where no limit is passed in either part, none is passed in both
pub none_of_both : (ws vs : List Writing) → excess_of ws ≡ no_excess → excess_of vs ≡ no_excess → excess_of (ws ++ vs) ≡ no_excess
none_of_both ws vs e f =
    same_excess (excess_of (ws ++ vs)) no_excess
    (list_any-append is_large ws vs ∙ both_false (list_any is_large ws) (list_any is_large vs) (ap (λ x. x.nodes) e) (ap (λ x. x.nodes) f))
    (list_any-append is_deep ws vs ∙ both_false (list_any is_deep ws) (list_any is_deep vs) (ap (λ x. x.depth) e) (ap (λ x. x.depth) f))
