use Rattle.std.proofs.Common.{arith, refl, ℕ, Bool, true, false, ◌≡◌, ◌+◌, cond, ap, ◌∙◌, count_by}
use mir.Val.{bool_byte}
use Rattle.std.specs.Bool.{nat_eq}
use Rattle.std.specs.Cmp.Lexicographic.{pointwise}
use Rattle.mu_proof.specs.Items.{has_label, all_in, all_items}
use Rattle.mu_proof.proofs.WeightLemmas.{weight-block}
use Rattle.mu_proof.proofs.walks.+count_label.Goals as goal

one_or_none : (b : Bool) → bool_byte b ≡ cond b 1 0
one_or_none true = refl
one_or_none false = refl

pub count_label-returns-in-Block : goal.count_label-returns-in-Block
count_label-returns-in-Block t c =
    let label = c.args.label.now in
    let own : c.from-own.result ≡ cond (has_label label c.args.item.now) 1 0 = c.from-own.ensures ∙ one_or_none c.eq.result ∙ ap (λ (b : Bool). cond {A = ℕ} b 1 0) (c.eq.ensures ∙ ap (λ name. pointwise nat_eq name label) c.label.ensures) in
    let all : count_by (has_label label) (all_in c.args.item.now) ≡ cond (has_label label c.args.item.now) 1 0 + count_by (has_label label) (all_items c.in-Block.items) =
    rw c.in-Block.is (weight-block (λ i. cond (has_label label i) 1 0) c.in-Block.label c.in-Block.vars c.in-Block.assumptions c.in-Block.items) in
    let inner = ap (λ items. count_by (has_label label) (all_items items)) c.items.ensures in
    omega arith
