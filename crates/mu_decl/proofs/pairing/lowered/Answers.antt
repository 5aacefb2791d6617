use Rattle.std.proofs.Common.{◌≡◌, true, false, refl, sym, ◌∙◌}
use Rattle.mu_decl.specs.Opening.{shift_under}
use Rattle.mu_decl.proofs.InStep.{only_before, none_before}
use Rattle.mu_decl.proofs.pairing.lowered.Goals as goal

pub returns-then-branch : goal.returns-then-branch
returns-then-branch c = only_before c.in_ok-low.ensures.0 c.args.by c.in_ok-low.low (shift_under c.args.by 0 c.in_ok-low.low) c.args.tree.now c.in_ok-low.ensures.1 c.in_ok-low.ensures.2 refl (c.in_ok-is_put_back.ensures.0 c.if-branch.true)

pub returns-else-branch : goal.returns-else-branch
returns-else-branch c = none_before c.in_ok-low.ensures.0 c.args.by c.in_ok-low.low (shift_under c.args.by 0 c.in_ok-low.low) c.args.tree.now c.in_ok-low.ensures.1 c.in_ok-low.ensures.2 refl (λ s. let y : false ≡ true = sym c.if-branch.false ∙ c.in_ok-is_put_back.ensures.1 s in let z : ⊥ = cc y in z)
