use Rattle.std.proofs.Common.{◌≡◌, ℕ, zero, suc, refl, sym, ap, subst, ◌∙◌}
use Rattle.std.specs.Prelude.{IsTrue}
use Rattle.std.specs.Bool.{nat_eq}
use Rattle.std.specs.FinMap as finite
use Rattle.std.proofs.Math.Dec.{eqb-suc-zero}
use Rattle.std.proofs.lemmas.Bool.{false≢true}
use Rattle.mu_tree.proofs.table.Table.is_empty.Goals as goal

is_zero : (n : ℕ) → IsTrue (nat_eq n 0) → n ≡ 0
is_zero zero h = refl
is_zero (suc n) h = absurd (false≢true (sym (eqb-suc-zero n) ∙ h))

pub returns : goal.returns
returns g c = (
  (λ yes. finite.empty_of_len _ (sym c.len.ensures ∙ is_zero _ yes)),
  (λ none. subst (λ n. IsTrue (nat_eq n 0)) (sym (c.len.ensures ∙ ap finite.len none ∙ finite.len-empty _ _)) refl),
)
