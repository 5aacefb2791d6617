use Rattle.std.proofs.Common.{◌≡◌, ◌∙◌, sym, ap, subst, ℕ, List, None, Some}
use Rattle.std.specs.Prelude.{OnOk, IfErr}
use Rattle.std.specs.Option.{option_map}
use Rattle.mu_tree.specs.Maps.{MapOf, NamesOf}
use Rattle.mu_tree.specs.declared.refusal.Refusal.TheVariants.{Circle}
use Rattle.mu_defs.specs.declared.fault.CircleFault.TheVariants as circle
use Rattle.mu_edit.specs.Changes.{refusal, Tests, unknown_unless, taken_where, builtin_where}
use Rattle.mu_edit.proofs.TestLemmas.{tells, free_of, next_test, last_test}
use Rattle.mu_defs.specs.Base.{is_base}
use Rattle.mu_defs.specs.Units.{first_unit, is_parent, with_parent}
use Rattle.mu_edit.proofs.permits.permit_parent.Goals as goal

-- what is told of circles
told : (c : goal.After-no_circle) → Tests (option_map Circle (first_unit (with_parent c.args.store.now.units c.args.unit.now c.args.parent.now))) c.no_circle.result
told c = c.no_circle.ensures (first_unit (with_parent c.args.store.now.units c.args.unit.now c.args.parent.now)) (tells (first_unit (with_parent c.args.store.now.units c.args.unit.now c.args.parent.now)) c.permit_parent.result
    (subst (λ (here : MapOf NamesOf). OnOk c.permit_parent.result (first_unit (with_parent here c.args.unit.now c.args.parent.now) ≡ None)) c.units-2.ensures c.permit_parent.ensures.ok)
    (subst (λ (here : MapOf NamesOf). IfErr c.permit_parent.result (λ blame. (name : List ℕ) → blame ≡ circle.Circle name → first_unit (with_parent here c.args.unit.now c.args.parent.now) ≡ Some name)) c.units-2.ensures c.permit_parent.ensures.circle))

pub returns-clause-free : goal.returns-clause-free
returns-clause-free c = free_of (first_unit (with_parent c.args.store.now.units c.args.unit.now c.args.parent.now)) c.no_circle.result (told c)

pub returns-clause-reason : goal.returns-clause-reason
unfolding refusal
returns-clause-reason c =
    next_test _ _ c.no_circle.result (ap (λ b. unknown_unless b c.args.unit.now) (sym c.has_unit.ensures) ∙ c.in_ok-expect.ensures)
    (next_test _ _ c.no_circle.result (ap (λ b. taken_where b c.args.parent.now) (sym (c.has_parent.ensures ∙ ap (λ units. is_parent units c.args.unit.now c.args.parent.now) c.units.ensures)) ∙ c.in_ok-expect_new.ensures)
    (next_test _ _ c.no_circle.result (ap (λ b. builtin_where b c.args.unit.now) (sym (c.is_base.ensures ∙ ap is_base c.bytes.ensures.all)) ∙ c.in_ok-expect_own.ensures) (last_test _ c.no_circle.result (told c))))
