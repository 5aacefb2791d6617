use Rattle.std.proofs.Common.{◌≡◌, ◌∙◌, sym, ap, subst, ℕ, List, None, Some}
use Rattle.std.specs.Prelude.{OnOk, IfErr}
use Rattle.std.specs.Option.{option_map}
use Rattle.mu_tree.specs.Maps.{MapOf}
use Rattle.mu_tree.specs.declared.refusal.Refusal.TheVariants.{Circle}
use Rattle.mu_defs.specs.declared.fault.CircleFault.TheVariants as circle
use Rattle.mu_edit.specs.Changes.{refusal, Tests, unknown_unless, builtin_where}
use Rattle.mu_edit.proofs.TestLemmas.{tells, free_of, next_test, last_test}
use Rattle.std.specs.FinMap as finite
use Rattle.mu_tree.specs.declared.claim.Definition.{Definition}
use Rattle.mu_defs.specs.Base.{is_base_constant}
use Rattle.mu_defs.specs.DefinitionTables.{first_constant}
use Rattle.mu_edit.specs.Distinct.{repeated_name}
use Rattle.mu_edit.proofs.permits.permit_definition.Goals as goal

-- what is told of circles
told : (c : goal.After-no_circle) → Tests (option_map Circle (first_constant (finite.insert c.args.store.now.definitions c.args.name.now c.args.definition.now))) c.no_circle.result
told c = c.no_circle.ensures (first_constant (finite.insert c.args.store.now.definitions c.args.name.now c.args.definition.now)) (tells (first_constant (finite.insert c.args.store.now.definitions c.args.name.now c.args.definition.now)) c.permit.result
    (subst (λ (here : MapOf Definition). OnOk c.permit.result (first_constant (finite.insert here c.args.name.now c.args.definition.now) ≡ None)) c.definitions.ensures c.permit.ensures.ok)
    (subst (λ (here : MapOf Definition). IfErr c.permit.result (λ blame. (name : List ℕ) → blame ≡ circle.Circle name → first_constant (finite.insert here c.args.name.now c.args.definition.now) ≡ Some name)) c.definitions.ensures c.permit.ensures.circle))

pub returns-clause-free : goal.returns-clause-free
returns-clause-free c = free_of (first_constant (finite.insert c.args.store.now.definitions c.args.name.now c.args.definition.now)) c.no_circle.result (told c)

pub returns-clause-reason : goal.returns-clause-reason
unfolding refusal
returns-clause-reason c =
    next_test _ _ c.no_circle.result (ap (λ b. unknown_unless b c.args.name.now) (sym c.has_constant.ensures) ∙ c.in_ok-expect.ensures)
    (next_test _ _ c.no_circle.result (ap repeated_name (sym c.items.ensures) ∙ c.in_ok-names_differ.ensures.ok)
    (next_test _ _ c.no_circle.result (ap (λ b. builtin_where b c.args.name.now) (sym (c.is_base_constant.ensures ∙ ap is_base_constant c.bytes.ensures.all)) ∙ c.in_ok-expect_own.ensures) (last_test _ c.no_circle.result (told c))))
