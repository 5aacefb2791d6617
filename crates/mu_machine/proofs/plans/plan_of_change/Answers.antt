use Rattle.std.proofs.Common.{◌∙◌, sym, ap}
use Rattle.mu_machine.specs.Steps.{full_refusal}
use Rattle.mu_machine.proofs.Steps.{has_no_room, or_full, too_long}
use Rattle.mu_machine.proofs.plans.plan_of_change.Goals as goal

pub returns : goal.returns
returns c =
    has_no_room c.args.store.now c.args.room c.args.command.now c.in_ok-refusal.field-0 c.unwrap_or-refused.result c.requires
    (ap (full_refusal c.args.room) (sym c.in_ok-line.ensures.value) ∙ too_long c.args.room _ (sym c.has_room.ensures ∙ c.if-has_room.false))
    (sym c.in_ok-refusal.ensures) (or_full _ _ c.unwrap_or-refused.ensures)
