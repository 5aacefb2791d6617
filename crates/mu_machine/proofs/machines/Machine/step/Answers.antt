use Rattle.std.proofs.Common.{◌≡◌, subst}
use Rattle.std.specs.Prelude.{IfOk}
use Rattle.mu_flat.specs.Entries.{Entries}
use Rattle.mu_machine.specs.Steps.{IsPlan, IsRoomFor, step}
use Rattle.mu_machine.proofs.Steps.{carried_sound, carried_step}
use Rattle.mu_machine.proofs.machines.Machine.step.Goals as goal

there : (c : goal.After-carry_out) → IsRoomFor c.self.inside.store c.args.room c.args.command c.in-Ok-Change.line
there c = subst (IsPlan c.self.inside.store c.args.room c.args.command) c.in-Ok-Change.field-0-is c.in-Ok-Change.ensures.value

pub invariant_of-self : goal.invariant_of-self
invariant_of-self c =
    carried_sound c.self.inside.store c.carry_out.new.store c.args.room c.args.command c.in-Ok-Change.line c.requires c.self.invariant (there c) c.carry_out.result c.carry_out.ensures.ok c.carry_out.ensures.err

pub returns-in-Ok-Change-clause-ok : goal.returns-in-Ok-Change-clause-ok
returns-in-Ok-Change-clause-ok c =
    subst (λ (e : Entries). IfOk c.carry_out.result (λ reply. step e c.args.room c.args.command ≡ record { entries = c.carry_out.new.store; reply = reply })) c.self.view_is
    (carried_step c.self.inside.store c.carry_out.new.store c.args.room c.args.command c.in-Ok-Change.line (there c) c.carry_out.result c.carry_out.ensures.ok)
