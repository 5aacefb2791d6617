-- What the parts of a command that is lent say.
use Rattle.mu_command.specs.declared.parts.Field.{Field}
use Rattle.mu_command.specs.declared.parts.Field.TheVariants as field
use Rattle.mu_command.specs.declared.parts.Shown.{Shown}
use Rattle.mu_command.specs.declared.parts.Shown.TheVariants as shown

-- the field that is lent
abbrev pub shown_as : Shown → Field
shown_as (shown.Name name) = field.Name name.now
shown_as (shown.Declaration name shape result) = field.Declaration (record { name = name.now; shape = shape.now; result = result })
shown_as (shown.Formals names) = field.Formals names.now
shown_as (shown.Before item) = field.Before item.now
shown_as (shown.Tree tree) = field.Tree tree.now
shown_as (shown.Claim claim) = field.Claim claim.now
shown_as (shown.Reason why) = field.Reason why.now
shown_as (shown.Block vars assumptions) = field.Block vars.now assumptions.now
