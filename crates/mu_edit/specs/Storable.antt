-- What a command stores may be stored.
use Rattle.mu_flat.specs.Entries.{IsPlain}
use Rattle.mu_command.specs.declared.command.Command.{Command}
use Rattle.mu_command.specs.declared.command.Command.TheVariants as command

-- what a command declares has a plain name
abbrev pub IsStorable : Command → Type 0
IsStorable (command.Theory unit) = IsPlain unit
IsStorable (command.Const unit name shape result) = IsPlain name
IsStorable (command.AlterConst name shape result) = IsPlain name
IsStorable (command.Axiom unit rule claim) = IsPlain rule
IsStorable (command.Rule unit rule claim) = IsPlain rule
IsStorable (command.AlterRule rule claim) = IsPlain rule
IsStorable (command.Proof rule proof) = IsPlain proof
IsStorable _ = Unit {0}
