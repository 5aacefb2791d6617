-- What a command of the language declares may be stored.
use Rattle.mu_command.specs.Plain.{HasPlainNames}
use Rattle.mu_command.specs.declared.command.Command.{Command}
use Rattle.mu_command.specs.declared.command.Command.TheVariants.{Theory, Const, AlterConst, Axiom, Rule, AlterRule, Proof}
use Rattle.mu_edit.specs.Storable.{IsStorable}
use Rattle.mu_command.specs.Language.{IsCommand}
use Rattle.mu_command.proofs.Plain.{language_plain}

storable_so : (command : Command) → HasPlainNames command → IsStorable command
storable_so (Theory unit) plain = plain.0
storable_so (Const unit name shape result) plain = plain.1.0
storable_so (AlterConst name shape result) plain = plain.0
storable_so (Axiom unit rule claim) plain = plain.1.0
storable_so (Rule unit rule claim) plain = plain.1.0
storable_so (AlterRule rule claim) plain = plain.0
storable_so (Proof rule proof) plain = plain.0
storable_so _ plain = tt

pub storable : (command : Command) → IsCommand command → IsStorable command
storable command language = storable_so command (language_plain command language)
