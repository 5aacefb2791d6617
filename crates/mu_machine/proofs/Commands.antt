-- Commands that are of none of some forms.
use Rattle.std.proofs.Common.{◌≡◌, ℕ, List, None, refl}
use Rattle.mu_flat.specs.Entries.{Entries}
use Rattle.mu_command.specs.declared.command.Command.{Command}
use Rattle.mu_command.specs.declared.command.Command.TheVariants.{Status, ShowUnit, ShowRule, ShowProof}
use Rattle.mu_machine.specs.Queries.{queried}

-- no other command is a query
pub asks_nothing : (e : Entries) (c : Command) → ((rule : List ℕ) → c ≡ Status rule → ⊥) → ((unit : List ℕ) → c ≡ ShowUnit unit → ⊥) → ((rule : List ℕ) → c ≡ ShowRule rule → ⊥) → ((rule proof : List ℕ) → c ≡ ShowProof rule proof → ⊥) → None ≡ queried e c
unfolding queried
asks_nothing e (Status rule) status theory shown page = absurd (status rule refl)
asks_nothing e (ShowUnit unit) status theory shown page = absurd (theory unit refl)
asks_nothing e (ShowRule rule) status theory shown page = absurd (shown rule refl)
asks_nothing e (ShowProof rule proof) status theory shown page = absurd (page rule proof refl)
asks_nothing e _ status theory shown page = refl
