-- How many rules have each status.
use Rattle.std.specs.Prelude.{ℕ, Bool, true, false, List, length, map, Option, Some}
use Rattle.std.specs.List.{filter}
use Rattle.std.specs.FinMap as finite
use Rattle.mu_flat.specs.Entries.{Entries}
use Rattle.mu_status.specs.Statuses.{status_at}
use Rattle.mu_status.specs.declared.statuses.RuleStatus.{RuleStatus}
use Rattle.mu_status.specs.declared.statuses.RuleStatus.TheVariants.{IllFormed, Established, Complete, Incomplete, Unproved}
use Rattle.mu_machine.specs.declared.tallies.Tally.{Tally}

-- whether a status, if there is one, is the one that is looked for
abbrev pub is_status : RuleStatus → Option RuleStatus → Bool
is_status Established (Some Established) = true
is_status Complete (Some Complete) = true
is_status Incomplete (Some Incomplete) = true
is_status Unproved (Some Unproved) = true
is_status IllFormed (Some IllFormed) = true
is_status _ _ = false

-- how many of some statuses are the one that is looked for
abbrev pub count_of : RuleStatus → List (Option RuleStatus) → ℕ
count_of status found = length (filter (is_status status) found)

-- how many of some statuses are each of the five
abbrev pub tally_of : List (Option RuleStatus) → Tally
tally_of found = record {
  established = count_of Established found;
  complete = count_of Complete found;
  incomplete = count_of Incomplete found;
  unproved = count_of Unproved found;
  ill_formed = count_of IllFormed found;
}

-- how many of the stored rules, axioms among them, have each status
abbrev pub tallied : Entries → Tally
tallied e = tally_of (map (status_at e) (finite.keys e.rules))
