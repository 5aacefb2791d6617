-- What holds of the definitions that the replies are stated by.
use Rattle.std.specs.Prelude.{◌≡◌, ℕ, List}
use Rattle.mu_defs.specs.DefinitionTables.{DefinitionCirclesAreExact}
use Rattle.mu_defs.specs.Units.{UnitCirclesAreExact}
use Rattle.mu_defs.specs.Uses.{UsesAreConstants}
use Rattle.mu_flat.specs.Entries.{IsValid, initial}
use Rattle.mu_flat.specs.Circles.{CirclesAreExact}
use Rattle.mu_status.specs.Statuses.{AreStatuses, status_at}
use Rattle.mu_command.specs.Language.{CommandsReadBack}
use Rattle.mu_command.specs.Lines.{IsRead}
use Rattle.mu_edit.specs.Repeats.{RepeatsAreFirst}
use Rattle.mu_machine.specs.Sound.{IsSound}
use Rattle.mu_print.specs.Laws.{ClaimsReadBack}
use Rattle.mural.specs.Replies.{entries_after, replies}

-- after two histories every rule has the same status, and all lines have the same replies
pub record AreAlike (first second : List (List ℕ)) : Type 0 where
  pub statuses : (rule : List ℕ) → status_at (entries_after initial first) rule ≡ status_at (entries_after initial second) rule
  pub replies_are : (lines : List (List ℕ)) → replies (entries_after initial first) lines ≡ replies (entries_after initial second) lines

-- the laws of the commands, of the status words and of the store
pub record Laws : Type 0 where
  -- a line is read as what its tokens say: one command, or the first column from which it is none
  pub reading : (line : List ℕ) → IsRead line
  -- the canonical text of a command reads as that command
  pub canonical : CommandsReadBack
  -- each claim that some text reads as is what its canonical text, which pages tell, reads as
  pub claims : ClaimsReadBack
  -- the status that is told of a rule is the one that fits, and what is established rests on axioms alone
  pub statuses : AreStatuses
  -- the name that a refusal for a circle tells is the first in byte order that leads back to itself: a theory by parents, a constant by definitions, a rule by citations
  pub parents : UnitCirclesAreExact
  pub definitions : DefinitionCirclesAreExact
  pub citations : CirclesAreExact
  -- what a definition leads to is the constants in it that no variable hides
  pub uses : UsesAreConstants
  -- the name that a refusal for a repeated one tells is the first, from the left, that an earlier one equals
  pub repeats : RepeatsAreFirst
  -- what is told depends on the store alone: two histories that lead to equal stores show the same
  pub alike : (first second : List (List ℕ)) → entries_after initial first ≡ entries_after initial second → AreAlike first second
  -- after any lines the store is valid: nothing leads back to itself, what is named as a container is there, and there is no more of each than there may be
  pub valid : (lines : List (List ℕ)) → IsValid (entries_after initial lines)
  -- and it is sound: each stored part stands in a command of the language, and no list of it repeats a name
  pub sound : (lines : List (List ℕ)) → IsSound (entries_after initial lines)
