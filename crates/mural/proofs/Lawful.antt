-- The laws hold.
use Rattle.mu_status.specs.Statuses.{StatusesAreExact}
use Rattle.mu_status.proofs.Standing.{statuses_are_exact}
use Rattle.mu_command.specs.Lines.{ReadingIsExact}
use Rattle.mu_command.proofs.Reading.{reading_is_exact}
use Rattle.mu_command.proofs.Back.{commands_read_back}
use Rattle.mu_defs.proofs.DefinitionLemmas.{definition_circles_are_exact}
use Rattle.mu_defs.proofs.UnitLemmas.{unit_circles_are_exact}
use Rattle.mu_defs.proofs.UseLemmas.{uses_are_constants}
use Rattle.mu_flat.proofs.FirstCircle.{circles_are_exact}
use Rattle.mu_print.proofs.ClaimsBack.{claims_read_back}
use Rattle.mural.specs.Laws.{Laws}
use Rattle.mu_edit.proofs.RepeatLemmas.{repeats_are_first}
use Rattle.mural.proofs.Valid.{alike_after, reached_sound, reached_valid}

pub laws_hold : Laws
unfolding ReadingIsExact StatusesAreExact
laws_hold = record { reading = reading_is_exact; canonical = commands_read_back; claims = claims_read_back; statuses = statuses_are_exact; parents = unit_circles_are_exact; definitions = definition_circles_are_exact; citations = circles_are_exact; uses = uses_are_constants; repeats = repeats_are_first; alike = alike_after; valid = reached_valid; sound = reached_sound }
