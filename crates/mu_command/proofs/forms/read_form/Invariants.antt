use Rattle.std.proofs.Common.{◌≡◌, [], length}
use Rattle.mu_command.specs.Forms.{is_front, named}
use Rattle.mu_command.specs.Words.{read_words}
use Rattle.mu_command.proofs.forms.read_form.Given as goal

abbrev pub invariant-loop-longer : goal.invariant-loop-longer
invariant-loop-longer l = read_words named is_front l.front l.reader ≡ read_words named is_front [] l.initial.reader

abbrev pub decreases-loop-longer : goal.decreases-loop-longer
decreases-loop-longer l = length l.reader
