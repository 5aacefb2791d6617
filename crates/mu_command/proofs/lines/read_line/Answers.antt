use Rattle.mu_command.proofs.Reading.{read_of_language}
use Rattle.mu_command.proofs.lines.read_line.Goals as goal

pub returns-clause-language : goal.returns-clause-language
returns-clause-language c = read_of_language c.args.line.now c.in_ok-read.field-0 c.in_ok-read.ensures
