use Rattle.mu_text.proofs.Marks.{sees_is}
use Rattle.mu_text.proofs.parts.sees.Goals as goal

pub returns : goal.returns
returns c = sees_is c.args.mark c.args.reader.now c.is_sort.result (rw c.peek.ensures at c.is_sort.ensures)
