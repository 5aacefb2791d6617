use Rattle.std.proofs.Common.{take}
use Rattle.mu_check.specs.Metas.{Tells}
use Rattle.mu_check.proofs.metas.tabled.Given as goal

abbrev pub invariant-loop-occurrence : goal.invariant-loop-occurrence
invariant-loop-occurrence l = Tells l.table (take l.occurrence-index l.all)
