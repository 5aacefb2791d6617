use Rattle.std.proofs.Common.{take}
use Rattle.std.specs.Option.{option_copied}
use Rattle.mu_graph.specs.Told.{IsLeastTold}
use Rattle.mu_graph.proofs.told.least_told.Given as goal

abbrev pub invariant-loop-key : goal.invariant-loop-key
invariant-loop-key g l = IsLeastTold g.S.ToldSet.named (take l.key-index l.keys) (option_copied l.least)
