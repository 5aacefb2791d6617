use Rattle.std.proofs.Common.{◌≡◌, take}
use Rattle.mu_defs.specs.Indexes.{with_all}
use Rattle.mu_defs.proofs.indexes.Index.add_all.Given as goal

abbrev pub invariant-loop-name : goal.invariant-loop-name
invariant-loop-name l = l.self ≡ with_all l.initial.self (take l.name-index l.names) l.member
