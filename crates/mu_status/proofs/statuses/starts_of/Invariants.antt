use Rattle.std.proofs.Common.{◌≡◌, take}
use Rattle.mu_status.specs.Books.{starts_of}
use Rattle.mu_status.proofs.statuses.starts_of.Given as goal

abbrev pub invariant-loop-name : goal.invariant-loop-name
invariant-loop-name l = l.starts.items ≡ starts_of l.store (take l.name-index l.names)
