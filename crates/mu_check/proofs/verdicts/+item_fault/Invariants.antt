use Rattle.std.proofs.Common.{◌≡◌, drop, map}
use Rattle.mu_check.specs.Environments.{Keeps}
use Rattle.mu_check.specs.Verdicts.{checked, in_order}
use Rattle.mu_check.proofs.verdicts.+item_fault.Given as goal

abbrev pub invariant-items_fault-loop-item : goal.invariant-items_fault-loop-item
invariant-items_fault-loop-item g l = record {
  fault : in_order (map (checked (g.C.Context.world l.context) l.allowed) l.items) l.initial.environment ≡ in_order (map (checked (g.C.Context.world l.context) l.allowed) (drop l.item-index l.items)) l.environment;
  hyps : l.environment.hyps ≡ l.initial.environment.hyps;
  kept : Keeps l.initial.environment l.environment;
}
