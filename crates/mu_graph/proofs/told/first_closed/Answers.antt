use Rattle.std.proofs.Common.{sym, subst, Some, None}
use Rattle.std.specs.Option.{option_copied}
use Rattle.mu_graph.specs.Told.{IsLeastTold, IsFirstClosed}
use Rattle.mu_graph.specs.Walks.{IsLedTo}
use Rattle.mu_graph.proofs.ToldLemmas.{apart_none, least_closed}
use Rattle.mu_graph.proofs.told.first_closed.Goals as goal

pub returns-then-branch : goal.returns-then-branch
returns-then-branch g c =
    let leads = g.E.Edges.leads c.args.edges.now in
    apart_none g.E.Set.ToldSet.named leads c.args.starts.items c.args.to.now
    (subst (λ starts. IsLedTo leads starts c.args.to.now → ⊥) c.as_slice.ensures.value (c.in_ok-are_apart.ensures c.if-branch.true))

pub returns-in-Some : goal.returns-in-Some
returns-in-Some g c =
    let named = g.E.Set.ToldSet.named in
    let least = subst (λ found. IsLeastTold named c.as_slice-2.result.now (option_copied found)) c.in-Some.is c.least_told.ensures in
    subst (λ name. IsFirstClosed named (g.E.Edges.leads c.args.edges.now) c.args.starts.items c.args.to.now (Some name)) (sym c.in_ok-copy-in-Some.ensures)
    (least_closed named (g.E.Edges.leads c.args.edges.now) c.args.starts.items c.args.to.now c.in_ok-closed.closed.items c.in_ok-closed.ensures.keys (Some c.in-Some.name.now)
    (subst (λ keys. IsLeastTold named keys (Some c.in-Some.name.now)) c.as_slice-2.ensures.value least))

pub returns : goal.returns
returns g c =
    let named = g.E.Set.ToldSet.named in
    let least = subst (λ found. IsLeastTold named c.as_slice-2.result.now (option_copied found)) c.in-None.is c.least_told.ensures in
    least_closed named (g.E.Edges.leads c.args.edges.now) c.args.starts.items c.args.to.now c.in_ok-closed.closed.items c.in_ok-closed.ensures.keys None
    (subst (λ keys. IsLeastTold named keys None) c.as_slice-2.ensures.value least)
