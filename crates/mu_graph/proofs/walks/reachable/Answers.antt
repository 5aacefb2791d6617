use Rattle.mu_graph.proofs.walks.reachable.Goals as goal

pub returns-clause-keys : goal.returns-clause-keys
returns-clause-keys g c n =
    let found = c.in_ok-keys.ensures in (
      λ s. (found.marks n).0 (found.lists.marks n s),
      λ led. found.lists.marked_stand n ((found.marks n).1 led),
    )
