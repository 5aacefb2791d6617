use Rattle.std.proofs.Common.{◌≡◌, ◌∙◌, ℕ, List, sym, ap, subst}
use Rattle.std.specs.FinMap as finite
use Rattle.mu_tree.specs.Maps.{MapOf, NamesOf}
use Rattle.mu_defs.specs.Indexes.{with_member, HasAll}
use Rattle.mu_defs.proofs.IndexLemmas.{keeps_added, has_all_more, has_all_added}
use Rattle.mu_defs.proofs.Settled.{settled}
use Rattle.mu_defs.proofs.owned_table.OwnedTable.put.Goals as goal

pub invariant_of-self-2 : goal.invariant_of-self-2
invariant_of-self-2 g c =
    let owner = g.V.Owned.owner in
    let after = with_member c.self.inside.by_owner (owner c.args.value) c.args.name in
    let added : c.add.new.self ≡ after =
    c.in_ok-add.ensures.ok
    ∙ ap (λ (under : List ℕ). with_member c.self.inside.by_owner under c.in_ok-copy-2.field-0) (c.in_ok-copy.ensures ∙ c.owner.ensures)
    ∙ ap (with_member c.self.inside.by_owner (owner c.args.value)) c.in_ok-copy-2.ensures in
    subst (λ (index : MapOf NamesOf). HasAll owner c.put.new.self index) (sym added)
    (settled (λ (values : MapOf g.row.V.Denot). HasAll owner values after) c.self.inside.values (finite.insert c.self.inside.values c.args.name c.args.value) c.put.new.self
    c.put.result c.put.ensures.ok c.put.ensures.err
    (has_all_more owner c.self.inside.values c.self.inside.by_owner after (keeps_added c.self.inside.by_owner (owner c.args.value) c.args.name) c.self.invariant)
    (has_all_added owner c.self.inside.values c.self.inside.by_owner c.args.name c.args.value c.self.invariant))
