use Rattle.std.proofs.Common.{◌∙◌, sym, ap, subst, refl, Some}
use Rattle.std.specs.Prelude.{is_some, IsSome}
use Rattle.std.specs.Option.{unwrap_or}
use Rattle.std.specs.FinMap as map
use Rattle.mu_tree.proofs.TableLemmas.{get_name, one_put}
use Rattle.mu_tree.proofs.table.Table.swap.Goals as goal

pub returns-in_default-clause-found : goal.returns-in_default-clause-found
returns-in_default-clause-found g c =
    ap is_some (c.in_default.ensures.value ∙ sym (get_name c.self.inside.entries.entries c.args.name.now) ∙ ap (λ m. map.get m c.args.name.now) c.self.view_is)

pub returns-in_default-clause-value : goal.returns-in_default-clause-value
returns-in_default-clause-value g c =
    ap (λ o. unwrap_or o c.args.value.now)
    (c.in_default.ensures.value ∙ sym (get_name c.self.inside.entries.entries c.args.name.now) ∙ ap (λ m. map.get m c.args.name.now) c.self.view_is)

pub returns-clause-found : goal.returns-clause-found
returns-clause-found g c =
    ap is_some (c.in-Some.ensures.value ∙ sym (get_name c.self.inside.entries.entries c.args.name.now) ∙ ap (λ m. map.get m c.args.name.now) c.self.view_is)

pub returns-clause-value : goal.returns-clause-value
returns-clause-value g c =
    c.swap.ensures.y_after
    ∙ ap (λ o. unwrap_or o c.args.value.now)
    (c.in-Some.ensures.value ∙ sym (get_name c.self.inside.entries.entries c.args.name.now) ∙ ap (λ m. map.get m c.args.name.now) c.self.view_is)

pub returns-clause-there : goal.returns-clause-there
returns-clause-there g c found =
    let written = c.get_mut.follows.holds c.swap.new.x in
    let some : IsSome (Some c.in-Some.there.now) = refl in
    one_put c.self.inside.entries (c.get_mut.follows.lender c.swap.new.x) c.args.name.now c.swap.new.x (written.3 (subst IsSome c.in-Some.ensures.value some))
    ∙ ap (map.insert _ c.args.name.now) c.swap.ensures.x_after
    ∙ ap (λ m. map.insert m c.args.name.now c.args.value.now) c.self.view_is
