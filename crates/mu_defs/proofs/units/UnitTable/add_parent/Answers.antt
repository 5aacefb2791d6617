use Rattle.std.proofs.Common.{◌≡◌, ◌∙◌, ℕ, List, None, sym, ap, subst}
use Rattle.std.specs.Prelude.{Option, OnOk, OnErr}
use Rattle.std.specs.Option.{option_map_or}
use Rattle.std.specs.FinMap as finite
use Rattle.std.proofs.lemmas.Result.{on_ok_weaker, on_err_weaker}
use Rattle.mu_tree.specs.Maps.{MapOf, NamesOf}
use Rattle.mu_defs.specs.Indexes.{with_member}
use Rattle.mu_defs.specs.Units.{with_parent, first_unit, IsKept}
use Rattle.mu_defs.proofs.IndexLemmas.{keeps_added}
use Rattle.mu_defs.proofs.LentValues.{left_alone, where_lent}
use Rattle.mu_defs.proofs.Settled.{settled}
use Rattle.mu_defs.proofs.UnitLemmas.{kept_more, kept_with}
use Rattle.mu_defs.proofs.units.UnitTable.add_parent.Goals as goal

-- what is lent stands at the unit afterwards
written : (c : goal.After-self-in-Some-1) → c.get_mut.follows.lender c.add-in-Some.new.self ≡ finite.insert c.self.inside.parents c.args.unit.now c.add-in-Some.new.self
written c = where_lent c.get_mut.result c.in-Some.parents c.in-Some.is (c.get_mut.follows.holds c.add-in-Some.new.self)

-- so the unit has the parent
parent_there : (c : goal.After-self-in-Some-1) → OnOk c.add-in-Some.result (c.get_mut.follows.lender c.add-in-Some.new.self ≡ with_parent c.self.inside.parents c.args.unit.now c.args.parent)
parent_there c = on_ok_weaker c.add-in-Some.result (λ put.
    written c
    ∙ ap (finite.insert c.self.inside.parents c.args.unit.now) put
    ∙ ap (λ (found : Option NamesOf). finite.insert c.self.inside.parents c.args.unit.now (finite.insert (option_map_or (λ (names : NamesOf). names) found finite.empty) c.args.parent tt)) c.in-Some.ensures.value) c.add-in-Some.ensures.ok

-- or those that it had
as_before : (c : goal.After-self-in-Some-1) → OnErr c.add-in-Some.result (c.get_mut.follows.lender c.add-in-Some.new.self ≡ c.self.inside.parents)
as_before c = on_err_weaker c.add-in-Some.result (λ kept.
    left_alone c.self.inside.parents (c.get_mut.follows.lender c.add-in-Some.new.self) c.args.unit.now c.in-Some.parents.now c.add-in-Some.new.self c.in-Some.ensures.value (written c) kept) c.add-in-Some.ensures.err

pub invariant_of-self-2 : goal.invariant_of-self-2
invariant_of-self-2 c =
    let children : c.add.new.self ≡ with_member c.self.inside.children c.args.parent c.args.unit.now =
    c.in_ok-add.ensures.ok ∙ ap (λ (name : List ℕ). with_member c.self.inside.children name c.in_ok-copy-2.field-0) c.in_ok-copy.ensures ∙ ap (with_member c.self.inside.children c.args.parent) c.in_ok-copy-2.ensures in
    let after = with_member c.self.inside.children c.args.parent c.args.unit.now in
    let before : IsKept (record c.self.inside { children = after }) = kept_more c.self.inside c.self.invariant after (keeps_added c.self.inside.children c.args.parent c.args.unit.now) in
    subst (λ (all : MapOf NamesOf). IsKept (record { parents = c.get_mut.follows.lender c.add-in-Some.new.self; children = all })) (sym children)
    (settled (λ (units : MapOf NamesOf). IsKept (record { parents = units; children = after })) c.self.inside.parents (with_parent c.self.inside.parents c.args.unit.now c.args.parent) (c.get_mut.follows.lender c.add-in-Some.new.self)
    c.add-in-Some.result (parent_there c) (as_before c) before
    (kept_with c.self.inside c.self.invariant c.args.unit.now c.args.parent (subst (λ (units : MapOf NamesOf). first_unit (with_parent units c.args.unit.now c.args.parent) ≡ None) (sym c.self.view_is) c.requires.free)))

pub returns-clause-ok : goal.returns-clause-ok
returns-clause-ok c = on_ok_weaker c.add-in-Some.result (λ is. is ∙ ap (λ (units : MapOf NamesOf). with_parent units c.args.unit.now c.args.parent) c.self.view_is) (parent_there c)

pub returns-clause-err : goal.returns-clause-err
returns-clause-err c = on_err_weaker c.add-in-Some.result (λ is. is ∙ c.self.view_is) (as_before c)
