use Rattle.std.proofs.Common.{◌∙◌, sym, ap}
use Rattle.std.specs.Option.{option_copied_mut}
use Rattle.std.proofs.lemmas.Bool.{false≢true}
use Rattle.mu_defs.specs.Indexes.{without_member}
use Rattle.mu_defs.proofs.IndexLemmas.{without_absent, some_left, none_left}
use Rattle.mu_defs.proofs.LentValues.{where_lent}
use Rattle.mu_defs.proofs.indexes.Index.take_member.Goals as goal

pub returns-in_default-clause-some : goal.returns-in_default-clause-some
returns-in_default-clause-some c _ =
    c.get_mut.follows.holds-at-none
    ∙ sym (without_absent c.self.inside.by_name c.args.name.now c.args.member.now (sym c.get_mut.ensures.value ∙ ap option_copied_mut c.in_default.is))
    ∙ ap (λ index. without_member index c.args.name.now c.args.member.now) c.self.view_is

pub returns-clause-some : goal.returns-clause-some
returns-clause-some c some =
    some_left c.self.inside.by_name (c.get_mut.follows.lender c.take.new.self) c.args.name.now c.args.member.now c.in-Some.members.now c.take.new.self c.in-Some.ensures.value c.take.ensures.taken
    (where_lent c.get_mut.result c.in-Some.members c.in-Some.is (c.get_mut.follows.holds c.take.new.self)) (λ none. false≢true (sym some ∙ c.is_empty.ensures.1 none))
    ∙ ap (λ index. without_member index c.args.name.now c.args.member.now) c.self.view_is

pub returns-clause-none : goal.returns-clause-none
returns-clause-none c none =
    none_left c.self.inside.by_name (c.get_mut.follows.lender c.take.new.self) c.args.name.now c.args.member.now c.in-Some.members.now c.take.new.self c.in-Some.ensures.value c.take.ensures.taken
    (where_lent c.get_mut.result c.in-Some.members c.in-Some.is (c.get_mut.follows.holds c.take.new.self)) (c.is_empty.ensures.0 none)
    ∙ ap (λ index. without_member index c.args.name.now c.args.member.now) c.self.view_is
