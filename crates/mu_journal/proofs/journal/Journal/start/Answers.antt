use Rattle.std.proofs.Common.{◌≡◌, ◌∙◌, [], List, ℕ, Some, length, sym, subst, arith}
use Rattle.mu_outside.specs.Disks.{Disk, at_rest}
use Rattle.mu_outside.specs.Outsides.{content}
use Rattle.mu_journal.specs.Formats.{closed, opened}
use Rattle.mu_journal.specs.Settled.{SettledAt}
use Rattle.mu_journal.specs.Opening.{OpensTo}
use Rattle.mu_journal.proofs.Moments.{look_on, look_one, with_on}
use Rattle.mu_journal.proofs.Repairs.{opens_short, opens_no_head, no_head, look_opens, settled_new, again_from}
use Rattle.mu_journal.proofs.Shown.{some_of, at_rest_content, same_content}
use Rattle.mu_journal.proofs.journal.Journal.start.Goals as goal

pub returns-then-len-le9-clause-ok : goal.returns-then-len-le9-clause-ok
returns-then-len-le9-clause-ok g c bytes is =
    let known = at_rest_content (g.O.Outside.observed c.args.out.now) bytes is in
    let len : c.in_ok-len.len ≡ length bytes = some_of (content (g.O.Outside.observed c.args.out.now)) bytes _ known c.in_ok-len.ensures.value in
    let done = c.in_ok-open_new.ensures.done bytes (c.read_front.ensures.looks.disk ∙ c.length.ensures.disk ∙ is) (omega (arith, len)) in
    let none : c.new.result ≡ [] = c.new.ensures in
    subst (λ (rows : List (List ℕ)). OpensTo bytes rows × ((x : Disk) × ((g.O.Outside.observed c.open_new.new.out).disk ≡ Some x) × SettledAt x rows 9)) (sym none)
    (opens_short bytes (omega (arith, len)), (at_rest (closed []), done, settled_new))

pub returns-then-len-le9-clause-again : goal.returns-then-len-le9-clause-again
returns-then-len-le9-clause-again g c =
    let same = c.read_front.ensures.looks.disk ∙ c.length.ensures.disk in
    again_from (g.O.Outside.observed c.args.out.now).disk (g.O.Outside.observed c.open_new.new.out).disk 9 c.requires.rests (λ none. c.in_ok-open_new.ensures.unknown (same ∙ none)) (λ bytes is.
    let known = at_rest_content (g.O.Outside.observed c.args.out.now) bytes is in
    let len : c.in_ok-len.len ≡ length bytes = some_of (content (g.O.Outside.observed c.args.out.now)) bytes _ known c.in_ok-len.ensures.value in
    ([], at_rest (closed []), c.in_ok-open_new.ensures.done bytes (same ∙ is) (omega (arith, len)), settled_new))

pub returns-then-ne-clause-not_journal : goal.returns-then-ne-clause-not_journal
returns-then-ne-clause-not_journal g c _ bytes is =
    let known = at_rest_content (g.O.Outside.observed c.args.out.now) bytes is in
    let len : c.in_ok-len.len ≡ length bytes = some_of (content (g.O.Outside.observed c.args.out.now)) bytes _ known c.in_ok-len.ensures.value in
    let there = same_content (g.O.Outside.observed c.args.out.now) (g.O.Outside.observed c.length.new.self) bytes c.length.ensures.disk known in
    let front = c.in_ok-front.ensures.front bytes there (omega (arith, len)) in
    opens_no_head bytes (omega (arith, len)) (no_head bytes c.in_ok-front.front front c.if-ne.ensures)

pub returns-then-ne-clause-any_moment : goal.returns-then-ne-clause-any_moment
returns-then-ne-clause-any_moment g c bytes is =
    let looked = look_one g.O.Outside.observed g.O.Outside.moment c.args.out.now c.length.new.self c.length.ensures.disk c.length.ensures.rest c.length.ensures.cause.later c.length.ensures.time c.length.ensures.inside in
    let looks = look_on g.O.Outside.observed g.O.Outside.moment c.args.out.now c.length.new.self c.read_front.new.out looked c.read_front.ensures.looks in
    look_opens g.O.Outside.observed g.O.Outside.moment c.args.out.now c.read_front.new.out bytes looks is

pub returns-clause-any_moment : goal.returns-clause-any_moment
returns-clause-any_moment g c bytes is =
    let looked = look_one g.O.Outside.observed g.O.Outside.moment c.args.out.now c.length.new.self c.length.ensures.disk c.length.ensures.rest c.length.ensures.cause.later c.length.ensures.time c.length.ensures.inside in
    let looks = look_on g.O.Outside.observed g.O.Outside.moment c.args.out.now c.length.new.self c.read_front.new.out looked c.read_front.ensures.looks in
    with_on g.O.Outside.observed g.O.Outside.moment c.args.out.now c.read_front.new.out c.open_old.new.out (λ (image : List ℕ). opened image ≡ opened bytes)
    (look_opens g.O.Outside.observed g.O.Outside.moment c.args.out.now c.read_front.new.out bytes looks is) looks.within.rest.told (c.open_old.ensures.any_moment bytes (looks.disk ∙ is))
