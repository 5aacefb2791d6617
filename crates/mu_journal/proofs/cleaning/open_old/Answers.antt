use Rattle.std.proofs.Common.{◌≡◌, ◌∙◌, List, ℕ}
use Rattle.mu_journal.specs.Formats.{opened}
use Rattle.mu_journal.proofs.Moments.{with_on}
use Rattle.mu_journal.proofs.Repairs.{look_opens, parsed_end, settled_at}
use Rattle.mu_journal.proofs.Shown.{at_rest_content}
use Rattle.mu_journal.proofs.cleaning.open_old.Goals as goal

pub returns-in_err-close_gate-clause-any_moment : goal.returns-in_err-close_gate-clause-any_moment
returns-in_err-close_gate-clause-any_moment g c bytes is =
    let found = c.in_ok-found.found in
    let known = at_rest_content (g.O.Outside.observed c.args.out.now) bytes is in
    let len = c.requires.length bytes known in
    let looks = c.read_records.ensures.looks in
    let parsed = c.in_ok-found.ensures.parsed bytes known len in
    let end = c.in_ok-found.ensures.end bytes known len in
    let opens = λ (image : List ℕ). opened image ≡ opened bytes in
    let first = look_opens g.O.Outside.observed g.O.Outside.moment c.args.out.now c.read_records.new.out bytes looks is in
    let second = with_on g.O.Outside.observed g.O.Outside.moment c.args.out.now c.read_records.new.out c.cut_end.new.out opens first looks.within.rest.told (c.cut_end.ensures.any_moment bytes found.records found.gate (looks.disk ∙ is) len parsed end) in
    let cut = c.in_ok-cut_end.ensures.done bytes found.records found.gate (looks.disk ∙ is) len parsed end in
    with_on g.O.Outside.observed g.O.Outside.moment c.args.out.now c.cut_end.new.out c.close_gate.new.out opens second (c.cut_end.ensures.rest.told ∙ looks.within.rest.told) (c.close_gate.ensures.any_moment bytes found.records cut parsed end)

pub returns-clause-any_moment : goal.returns-clause-any_moment
returns-clause-any_moment g c bytes is =
    let found = c.in_ok-found.found in
    let known = at_rest_content (g.O.Outside.observed c.args.out.now) bytes is in
    let len = c.requires.length bytes known in
    let looks = c.read_records.ensures.looks in
    let parsed = c.in_ok-found.ensures.parsed bytes known len in
    let end = c.in_ok-found.ensures.end bytes known len in
    let opens = λ (image : List ℕ). opened image ≡ opened bytes in
    let first = look_opens g.O.Outside.observed g.O.Outside.moment c.args.out.now c.read_records.new.out bytes looks is in
    let second = with_on g.O.Outside.observed g.O.Outside.moment c.args.out.now c.read_records.new.out c.cut_end.new.out opens first looks.within.rest.told (c.cut_end.ensures.any_moment bytes found.records found.gate (looks.disk ∙ is) len parsed end) in
    let cut = c.in_ok-cut_end.ensures.done bytes found.records found.gate (looks.disk ∙ is) len parsed end in
    with_on g.O.Outside.observed g.O.Outside.moment c.args.out.now c.cut_end.new.out c.close_gate.new.out opens second (c.cut_end.ensures.rest.told ∙ looks.within.rest.told) (c.close_gate.ensures.any_moment bytes found.records cut parsed end)

pub returns-clause-ok : goal.returns-clause-ok
returns-clause-ok g c bytes is =
    let found = c.in_ok-found.found in
    let known = at_rest_content (g.O.Outside.observed c.args.out.now) bytes is in
    let len = c.requires.length bytes known in
    let looks = c.read_records.ensures.looks in
    let parsed = c.in_ok-found.ensures.parsed bytes known len in
    let end = c.in_ok-found.ensures.end bytes known len in
    let cut = c.in_ok-cut_end.ensures.done bytes found.records found.gate (looks.disk ∙ is) len parsed end in
    (parsed_end bytes found.records found.at parsed found.gate end, c.in_ok-close_gate.ensures.done bytes found.records cut parsed end, settled_at bytes found.records found.at parsed)
