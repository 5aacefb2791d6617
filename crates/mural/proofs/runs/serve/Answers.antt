use Rattle.std.proofs.Common.{◌≡◌, ◌∙◌, ◌-◌, ◌^◌, ◌<◌, ◌≤◌, ◌++◌, ℕ, List, length, take, drop, min, sym, ap, arith, rules, length-append}
use Rattle.std.proofs.lemmas.List.{length-take, length-take-le, length-drop}
use Rattle.std.specs.Io.KnownBytes.{append_known, prepend_known}
use Rattle.mural.specs.Lines.{most_input}
use Rattle.mu_flat.specs.Entries.{initial}
use Rattle.mural.specs.Replies.{replies, told_bytes, some_refused}
use Rattle.mural.proofs.Ends.{served_on, taken_part, stop_front, input_too_long, input_ends, all_due, front_due, ended_stop, ended_done}
use Rattle.mural.proofs.Known.{prepend_twice, whole_input}
use Rattle.mural.proofs.runs.serve.Goals as goal

pub returns-in-Err-clause-ended : goal.returns-in-Err-clause-ended
returns-in-Err-clause-ended g c input is =
    let start = (g.O.Outside.observed c.args.out.now).told in
    let bytes : List ℕ = c.loop-taken.invariant.0 in
    let i = c.loop-taken.invariant.1 in
    let all = whole_input (g.O.Outside.observed c.args.out.now).left (g.O.Outside.observed c.loop-taken.out).left bytes input i.left is in
    (bytes, all.0, record { input_is = all.1; left = c.in-Err.ensures.input ∙ all.2; told = c.take.ensures.rest.told ∙ i.served.told_is })

pub returns-in-Err-feed-clause-ended : goal.returns-in-Err-feed-clause-ended
returns-in-Err-feed-clause-ended g c input is =
    let start = (g.O.Outside.observed c.args.out.now).told in
    let bytes : List ℕ = c.loop-taken.invariant.0 in
    let i = c.loop-taken.invariant.1 in
    let n = c.in-Ok.taken in
    let due = c.min-due.result in
    let buf = c.take.new.buf in
    let due_is : due ≡ min n (2 ^ 28 - c.loop-taken.count) = search rules in
    let served = served_on start (g.O.Outside.observed c.loop-taken.out).told (g.O.Outside.observed c.take.new.self).told bytes c.loop-taken.interpreter.machine c.loop-taken.interpreter.line.items c.loop-taken.interpreter.refused i.served c.take.ensures.rest.told in
    let left = taken_part (g.O.Outside.observed c.args.out.now).left (g.O.Outside.observed c.loop-taken.out).left (g.O.Outside.observed c.take.new.self).left bytes buf n due i.left c.in-Ok.ensures.input.1 (omega (arith, due_is)) in
    let most : length (bytes ++ take due buf) ≤ most_input = omega (arith, due_is, i.count, i.most, length-append bytes (take due buf), length-take due buf) in
    ended_stop input start (g.O.Outside.observed c.feed.new.out) c.in-Err-feed.stop c.status_of.result c.status_of.ensures
    (stop_front start (g.O.Outside.observed c.feed.new.out).told (g.O.Outside.observed c.args.out.now).left (prepend_known (drop due (take n buf)) (g.O.Outside.observed c.take.new.self).left) (bytes ++ take due buf) input left is most
    (c.in-Err-feed.ensures.front start bytes served))

pub returns-then-due-taken-clause-ended : goal.returns-then-due-taken-clause-ended
returns-then-due-taken-clause-ended g c input is =
    let start = (g.O.Outside.observed c.args.out.now).told in
    let bytes : List ℕ = c.loop-taken.invariant.0 in
    let i = c.loop-taken.invariant.1 in
    let n = c.in-Ok.taken in
    let due = c.min-due.result in
    let buf = c.take.new.buf in
    let due_is : due ≡ min n (2 ^ 28 - c.loop-taken.count) = search rules in
    let served = served_on start (g.O.Outside.observed c.loop-taken.out).told (g.O.Outside.observed c.take.new.self).told bytes c.loop-taken.interpreter.machine c.loop-taken.interpreter.line.items c.loop-taken.interpreter.refused i.served c.take.ensures.rest.told in
    let left = taken_part (g.O.Outside.observed c.args.out.now).left (g.O.Outside.observed c.loop-taken.out).left (g.O.Outside.observed c.take.new.self).left bytes buf n due i.left c.in-Ok.ensures.input.1 (omega (arith, due_is)) in
    let size : length (take due buf) ≡ due = length-take-le due buf (omega (arith, due_is, c.in-Ok.ensures.input.0)) in
    let full : length (bytes ++ take due buf) ≡ most_input = omega (arith, due_is, i.count, i.most, size, length-append bytes (take due buf), c.if-due-taken.true) in
    let some : 0 < length (drop due (take n buf)) = omega (arith, length-drop due (take n buf), length-take-le n buf c.in-Ok.ensures.input.0, c.if-due-taken.true) in
    let long = input_too_long (g.O.Outside.observed c.args.out.now).left (g.O.Outside.observed c.take.new.self).left (bytes ++ take due buf) (drop due (take n buf)) input left is full some in
    (long.0, (c.in-Ok-feed.ensures.served start bytes served).told_is ∙ ap (λ (l : List (List ℕ)). append_known start (told_bytes (replies initial l))) long.1)

pub loop-taken-preserved : goal.loop-taken-preserved
loop-taken-preserved g c =
    let start = (g.O.Outside.observed c.args.out.now).told in
    let bytes : List ℕ = c.loop-taken.invariant.0 in
    let i = c.loop-taken.invariant.1 in
    let n = c.in-Ok.taken in
    let due = c.min-due.result in
    let buf = c.take.new.buf in
    let due_is : due ≡ min n (2 ^ 28 - c.loop-taken.count) = search rules in
    let served = served_on start (g.O.Outside.observed c.loop-taken.out).told (g.O.Outside.observed c.take.new.self).told bytes c.loop-taken.interpreter.machine c.loop-taken.interpreter.line.items c.loop-taken.interpreter.refused i.served c.take.ensures.rest.told in
    let size : length (take due buf) ≡ due = length-take-le due buf (omega (arith, due_is, c.in-Ok.ensures.input.0)) in
    let all : due ≡ n = omega (arith, due_is, c.if-due-taken.false) in (
      bytes ++ take due buf,
      record {
        left = i.left ∙ ap (prepend_known bytes) (c.in-Ok.ensures.input.1 ∙ ap (λ m. prepend_known (take m buf) (g.O.Outside.observed c.take.new.self).left) (sym all))
            ∙ prepend_twice bytes (take due buf) (g.O.Outside.observed c.take.new.self).left ∙ ap (prepend_known (bytes ++ take due buf)) (sym c.feed.ensures.rest.left);
        served = c.in-Ok-feed.ensures.served start bytes served;
        count = omega (arith, i.count, size, length-append bytes (take due buf));
        most = omega (arith, due_is, i.count, i.most, size, length-append bytes (take due buf));
        read = omega (arith, i.read, c.take.ensures.cause.later, c.feed.ensures.rest.read_faults);
        tell = omega (arith, i.tell, c.take.ensures.rest.tell_faults, c.feed.ensures.later);
      },
    )

pub returns-in-Ok-finish-clause-ended : goal.returns-in-Ok-finish-clause-ended
returns-in-Ok-finish-clause-ended g c input is =
    let start = (g.O.Outside.observed c.args.out.now).told in
    let bytes : List ℕ = c.loop-taken.invariant.0 in
    let i = c.loop-taken.invariant.1 in
    let served = served_on start (g.O.Outside.observed c.loop-taken.out).told (g.O.Outside.observed c.take.new.self).told bytes c.loop-taken.interpreter.machine c.loop-taken.interpreter.line.items c.loop-taken.interpreter.refused i.served c.take.ensures.rest.told in
    let end = input_ends (g.O.Outside.observed c.args.out.now).left (g.O.Outside.observed c.loop-taken.out).left (g.O.Outside.observed c.take.new.self).left bytes c.take.new.buf input c.in-Ok.taken i.left is
    (c.in-Ok.ensures.input.2 c.if-taken-eq0.true) c.in-Ok.ensures.input.1 in
    let due = all_due input bytes end.0 i.most in
    ended_done input start (g.O.Outside.observed c.finish.new.out) c.finish.new.self.refused c.done.result c.done.ensures
    (record {
      within = omega (arith, ap length end.0, i.most);
      read = c.finish.ensures.rest.left ∙ end.1;
      told = c.in-Ok-finish.ensures.told start bytes served ∙ ap (λ l. append_known start (told_bytes l)) due;
    })
    (c.in-Ok-finish.ensures.refused start bytes served ∙ ap some_refused due)

pub returns-clause-ended : goal.returns-clause-ended
returns-clause-ended g c input is =
    let start = (g.O.Outside.observed c.args.out.now).told in
    let bytes : List ℕ = c.loop-taken.invariant.0 in
    let i = c.loop-taken.invariant.1 in
    let served = served_on start (g.O.Outside.observed c.loop-taken.out).told (g.O.Outside.observed c.take.new.self).told bytes c.loop-taken.interpreter.machine c.loop-taken.interpreter.line.items c.loop-taken.interpreter.refused i.served c.take.ensures.rest.told in
    let end = input_ends (g.O.Outside.observed c.args.out.now).left (g.O.Outside.observed c.loop-taken.out).left (g.O.Outside.observed c.take.new.self).left bytes c.take.new.buf input c.in-Ok.taken i.left is
    (c.in-Ok.ensures.input.2 c.if-taken-eq0.true) c.in-Ok.ensures.input.1 in
    ended_stop input start (g.O.Outside.observed c.finish.new.out) c.in-Err-finish.stop c.status_of-in-Err-finish.result c.status_of-in-Err-finish.ensures
    (front_due start (g.O.Outside.observed c.finish.new.out).told input bytes end.0 i.most (c.in-Err-finish.ensures.front start bytes served))
