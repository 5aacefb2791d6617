use Rattle.std.proofs.Common.{◌≡◌, ◌∙◌, ℕ, true, false, List, [], ◌∷◌, refl, sym, subst, rules}
use Rattle.mural.specs.Lines.{is_line_feed, whole_lines}
use Rattle.mural.specs.Interpreter.{TellsFront}
use Rattle.mural.proofs.Serving.{served_feed, front_feed, served_byte, front_all, front_longer, line_room, line_full, on_err}
use Rattle.mural.proofs.Pieces.{whole_lines-append}
use Rattle.mural.proofs.interpreter.Interpreter.feed_byte.Goals as goal

pub returns-in_err-respond-clause-front : goal.returns-in_err-respond-clause-front
returns-in_err-respond-clause-front g c =
    let feeds : is_line_feed c.args.byte ≡ true = search rules in
    let front = c.in_err-respond.ensures.front in
    on_err c.from_residual.result (λ start bytes served. front_feed start bytes c.args.self.now.machine c.args.self.now.line.items c.args.self.now.refused
    (g.O.Outside.observed c.args.out.now).told served c.args.byte front.0 (g.O.Outside.observed c.respond.new.out).told feeds front.1)

pub returns-then-byte-eq10-clause-served : goal.returns-then-byte-eq10-clause-served
returns-then-byte-eq10-clause-served g c =
    let feeds : is_line_feed c.args.byte ≡ true = search rules in
    λ start bytes served. served_feed start bytes c.args.self.now.machine c.args.self.now.line.items c.args.self.now.refused
    (g.O.Outside.observed c.args.out.now).told served c.args.byte c.respond.new.self.machine c.clear.new.self.items c.respond.new.self.refused (g.O.Outside.observed c.respond.new.out).told
    feeds c.in_ok-respond.ensures.store c.clear.ensures.items c.in_ok-respond.ensures.refused c.in_ok-respond.ensures.told

pub returns-in_err-push-clause-front : goal.returns-in_err-push-clause-front
returns-in_err-push-clause-front g c =
    on_err c.from_residual-in_err-push.result (λ start bytes served.
    let more = whole_lines-append bytes (c.args.byte ∷ []) in
    subst (λ (l : List (List ℕ)). TellsFront start l (g.O.Outside.observed c.args.out.now).told) (sym more.1)
    (front_longer start (g.O.Outside.observed c.args.out.now).told (whole_lines bytes) more.0 (front_all start (g.O.Outside.observed c.args.out.now).told (whole_lines bytes) served.told_is)))

pub returns-in_ok-push-clause-served : goal.returns-in_ok-push-clause-served
returns-in_ok-push-clause-served g c =
    let other : is_line_feed c.args.byte ≡ false = search rules in
    λ start bytes served. served_byte start bytes c.args.self.now.machine c.args.self.now.line.items c.args.self.now.refused
    (g.O.Outside.observed c.args.out.now).told served c.args.byte c.args.self.now.machine c.push.new.self.items c.args.self.now.refused (g.O.Outside.observed c.args.out.now).told
    other refl
    (c.in_ok-push.ensures.items ∙ line_room start bytes c.args.self.now.machine c.args.self.now.line.items c.args.self.now.refused (g.O.Outside.observed c.args.out.now).told served c.args.byte (search rules))
    refl refl

pub returns-else-len-le-LONGEST_LINE-clause-served : goal.returns-else-len-le-LONGEST_LINE-clause-served
returns-else-len-le-LONGEST_LINE-clause-served g c =
    let other : is_line_feed c.args.byte ≡ false = search rules in
    λ start bytes served. served_byte start bytes c.args.self.now.machine c.args.self.now.line.items c.args.self.now.refused
    (g.O.Outside.observed c.args.out.now).told served c.args.byte c.args.self.now.machine c.args.self.now.line.items c.args.self.now.refused (g.O.Outside.observed c.args.out.now).told
    other refl
    (line_full start bytes c.args.self.now.machine c.args.self.now.line.items c.args.self.now.refused (g.O.Outside.observed c.args.out.now).told served c.args.byte (search rules))
    refl refl
