use Rattle.std.proofs.Common.{◌≡◌, ◌<◌, [], length, refl, rules}
use Rattle.mural.proofs.Serving.{told_nothing, refused_nothing, told_last, refused_last, front_last, nothing_there, on_ok_map, on_err_map}
use Rattle.mural.proofs.interpreter.Interpreter.finish.Goals as goal

pub returns-then-is_empty-clause-told : goal.returns-then-is_empty-clause-told
returns-then-is_empty-clause-told g c =
    let none : c.args.self.now.line.items ≡ [] = nothing_there c.args.self.now.line.items (search rules) in
    λ start bytes served. told_nothing start bytes c.args.self.now.machine c.args.self.now.line.items c.args.self.now.refused (g.O.Outside.observed c.args.out.now).told served none
    (g.O.Outside.observed c.args.out.now).told refl

pub returns-then-is_empty-clause-refused : goal.returns-then-is_empty-clause-refused
returns-then-is_empty-clause-refused g c =
    let none : c.args.self.now.line.items ≡ [] = nothing_there c.args.self.now.line.items (search rules) in
    λ start bytes served. refused_nothing start bytes c.args.self.now.machine c.args.self.now.line.items c.args.self.now.refused (g.O.Outside.observed c.args.out.now).told served none

pub returns-clause-told : goal.returns-clause-told
returns-clause-told g c =
    let some : 0 < length c.args.self.now.line.items = search rules in
    on_ok_map c.respond.result (λ told start bytes served. told_last start bytes c.args.self.now.machine c.args.self.now.line.items c.args.self.now.refused (g.O.Outside.observed c.args.out.now).told served some
    (g.O.Outside.observed c.respond.new.out).told told) c.respond.ensures.told

pub returns-clause-refused : goal.returns-clause-refused
returns-clause-refused g c =
    let some : 0 < length c.args.self.now.line.items = search rules in
    on_ok_map c.respond.result (λ refused start bytes served. refused_last start bytes c.args.self.now.machine c.args.self.now.line.items c.args.self.now.refused (g.O.Outside.observed c.args.out.now).told served some
    c.respond.new.self.refused refused) c.respond.ensures.refused

pub returns-clause-front : goal.returns-clause-front
returns-clause-front g c =
    let some : 0 < length c.args.self.now.line.items = search rules in
    on_err_map c.respond.result (λ front start bytes served. front_last start bytes c.args.self.now.machine c.args.self.now.line.items c.args.self.now.refused (g.O.Outside.observed c.args.out.now).told served some
    (g.O.Outside.observed c.respond.new.out).told front.0 front.1) c.respond.ensures.front
