use Rattle.std.proofs.Common.{◌<◌, length, take, ◌++◌, rules}
use Rattle.mural.proofs.Serving.{front_part, on_err}
use Rattle.mural.proofs.interpreter.Interpreter.feed.Goals as goal

pub returns-in_err-feed_byte-clause-front : goal.returns-in_err-feed_byte-clause-front
returns-in_err-feed_byte-clause-front g c =
    let bytes = c.args.bytes.now in
    let i = c.loop-byte.byte-index in
    let lt : i < length bytes = search rules in
    let front = c.in_err-feed_byte.ensures.front in
    on_err c.from_residual.result (λ start first served.
    front_part start (g.O.Outside.observed c.feed_byte.new.out).told first bytes i lt (front start (first ++ take i bytes) (c.loop-byte.invariant.served start first served)))
