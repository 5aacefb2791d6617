use Rattle.std.proofs.Common.{arith}
use Rattle.mu_outside.specs.declared.calls.Call.TheVariants.{Silent, Told}
use Rattle.mu_outside.proofs.CallLemmas.{passes, telling, tell_fails_output, tell_fails_inside, told_output, told_notes, tell_fails_notes, told_keeps, tell_fails_keeps}
use Rattle.mu_outside.proofs.desks.DeskOutside.tell.Goals as goal

pub returns-in_err-tell_call-clause-output : goal.returns-in_err-tell_call-clause-output
returns-in_err-tell_call-clause-output c = tell_fails_output c.args.piece.now c.args.self.now c.tell_call.new.self c.from_residual.result c.from_residual.ensures.0 c.in_err-tell_call.ensures.err

pub returns-in_err-tell_call-clause-rest : goal.returns-in_err-tell_call-clause-rest
returns-in_err-tell_call-clause-rest c = tell_fails_keeps c.args.self.now c.tell_call.new.self c.in_err-tell_call.ensures.err

pub returns-in_err-tell_call-clause-time : goal.returns-in_err-tell_call-clause-time
returns-in_err-tell_call-clause-time c = passes c.args.self.now c.tell_call.new.self Silent (tell_fails_notes c.args.self.now c.tell_call.new.self c.in_err-tell_call.ensures.err)

pub returns-in_err-tell_call-clause-inside : goal.returns-in_err-tell_call-clause-inside
returns-in_err-tell_call-clause-inside c = tell_fails_inside c.args.piece.now c.args.self.now c.tell_call.new.self c.from_residual.result c.from_residual.ensures.0 c.in_err-tell_call.ensures.err

pub returns-clause-output : goal.returns-clause-output
returns-clause-output c = (c.requires, omega arith, told_output c.args.piece.now c.args.self.now c.tell_call.new.self c.in_ok-tell_call.ensures.ok)

pub returns-clause-rest : goal.returns-clause-rest
returns-clause-rest c = told_keeps c.args.piece.now c.args.self.now c.tell_call.new.self c.in_ok-tell_call.ensures.ok

pub returns-clause-time : goal.returns-clause-time
returns-clause-time c = passes c.args.self.now c.tell_call.new.self (Told c.args.piece.now) (told_notes c.args.piece.now c.args.self.now c.tell_call.new.self c.in_ok-tell_call.ensures.ok)

pub returns-clause-inside : goal.returns-clause-inside
returns-clause-inside c = telling c.args.piece.now c.args.self.now c.tell_call.new.self c.in_ok-tell_call.ensures.ok
